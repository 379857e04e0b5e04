-- A verdict carried out by what a rule leaves.
use mathlib.Core.Path.{◌≡◌, refl, sym}
use mathlib.Core.Bool.{Bool, true, false}
use mathlib.Core.List.{List}
use Prim.Native.Nat.{ℕ, ◌+◌, ◌≤◌}
use native.Mathlib.Omega.{arith}
use lib.Dec.{leb}
use lib.ListN.{length}
use borrow.Author.Tests.{ne_eqb}
use Rattle.std.specs.Prelude.{Ok, Err}
use Rattle.rules.specs.declared.rule.Outcome.{Outcome}
use Rattle.rules.specs.declared.step.StepRefusal.TheVariants.{NetworkFull}
use Rattle.rules.specs.Networks.{messages_of}
use Rattle.rules.specs.Systems.{cell_stored, task_stored}
use Rattle.rig_parts.specs.declared.sweep.Sweep.{Sweep}
use Rattle.rig_parts.specs.declared.sweep.Sweep.TheVariants.{Nothing}
use Rattle.rig_parts.specs.declared.change.Scope.{Scope}
use Rattle.rig_parts.specs.Fetches.{cell_put}
use Rattle.rig_parts.specs.RunVerdicts.{change, fitting_in}
use Rattle.board.specs.declared.act.Act.{Act}
use Rattle.board.specs.Acted.{refused_act, accepted_act}
use Rattle.board.specs.Lent.{Lent, Whole, tasks_of, store_of, parents_on}
use Rattle.board.specs.Acted.{Acted}

module _ (n used : ℕ) (k : Scope) {o q : Outcome} (ss rs : List ℕ) (e : o ≡ q) {b : Bool} (fits : b ≡ leb (used + length (messages_of n o.posting)) 256) {r : Act} where
  -- its letters do not fit
  pub none_fits : (sweep : Sweep) {before : Lent} → b ≡ false → r ≡ refused_act (Err NetworkFull) → Whole before.board
      → Acted ss rs (fitting_in n used (change k q sweep)) before r before
  none_fits sweep not er w =
      let v : fitting_in n used (change k q sweep) ≡ Err NetworkFull = rw (sym e, sym fits, not) refl in
      rw v (record { whole = w; act = er; tasks = refl; store = refl; parents = refl })

  -- what it leaves is stored
  pub all_stored : (before after : Lent) → 1 ≤ k.channel.0 → b ≡ true → Whole after.board
      → tasks_of after ≡ task_stored (task_stored (tasks_of before) k.sender o.sender) k.receiver o.receiver
      → store_of after ≡ cell_stored (store_of before) k.processor k.channel o.cell
      → parents_on after.board ≡ parents_on before.board
      → r ≡ accepted_act o
      → Acted ss rs (fitting_in n used (change k q Nothing)) before r after
  unfolding cell_put
  all_stored before after some ok w ts st ps er =
      let v : fitting_in n used (change k q Nothing) ≡ Ok (change k q Nothing) = rw (sym e, sym fits, ok) refl in
      rw v
      (record {
        whole = w;
        act = rw (sym e) er;
        tasks = rw (sym e) ts;
        store = rw (sym e, ne_eqb k.channel.0 0 (λ z. omega arith)) st;
        parents = ps;
      })
