-- What is said of an outcome does not depend on the cell that it leaves.
use mathlib.Core.Path.{◌≡◌, refl, ap, ◌∙◌}
use mathlib.Core.Bool.{Bool, true, false}
use Prim.Native.Nat.{ℕ, ◌+◌}
use lib.Dec.{leb}
use lib.ListN.{length}
use Rattle.std.specs.Prelude.{Ok, Err}
use Rattle.base.specs.Choice.{unless}
use Rattle.rules.specs.declared.channel.Cell.{Cell}
use Rattle.rules.specs.declared.rule.Outcome.{Outcome}
use Rattle.rules.specs.declared.step.StepRefusal.TheVariants.{NetworkFull}
use Rattle.rules.specs.Networks.{messages_of}
use Rattle.rig_parts.specs.declared.sweep.Sweep.TheVariants.{Nothing}
use Rattle.rig_parts.specs.declared.change.Scope.{Scope}
use Rattle.rig_parts.specs.RunVerdicts.{change, fitting_in}
use Rattle.board.specs.declared.act.Act.{Act}
use Rattle.board.specs.Acted.{act_of}

-- an outcome with another cell
abbrev with_cell : Outcome → Cell → Outcome
with_cell o x = record { sender = o.sender; receiver = o.receiver; cell = x; posting = o.posting; received = o.received }

-- whether it fits or not
same : (k : Scope) (o : Outcome) (x : Cell) (b : Bool)
    → act_of (unless b (Err NetworkFull) (Ok (change k o Nothing))) ≡ act_of (unless b (Err NetworkFull) (Ok (change k (with_cell o x) Nothing)))
same k o x true = refl
same k o x false = refl

-- what was said of an outcome is said of it with another cell
pub decided : (n used : ℕ) (k : Scope) (o : Outcome) {x : Cell} {q : Outcome} {r : Act} → with_cell o x ≡ q
    → r ≡ act_of (fitting_in n used (change k o Nothing)) → r ≡ act_of (fitting_in n used (change k q Nothing))
decided n used k o {x} e h =
    h ∙ same k o x (leb (used + length (messages_of n o.posting)) 256) ∙ ap (λ (z : Outcome). act_of (fitting_in n used (change k z Nothing))) e
