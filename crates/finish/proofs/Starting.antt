-- What is lent at the start is the one-desk rig of the plan after no step; no line is written yet.
use mathlib.Core.Path.{◌≡◌, refl, sym, ◌∙◌}
use mathlib.Core.List.{List, [], ◌∷◌}
use Prim.Native.Nat.{ℕ}
use native.Mathlib.Omega.{arith}
use lib.ListN.{length}
use borrow.Author.Tests.{le-leb}
use Rattle.plan.specs.declared.Plan.{Plan}
use Rattle.rules.specs.declared.system.Tables.{Tables}
use Rattle.rules.specs.Numbers.{task_id, processor_id}
use Rattle.rules.specs.Starts.{no_tables}
use Rattle.rules.specs.Steps.{steps_by}
use Rattle.rules.specs.StepFiles.{text, fitting}
use Rattle.plan_index.specs.user_table.Built.{Built}
use Rattle.plan_index.specs.user_table.Users.{receivers_of}
use Rattle.rig_parts.specs.declared.sweep.CellRule.TheVariants.{Locate}
use Rattle.rig_parts.specs.Facts.{facts}
use Rattle.rig_parts.specs.Sweeps.{for_ends}
use Rattle.board.specs.Acted.{StoredBy}
use Rattle.board.specs.Lent.{lent}
use Rattle.rig.specs.start.Parts.{StartsOn}
use Rattle.run.specs.all_steps.Writes.{WrittenBy}
use Rattle.run.specs.file.Begins.{Begins}
use Rattle.run.proofs.file.Beginning.{facts_in_lem, begun}
use Rattle.claim.specs.Statement.{accepted_of}
use Rattle.finish.specs.Settles.{After}

pub starts : (count : ℕ) (codes numbers : List ℕ) {senders receivers parents users : List ℕ} (t : Built senders receivers parents users)
    {p : Plan} {z : Tables} {hp hm board : List ℕ}
    → Begins 1 p (facts count codes numbers senders receivers parents)
    → z ≡ no_tables
    → StartsOn board
    → StoredBy (for_ends (receivers_of users) (task_id 1) (processor_id 1) (Locate (processor_id 1) 1))
    (lent z.hintprocessors z.hintmoves z.heldprocessors z.heldnumbers z.notes board)
    (lent hp hm z.heldprocessors z.heldnumbers z.notes board)
    → After codes numbers users count (lent hp hm z.heldprocessors z.heldnumbers z.notes board) p [] 0
unfolding steps_by accepted_of
starts count codes numbers t {p} {z} {hp} {hm} {board} b empty on located =
    let rig = begun count codes numbers t {k = _} {z = z} {hp = hp} {hm = hm} {board = board} b refl empty on located in
    record {
      accepted = b.accepted;
      derived = facts_in_lem count codes numbers t ∙ b.derived;
      indexed = t.indexed;
      whole = on.whole;
      tasks = rig.parts.tasks;
      kept = rig.parts.kept;
      number = refl;
    }

pub nothing_written : (o : List ℕ) → WrittenBy [] o (0 ∷ 0 ∷ []) o
unfolding text fitting
nothing_written o = record { count = refl; all = sym (le-leb 0 (length o) (omega arith)); bytes = refl }
