-- What is lent at the start is the rig of the plan, with no last choice; no step is written yet.
use mathlib.Core.Path.{◌≡◌, refl, sym}
use mathlib.Core.List.{List, [], ◌∷◌}
use Prim.Native.Nat.{ℕ}
use native.Mathlib.Omega.{arith}
use lib.ListN.{length}
use borrow.Author.Tests.{le-leb}
use Rattle.plan.specs.declared.Plan.{Plan}
use Rattle.rules.specs.declared.message.Network.{Network}
use Rattle.rules.specs.declared.system.Tables.{Tables}
use Rattle.rules.specs.Numbers.{task_id, processor_id}
use Rattle.rules.specs.Starts.{blank, birth, started, no_messages, no_tables}
use Rattle.rules.specs.Systems.{with_task, with_parent, parent_at}
use Rattle.rules.specs.Effects.{for_channels}
use Rattle.rules.specs.StepFiles.{text, fitting}
use Rattle.plan_index.specs.user_table.Built.{Built}
use Rattle.plan_index.specs.user_table.Users.{receivers_of}
use Rattle.rig_parts.specs.declared.sweep.CellRule.TheVariants.{Locate}
use Rattle.rig_parts.specs.Facts.{facts}
use Rattle.rig_parts.specs.Sweeps.{for_ends}
use Rattle.board.specs.Acted.{StoredBy}
use Rattle.board.specs.Lent.{lent}
use Rattle.rig.specs.start.Parts.{StartsOn}
use Rattle.run.specs.all_steps.Writes.{WrittenBy}
use Rattle.run.specs.file.Begins.{Begins}
use Rattle.run.proofs.file.Beginning.{begun}
use Rattle.dispatch.specs.Boards.{On, no_choices}

started_chosen : (n : ℕ) (p : Plan) → no_choices ≡ (started n p).chosen
unfolding started blank birth with_task with_parent parent_at for_channels
started_chosen n p = refl

pub starts : (count : ℕ) (codes numbers : List ℕ) {senders receivers parents users : List ℕ} (t : Built senders receivers parents users)
    {n : ℕ} {p : Plan} {k : Network} {z : Tables} {hp hm board : List ℕ}
    → Begins n p (facts count codes numbers senders receivers parents)
    → k ≡ no_messages
    → z ≡ no_tables
    → StartsOn board
    → StoredBy (for_ends (receivers_of users) (task_id 1) (processor_id 1) (Locate (processor_id 1) 1))
    (lent z.hintprocessors z.hintmoves z.heldprocessors z.heldnumbers z.notes board)
    (lent hp hm z.heldprocessors z.heldnumbers z.notes board)
    → On codes numbers users (record { tasks = count; processors = n; used = 0 }) k (lent hp hm z.heldprocessors z.heldnumbers z.notes board) no_choices (started n p)
starts count codes numbers t {n} {p} {k} {z} {hp} {hm} {board} b network empty on located =
    let rig = begun count codes numbers t {k = k} {z = z} {hp = hp} {hm = hm} {board = board} b network empty on located in
    record {
      shaped = rig.parts.shaped;
      sound = rig.parts.sound;
      facts_of_lem = rig.parts.facts_of_lem;
      processors = rig.parts.processors;
      tasks = rig.parts.tasks;
      kept = rig.parts.kept;
      network = rig.network;
      chosen = started_chosen n p;
      whole = on.whole;
      indexed = t.indexed;
    }

pub nothing_written : (o : List ℕ) → WrittenBy [] o (0 ∷ 0 ∷ []) o
unfolding text fitting
nothing_written o = record { count = refl; all = sym (le-leb 0 (length o) (omega arith)); bytes = refl }
