-- The rig at the start is made of its parts.
use mathlib.Core.Path.{◌≡◌, sym, ◌∙◌, ap}
use mathlib.Core.List.{List}
use Prim.Native.Nat.{ℕ}
use lib.ListN.{replicate}
use Rattle.plan.specs.declared.Plan.{Plan}
use Rattle.rules.specs.declared.system.System.{System}
use Rattle.rules.specs.declared.system.Store.{Store}
use Rattle.rules.specs.Numbers.{task_id, processor_id}
use Rattle.rules.specs.Hints.{unknown}
use Rattle.rules.specs.Tasks.{born}
use Rattle.rules.specs.Systems.{with_tasks, with_task, task_stored, store}
use Rattle.rules.specs.Starts.{birth, blank, started, no_messages, no_channels, none_chosen}
use Rattle.plan_index.specs.ends.Derived.{ends_of}
use Rattle.rig_parts.specs.Facts.{kept_in}
use Rattle.rig_parts.specs.Sweeps.{for_ends}
use Rattle.rig_parts.proofs.Sweeps.{swept_in, birth_swept}
use Rattle.rig_parts.specs.declared.sweep.Sweep.TheVariants.{Birth}
use Rattle.rig_parts.specs.declared.sweep.CellRule.TheVariants.{Locate}
use Rattle.board.specs.Lent.{lent}
use Rattle.board.specs.Acted.{StoredBy}
use Rattle.rig.specs.start.Parts.{start_tasks, start_parents, start_store}
use Rattle.rig.proofs.start.Boards.{zeros, unborn_none, unborn_channels}

-- task 1 is stored, and then the pointers for the channels that it receives on
first_birth : (r : System) → birth r (task_id 1) (processor_id 1) unknown ≡ swept_in (with_tasks r (task_stored r.tasks (task_id 1) (born (processor_id 1) unknown))) (Birth (task_id 1) (processor_id 1))
unfolding birth with_task
first_birth r = birth_swept (with_tasks r (task_stored r.tasks (task_id 1) (born (processor_id 1) unknown))) (task_id 1) (processor_id 1)

-- an empty table
abbrev pub none : List ℕ
none = replicate 768 0

module _ (n : ℕ) (p : Plan) where
  -- the rig with this for the channels
  abbrev made : Store → System
  made s = record { processors = n; plan = p; tasks = start_tasks; tables = s.tables; channels = s.channels; parents = start_parents; network = no_messages; chosen = none_chosen }

  started_is : made (start_store (ends_of p).receivers) ≡ started n p
  unfolding started blank
  started_is = sym (first_birth (blank n p))

  pub started_tasks : (started n p).tasks ≡ start_tasks
  started_tasks = ap (λ (r : System). r.tasks) (sym started_is)

  pub started_network : (started n p).network ≡ no_messages
  started_network = ap (λ (r : System). r.network) (sym started_is)

  pub started_kept : kept_in (started n p) ≡ record { store = start_store (ends_of p).receivers; parents = start_parents }
  started_kept = ap kept_in (sym started_is)

  -- the pointers are set in empty tables
  pub started_located : (hintprocessors hintmoves : List ℕ)
      → StoredBy (for_ends (ends_of p).receivers (task_id 1) (processor_id 1) (Locate (processor_id 1) 1)) (lent none none none none none zeros) (lent hintprocessors hintmoves none none none zeros)
      → made (store (record { hintprocessors = hintprocessors; hintmoves = hintmoves; heldprocessors = none; heldnumbers = none; notes = none }) no_channels) ≡ started n p
  started_located hintprocessors hintmoves q = ap made (rw (unborn_channels 0 zeros unborn_none) at q.store) ∙ started_is
