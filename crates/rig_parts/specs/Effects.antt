-- What a change leaves of the parts of a rig, before its letters join the mail.
use Rattle.std.specs.Prelude.{List, ℕ}
use Rattle.plan.specs.declared.TaskId.{TaskId}
use Rattle.plan.specs.declared.Instruction.{Instruction}
use Rattle.rules.specs.declared.system.TaskTable.{TaskTable}
use Rattle.rules.specs.declared.system.Store.{Store}
use Rattle.rules.specs.declared.system.System.{System}
use Rattle.rules.specs.Systems.{with_tasks, store_in, with_store, with_parents, task_stored}
use Rattle.rules.specs.Effects.{Effect}
use Rattle.rig_parts.specs.Sweeps.{swept, swept_parents}
use Rattle.rig_parts.specs.declared.kept.Kept.{Kept}
use Rattle.rig_parts.specs.declared.change.Change.{Change}
use Rattle.rig_parts.specs.Facts.{facts_of, kept_in}
use Rattle.rig_parts.specs.Fetches.{cell_put}
use Rattle.rig_parts.specs.RunVerdicts.{ran_in}

-- what a change leaves of the tasks, and of what is kept for channels
abbrev pub changed_tasks : Change → TaskTable → TaskTable
changed_tasks k ts = task_stored (task_stored ts k.scope.sender k.outcome.sender) k.scope.receiver k.outcome.receiver

abbrev pub changed_store : List ℕ → List ℕ → Change → Store → Store
changed_store senders receivers k s = swept senders receivers k.sweep (cell_put k.scope k.outcome.cell s)

-- and of what is kept for parents beside it
abbrev pub changed_kept : List ℕ → List ℕ → Change → Kept → Kept
changed_kept senders receivers k s = record { store = changed_store senders receivers k s.store; parents = swept_parents k.sweep s.parents }

-- of a rig
unfoldable pub effect_of : System → Change → Effect
effect_of r k =
    let f = facts_of r.plan in
    record {
      system =
          with_parents (with_store (with_tasks r (changed_tasks k r.tasks)) (changed_store f.senders f.receivers k (store_in r)))
          (swept_parents k.sweep r.parents);
      posting = k.outcome.posting;
      received = k.outcome.received;
    }

-- what instruction i of task t would change, by the parts of the rig
abbrev pub ran_of : System → TaskId → Instruction → Change
ran_of r t i = ran_in (facts_of r.plan) r.tasks (kept_in r) t i
