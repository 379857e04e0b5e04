-- Both sides of each condition of 9, of whole rigs.
use Rattle.std.specs.Prelude.{true, List, [], ◌∷◌, ℕ, set}
use Rattle.plan.specs.Programs.{Program, canonical}
use Rattle.rules.specs.declared.channel.Cell.{Cell}
use Rattle.rules.specs.declared.message.Message.TheVariants.{Migration}
use Rattle.rules.specs.declared.system.System.{System}
use Rattle.rules.specs.Numbers.{task_id, processor_id, channel_id}
use Rattle.rules.specs.Tasks.{no_task, unborn, born, with_overflow}
use Rattle.rules.specs.Cells.{offer, with_hint, with_held, with_noted, with_granted, with_carried, with_travelling}
use Rattle.rules.specs.Networks.{enqueued}
use Rattle.rules.specs.Systems.{with_tasks, with_network, with_task, cell_at, with_cell, with_parent, with_chosen}
use Rattle.rules.specs.Starts.{blank}
use Rattle.rules.proofs.Scripts.{create, sync, finish, send, receive, start_on}
use Rattle.rules.proofs.Sites.{small, crowded}
use Rattle.rules.proofs.SoundEdges.{Sample, fine, wrong}
use Rattle.rules.specs.declared.channel.Hint.{Hint}
use Rattle.rules.specs.Hints.{hint, unknown}

-- two tasks; a cell changed at the last entry; another count of letters; another plan
unfoldable pub pair : System
pair = start_on 2 ((create 2 ∷ finish ∷ []) ∷ (finish ∷ []) ∷ [])

abbrev with_cell_by : (Cell → Cell) → System → System
with_cell_by f r = with_cell r (processor_id 6) (channel_id 128) (f (cell_at r (processor_id 6) (channel_id 128)))

abbrev with_used : ℕ → System → System
with_used n r = with_network r (record { slots = r.network.slots; used = n })

-- what the last desk keeps for the last task
abbrev with_kept : Hint → ℕ → System → System
with_kept h s r = with_parent r (processor_id 6) (task_id 64) (record { hint = h; held = s })

abbrev with_plan : List Program → System → System
with_plan m r =
    record { processors = r.processors; plan = canonical m; tasks = r.tasks; tables = r.tables; channels = r.channels; parents = r.parents; network = r.network; chosen = r.chosen }

-- another set, or last choice, of the last desk
abbrev with_ready : ℕ → System → System
with_ready s r = with_tasks r (record { records = r.tasks.records; ready = set r.tasks.ready 5 s })

abbrev with_last : ℕ → System → System
with_last t r = with_chosen r (set r.chosen 5 t)

unfoldable pub system_samples : List (Sample System)
system_samples =
    fine small ∷ wrong (blank 0 small.plan) ∷ fine (blank 1 small.plan) ∷ fine (blank 6 small.plan) ∷ wrong (blank 7 small.plan)
    ∷ wrong (with_plan ((sync ∷ []) ∷ []) small)
    ∷ fine (with_plan ((create 2 ∷ send 1 ∷ finish ∷ []) ∷ (receive 1 ∷ finish ∷ []) ∷ []) pair)
    ∷ wrong (with_plan ((create 2 ∷ send 1 ∷ finish ∷ []) ∷ (finish ∷ []) ∷ []) pair)
    ∷ wrong (with_plan ((create 2 ∷ finish ∷ []) ∷ (receive 1 ∷ finish ∷ []) ∷ []) pair)
    ∷ wrong (with_task small (task_id 1) no_task) ∷ fine (with_task small (task_id 2) no_task)
    ∷ fine pair ∷ wrong (with_task pair (task_id 2) no_task) ∷ fine (with_task pair (task_id 3) no_task)
    ∷ fine (with_task pair (task_id 1) (with_overflow (born (processor_id 1) unknown) true)) ∷ wrong (with_task pair (task_id 2) (with_overflow unborn true))
    ∷ fine (with_cell_by (λ x. with_hint x (hint (processor_id 2) 1)) small) ∷ wrong (with_cell_by (λ x. with_hint x (hint (processor_id 3) 1)) small)
    ∷ wrong (with_cell_by (λ x. with_held x (offer (processor_id 2) 65)) small)
    ∷ fine (with_cell_by (λ x. with_noted x (processor_id 2)) small) ∷ wrong (with_cell_by (λ x. with_noted x (processor_id 3)) small)
    ∷ fine (with_cell_by (λ x. with_granted x 64) small) ∷ wrong (with_cell_by (λ x. with_granted x 65) small)
    ∷ wrong (with_cell_by (λ x. with_carried x (offer (processor_id 0) 1)) small)
    ∷ wrong (with_cell_by (λ x. with_travelling x (hint (processor_id 1) 0)) small)
    -- own pointers, of task 1 and of another; what desks keep for parents
    ∷ wrong (with_task pair (task_id 1) (born (processor_id 1) (hint (processor_id 1) 1))) ∷ wrong (with_task pair (task_id 2) (born (processor_id 1) unknown))
    ∷ fine (with_task pair (task_id 2) (born (processor_id 1) (hint (processor_id 2) 1)))
    ∷ wrong (with_task pair (task_id 2) (born (processor_id 1) (hint (processor_id 3) 1)))
    ∷ fine (with_kept (hint (processor_id 2) 9999) 3 pair) ∷ wrong (with_kept (hint (processor_id 3) 1) 0 pair) ∷ wrong (with_kept unknown 4 pair)
    -- the set and the last choice of desk 6
    ∷ wrong (with_ready 1 pair) ∷ fine (with_last 2 pair) ∷ wrong (with_last 3 pair)
    ∷ wrong (with_used 1 small) ∷ fine (crowded 256 small) ∷ wrong (with_used 257 (crowded 256 small))
    ∷ fine (with_network small (enqueued small.network (Migration (processor_id 2) (task_id 1))))
    ∷ wrong (with_network small (enqueued small.network (Migration (processor_id 2) (task_id 2))))
    ∷ []
