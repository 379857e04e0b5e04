-- Cases of answers and of whole steps: each refusal of a run, a delivery and a move, in their order where several hold.
use mathlib.Core.Path.{◌≡◌, refl}
use mathlib.Core.Bool.{true, false}
use mathlib.Core.List.{[], ◌∷◌, map}
use Rattle.std.specs.Prelude.{None, Some}
use Rattle.std.specs.Prelude.{Ok, Err}
use Rattle.plan.specs.declared.Refusal.TheVariants.{BadFinish}
use Rattle.plan.proofs.Edges.{word_of}
use Rattle.plan.specs.Programs.{canonical}
use Rattle.plan.specs.Words.{zero_word}
use Rattle.rules.specs.declared.task.Task.{Task}
use Rattle.rules.specs.declared.task.TaskState.TheVariants.{Unborn, Ready, Waiting, Sending, Receiving, Moving}
use Rattle.rules.specs.declared.message.Message.TheVariants.{Terminated, Migration}
use Rattle.rules.specs.declared.step.StepRefusal.TheVariants.{BadSystem, NoTask, NotReady, FinishWithChildren, NetworkFull, NoMessage, NoProcessor, AlreadyThere, MoveWithChildren, MovesSpent, BadStep}
use Rattle.rules.specs.declared.step.RunRefusal.TheVariants.{Unstarted, BadSteps, OutputShort}
use Rattle.rules.specs.declared.system.System.{System}
use Rattle.rules.specs.Numbers.{task_id, channel_id, no_processor}
use Rattle.rules.specs.Answers.{step_number, run_number}
use Rattle.rules.specs.Tasks.{no_task, unborn, departed, arrived, with_state, with_processor, with_pc, with_moves, with_child}
use Rattle.rules.specs.Cells.{hint, unknown, offer, with_hint, with_held, with_noted, with_granted, with_awaiting, with_carried, with_travelling}
use Rattle.rules.specs.Places.{next_in, last_in, is_on}
use Rattle.rules.specs.Networks.{messages}
use Rattle.rules.specs.Systems.{task_at, with_task, cell_at, with_cell}
use Rattle.rules.specs.Runs.{run_answer}
use Rattle.rules.specs.Deliver.{deliver_answer, got_terminated}
use Rattle.rules.specs.Moves.{move_answer}
use Rattle.rules.specs.Sound.{system_ok}
use Rattle.rules.specs.Starts.{blank}
use Rattle.rules.specs.Steps.{well_formed, step_answer, ruled_step, ruled_steps, received_on}
use Rattle.rules.proofs.Scripts.{create, sync, finish, send, set, add, raw, run, deliver, move}
use Rattle.rules.proofs.Sites.{processor, one, seven, empty, born_at, plain, small, crowded}
use Rattle.rules.proofs.SoundEdges.{program}
use Rattle.rules.proofs.Evaluated.{evaluated}

-- the paper's numbers, in the order of the types
step_numbers : map step_number ((Ok tt) ∷ (Err BadSystem) ∷ (Err NoTask) ∷ (Err NotReady) ∷ (Err FinishWithChildren) ∷ (Err NetworkFull) ∷ (Err NoMessage) ∷ (Err NoProcessor) ∷ (Err AlreadyThere) ∷ (Err MoveWithChildren) ∷ (Err MovesSpent) ∷ (Err BadStep) ∷ [])
    ≡ 0 ∷ 9 ∷ 10 ∷ 11 ∷ 12 ∷ 13 ∷ 14 ∷ 15 ∷ 16 ∷ 17 ∷ 18 ∷ 19 ∷ []
step_numbers = refl

run_numbers : map run_number ((Ok tt) ∷ Err (Unstarted BadFinish) ∷ (Err BadSteps) ∷ (Err OutputShort) ∷ []) ≡ 0 ∷ 4 ∷ 8 ∷ 20 ∷ []
run_numbers = refl

-- records field by field: before birth, at birth at desk 2, on the way from desk 2, after an arrival at desk 3
unborn_task : unborn ≡ record { state = Unborn; processor = no_processor; pc = 1; origin = unknown; word = zero_word; overflow = false; moves = 0; children = 0 }
unborn_task = refl

born_task : born_at (processor 2) ≡ record { state = Ready; processor = processor 2; pc = 1; origin = hint (processor 2) 1; word = zero_word; overflow = false; moves = 1; children = 0 }
born_task = refl

departed_task : departed (born_at (processor 2)) ≡ record { state = Moving; processor = no_processor; pc = 1; origin = hint (processor 2) 1; word = zero_word; overflow = false; moves = 2; children = 0 }
departed_task = refl

arrived_task : arrived (departed (born_at (processor 2))) (processor 3) ≡ record { state = Ready; processor = processor 3; pc = 1; origin = hint (processor 2) 1; word = zero_word; overflow = false; moves = 2; children = 0 }
arrived_task = refl

-- a task that has executed the second of four instructions, a send on channel 1; one that has executed none
abbrev talking : Task
talking = with_pc (with_state (born_at (processor 1)) Sending) 3

next_receives : (next_in program talking).operand ≡ 2
unfolding evaluated
next_receives = refl

last_sends : last_in program talking ≡ send 1
unfolding evaluated
last_sends = refl

last_none : (last_in program (born_at (processor 1))).opcode ≡ 0
unfolding evaluated
last_none = refl

on_its_channel : is_on Sending program one talking ≡ true
unfolding evaluated
on_its_channel = refl

on_no_other : is_on Sending program (channel_id 2) talking ≡ false
unfolding evaluated
on_no_other = refl

on_as_it_is : is_on Receiving program one talking ≡ false
unfolding evaluated
on_as_it_is = refl

-- task 0 is none: read, and not written
no_task_read : task_at small (task_id 0) ≡ no_task
unfolding evaluated small
no_task_read = refl

no_task_written : with_task small (task_id 0) (born_at (processor 2)) ≡ small
unfolding evaluated small
no_task_written = refl

-- every field of a cell is read as it was written
cell_read : cell_at (with_cell small (processor 2) (channel_id 3) (with_travelling (with_carried (with_awaiting (with_granted (with_noted (with_held (with_hint empty (hint (processor 1) 11)) (offer (processor 2) 12)) (processor 3)) 14) true) (offer (processor 4) 15)) (hint (processor 5) 16))) (processor 2) (channel_id 3)
    ≡ record { entry = record { hint = hint (processor 1) 11; held = offer (processor 2) 12; noted = processor 3 }; channel = record { granted = 14; awaiting = true; carried = offer (processor 4) 15; travelling = hint (processor 5) 16 } }
unfolding evaluated small
cell_read = refl

-- two desks; tasks 1 and 2, task 2 made by 1 and task 3 by 2
unfoldable family : System
family = plain 2 ((create 2 ∷ set 65535 ∷ add 8 ∷ sync ∷ finish ∷ []) ∷ (create 3 ∷ finish ∷ []) ∷ (finish ∷ []) ∷ [])

-- the rig with x for task 2
abbrev with_second : Task → System
with_second x = with_task family (task_id 2) x

-- a record about to finish at desk 2, without and with its child; the same with its count spent
abbrev ending : Task
ending = with_pc (with_processor (born_at (processor 1)) (processor 2)) 2

abbrev parting : Task
parting = with_child ending (task_id 3)

abbrev spent : Task → Task
spent x = with_moves x 9999

-- run: 10, 11, 12 before 13; 13 with one letter too many, and none
run_of_none : run_answer small (task_id 2) ≡ Err NoTask
unfolding evaluated small
run_of_none = refl

run_of_zero : run_answer small (task_id 0) ≡ Err NoTask
unfolding evaluated small
run_of_zero = refl

run_unborn : run_answer family (task_id 2) ≡ Err NotReady
unfolding evaluated family
run_unborn = refl

run_early : run_answer (crowded 256 (with_second parting)) (task_id 2) ≡ Err FinishWithChildren
unfolding evaluated family crowded
run_early = refl

run_full : run_answer (crowded 256 (with_second ending)) (task_id 2) ≡ Err NetworkFull
unfolding evaluated family crowded
run_full = refl

run_fits : run_answer (crowded 255 (with_second ending)) (task_id 2) ≡ Ok tt
unfolding evaluated family crowded
run_fits = refl

-- deliver: 14 before the first position and behind the last
deliver_zero : deliver_answer (crowded 2 small) 0 ≡ Err NoMessage
unfolding evaluated small crowded
deliver_zero = refl

deliver_last : deliver_answer (crowded 2 small) 2 ≡ Ok tt
unfolding evaluated small crowded
deliver_last = refl

deliver_behind : deliver_answer (crowded 2 small) 3 ≡ Err NoMessage
unfolding evaluated small crowded
deliver_behind = refl

-- move: 10 before 15, 15 before 11, 11 before 16, 16 before 18, 18 before 13, 13; a count of 9,998 moves; "A ready task with living children may
-- now move"
move_of_none : move_answer family (task_id 4) (processor 3) ≡ Err NoTask
unfolding evaluated family
move_of_none = refl

move_nowhere : move_answer family (task_id 2) (processor 3) ≡ Err NoProcessor
unfolding evaluated family
move_nowhere = refl

move_waiting : move_answer (with_second (with_state parting Waiting)) (task_id 2) (processor 2) ≡ Err NotReady
unfolding evaluated family
move_waiting = refl

move_there : move_answer (with_second (spent parting)) (task_id 2) (processor 2) ≡ Err AlreadyThere
unfolding evaluated family
move_there = refl

move_parting : move_answer (with_second parting) (task_id 2) (processor 1) ≡ Ok tt
unfolding evaluated family
move_parting = refl

move_spent : move_answer (crowded 256 (with_second (spent ending))) (task_id 2) (processor 1) ≡ Err MovesSpent
unfolding evaluated family crowded
move_spent = refl

move_full : move_answer (crowded 256 (with_second (with_moves ending 9998))) (task_id 2) (processor 1) ≡ Err NetworkFull
unfolding evaluated family crowded
move_full = refl

move_last : move_answer (crowded 255 (with_second (with_moves ending 9998))) (task_id 2) (processor 1) ≡ Ok tt
unfolding evaluated family crowded
move_last = refl

-- 19: kinds 0 and 4, a run with a number, a delivery with a task; a move uses all its fields
malformed : map well_formed (raw 0 0 0 ∷ raw 4 0 0 ∷ raw 1 1 1 ∷ raw 2 1 1 ∷ run 1 ∷ deliver 1 ∷ move 1 1 ∷ [])
    ≡ false ∷ false ∷ false ∷ false ∷ true ∷ true ∷ true ∷ []
unfolding evaluated
malformed = refl

-- 9 before 19; 9 asks about the number of desks and the plan
nine_first : step_answer (blank 7 small.plan) (raw 4 0 0) ≡ Err BadSystem
unfolding evaluated small
nine_first = refl

no_processor_lem : system_ok (blank 0 small.plan) ≡ false
unfolding evaluated small
no_processor_lem = refl

bad_plan : system_ok (blank 2 (canonical ((sync ∷ []) ∷ []))) ≡ false
unfolding evaluated
bad_plan = refl

-- a refused step leaves the rig
refused_stays : ruled_step small (deliver 1) ≡ record { report = record { answer = Err NoMessage; received = None }; system = small }
unfolding evaluated small
refused_stays = refl

-- create, set and add: 65,535 and 8 make 7, and go over the top; the child is ready at the desk of its parent, which has it among its children
abbrev begun : System
begun = (ruled_steps family (run 1 ∷ run 1 ∷ run 1 ∷ [])).system

begun_parent : task_at begun (task_id 1) ≡ with_pc (with_child (record { state = Ready; processor = processor 1; pc = 1; origin = unknown; word = seven; overflow = true; moves = 1; children = 0 }) (task_id 2)) 4
unfolding evaluated family
begun_parent = refl

begun_child : task_at begun (task_id 2) ≡ born_at (processor 1)
unfolding evaluated family
begun_child = refl

begun_unborn : task_at begun (task_id 3) ≡ unborn
unfolding evaluated family
begun_unborn = refl

-- a finish away from its parent posts its letter; so does a move; a delivery takes it from the mail
posted : messages (ruled_steps (with_second ending) (run 2 ∷ move 1 2 ∷ [])).system.network ≡ Terminated (hint (processor 1) 1) (task_id 2) ∷ Migration (processor 2) (task_id 1) ∷ []
unfolding evaluated family
posted = refl

taken : messages (ruled_steps (with_second ending) (run 2 ∷ move 1 2 ∷ deliver 1 ∷ [])).system.network ≡ Migration (processor 2) (task_id 1) ∷ []
unfolding evaluated family
taken = refl

-- an ended letter finds the child's parent
ended_found : task_at (got_terminated (with_second (with_processor parting (processor 1))) (hint (processor 1) 1) (task_id 3)).system (task_id 2) ≡ with_processor ending (processor 1)
unfolding evaluated family
ended_found = refl

-- "A channel's received words": those of channel 1, in order
received_in_order : received_on one (record { answer = Ok tt; received = Some (one, seven) } ∷ record { answer = Ok tt; received = Some ((channel_id 2), zero_word) } ∷ record { answer = Err BadStep; received = None } ∷ record { answer = Ok tt; received = Some (one, (word_of 8)) } ∷ [])
    ≡ seven ∷ word_of 8 ∷ []
unfolding evaluated
received_in_order = refl
