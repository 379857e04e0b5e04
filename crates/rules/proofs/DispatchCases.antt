-- Cases of the sets of ready tasks, and of calls of a dispatcher.
use mathlib.Core.Path.{◌≡◌, refl}
use mathlib.Core.List.{List, [], ◌∷◌}
use Rattle.std.specs.Prelude.{None, Some}
use Rattle.std.specs.Prelude.{Ok, Err}
use Rattle.rules.specs.declared.message.Message.{Message}
use Rattle.rules.specs.declared.message.Message.TheVariants.{Advert, Migration}
use Rattle.rules.specs.declared.step.StepRefusal.TheVariants.{BadSystem, NoProcessor, FinishWithChildren}
use Rattle.rules.specs.declared.dispatch.Dispatched.{Dispatched}
use Rattle.rules.specs.declared.system.System.{System}
use Rattle.rules.specs.Numbers.{task_id, channel_id}
use Rattle.rules.specs.Systems.{with_tasks, with_chosen}
use Rattle.rules.specs.Steps.{ruled_steps}
use Rattle.rules.specs.Dispatch.{earliest, next_ready, ruled_dispatch, dispatched}
use Rattle.rules.proofs.Scripts.{create, finish, send, receive, run, deliver, move, start_on}
use Rattle.rules.proofs.Sites.{processor}
use Rattle.rules.proofs.Evaluated.{evaluated}

-- "the next ready task after the last one chosen, by number and round again": of four tasks, 1 and 4 are ready; only the last one chosen is; none is
next_above : next_ready 4 2 9 ≡ 4
unfolding evaluated
next_above = refl

next_round : next_ready 4 4 9 ≡ 1
unfolding evaluated
next_round = refl

next_first : next_ready 4 0 9 ≡ 1
unfolding evaluated
next_first = refl

next_again : next_ready 4 3 4 ≡ 3
unfolding evaluated
next_again = refl

next_none : next_ready 4 3 0 ≡ 0
unfolding evaluated
next_none = refl

next_last : next_ready 64 63 9223372036854775808 ≡ 64
unfolding evaluated
next_last = refl

-- "the earliest letter addressed to the desk, if there is one"
abbrev mail : List Message
mail = Migration (processor 2) (task_id 1) ∷ Advert (channel_id 1) (processor 3) (processor 2) ∷ Migration (processor 3) (task_id 2) ∷ []

earliest_first : earliest (processor 2) mail ≡ 1
unfolding evaluated
earliest_first = refl

earliest_later : earliest (processor 3) mail ≡ 2
unfolding evaluated
earliest_later = refl

earliest_none : earliest (processor 1) mail ≡ 0
unfolding evaluated
earliest_none = refl

-- on two desks, task 1 creates 2 and 3 and finishes
abbrev start : System
start = start_on 2 ((create 2 ∷ create 3 ∷ finish ∷ []) ∷ (finish ∷ []) ∷ (finish ∷ []) ∷ [])

-- "Every accepted step updates the sets.": at the start, with 2 and 3 born, while 3 moves, when it has arrived
ready_start : start.tasks.ready ≡ 1 ∷ 0 ∷ 0 ∷ 0 ∷ 0 ∷ 0 ∷ []
unfolding evaluated
ready_start = refl

abbrev born : System
born = (ruled_steps start (run 1 ∷ run 1 ∷ [])).system

ready_born : born.tasks.ready ≡ 7 ∷ 0 ∷ 0 ∷ 0 ∷ 0 ∷ 0 ∷ []
unfolding evaluated
ready_born = refl

abbrev moving : System
moving = (ruled_steps born (move 3 2 ∷ [])).system

ready_moving : moving.tasks.ready ≡ 3 ∷ 0 ∷ 0 ∷ 0 ∷ 0 ∷ 0 ∷ []
unfolding evaluated
ready_moving = refl

ready_arrived : (ruled_steps moving (deliver 1 ∷ [])).system.tasks.ready ≡ 3 ∷ 4 ∷ 0 ∷ 0 ∷ 0 ∷ 0 ∷ []
unfolding evaluated
ready_arrived = refl

-- a receiver that waits is in no set; a direct pass readies it
abbrev waiting : System
waiting = (ruled_steps (start_on 1 ((create 2 ∷ send 1 ∷ finish ∷ []) ∷ (receive 1 ∷ finish ∷ []) ∷ [])) (run 1 ∷ run 2 ∷ [])).system

ready_waiting : waiting.tasks.ready ≡ 1 ∷ 0 ∷ 0 ∷ 0 ∷ 0 ∷ 0 ∷ []
unfolding evaluated
ready_waiting = refl

ready_passed : (ruled_steps waiting (run 1 ∷ [])).system.tasks.ready ≡ 3 ∷ 0 ∷ 0 ∷ 0 ∷ 0 ∷ 0 ∷ []
unfolding evaluated
ready_passed = refl

-- a call at desk 1: no letter is for it; task 1 is chosen, and its run is refused, which uses the turn; the next call chooses task 2
abbrev first : Dispatched
first = ruled_dispatch moving (processor 1)

first_delivery : first.delivery ≡ None
unfolding evaluated
first_delivery = refl

first_run : first.run ≡ Some ((run 1), (record { answer = Err FinishWithChildren; received = None }))
unfolding evaluated
first_run = refl

first_chosen : first.system.chosen ≡ 1 ∷ 0 ∷ 0 ∷ 0 ∷ 0 ∷ 0 ∷ []
unfolding evaluated
first_chosen = refl

second_run : (ruled_dispatch first.system (processor 1)).run ≡ Some ((run 2), (record { answer = Ok tt; received = None }))
unfolding evaluated
second_run = refl

-- a call at desk 2: the mover letter is delivered, and the task that arrived by it is chosen
abbrev arriving : Dispatched
arriving = ruled_dispatch moving (processor 2)

arriving_delivery : arriving.delivery ≡ Some ((deliver 1), (record { answer = Ok tt; received = None }))
unfolding evaluated
arriving_delivery = refl

arriving_run : arriving.run ≡ Some ((run 3), (record { answer = Ok tt; received = None }))
unfolding evaluated
arriving_run = refl

arriving_chosen : arriving.system.chosen ≡ 0 ∷ 3 ∷ 0 ∷ 0 ∷ 0 ∷ 0 ∷ []
unfolding evaluated
arriving_chosen = refl

-- a desk with nothing to do
idle : ruled_dispatch start (processor 2) ≡ record { answer = Ok tt; delivery = None; run = None; system = start }
unfolding evaluated
idle = refl

-- "It refuses a rig by 9": task 2 is unborn, and desk 2's set has it; the last choice of desk 6 is above T. "then a desk outside the rig by 15": the
-- second rig is called at a desk that it has not. "and changes nothing"
abbrev other_set : System
other_set = with_tasks start (record { records = start.tasks.records; ready = 1 ∷ 2 ∷ 0 ∷ 0 ∷ 0 ∷ 0 ∷ [] })

refused_set : dispatched other_set (processor 1) ≡ record { answer = Err BadSystem; delivery = None; run = None; system = other_set }
unfolding evaluated
refused_set = refl

abbrev chosen_above : System
chosen_above = with_chosen start (0 ∷ 0 ∷ 0 ∷ 0 ∷ 0 ∷ 4 ∷ [])

refused_choice : dispatched chosen_above (processor 3) ≡ record { answer = Err BadSystem; delivery = None; run = None; system = chosen_above }
unfolding evaluated
refused_choice = refl

refused_desk_0 : dispatched start (processor 0) ≡ record { answer = Err NoProcessor; delivery = None; run = None; system = start }
unfolding evaluated
refused_desk_0 = refl

refused_desk_3 : dispatched start (processor 3) ≡ record { answer = Err NoProcessor; delivery = None; run = None; system = start }
unfolding evaluated
refused_desk_3 = refl
