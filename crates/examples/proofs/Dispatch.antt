-- What is said of calls, used: the worked plan comes to rest by calls with the words of every one-desk run; a task that stays ready is chosen at the
-- third call, and not before; the second of two letters leaves at the second call, and not before; 150 rounds bring a rig to rest.
use mathlib.Core.Path.{◌≡◌, refl, sym, ◌∙◌, ap}
use mathlib.Core.Bool.{Bool, true, false}
use mathlib.Core.List.{List, [], ◌∷◌}
use Prim.Native.Nat.{ℕ, ◌*◌, ◌+◌}
use native.Mathlib.Omega.{arith}
use lib.Dec.{eqb}
use lib.ListN.{length}
use Rattle.std.specs.Prelude.{Ok}
use Rattle.base.specs.Lists.{every, any, count}
use Rattle.plan.specs.declared.ChannelId.{ChannelId}
use Rattle.plan.specs.declared.Word.{Word}
use Rattle.plan.specs.Numbers.{task_id, processor_id, channel_id}
use Rattle.plan.specs.Programs.{programs}
use Rattle.plan.specs.Refusals.{plan_answer}
use Rattle.plan.specs.Words.{levels}
use Rattle.rules.specs.declared.step.Step.{Step}
use Rattle.rules.specs.declared.system.System.{System}
use Rattle.rules.specs.Networks.{message_at}
use Rattle.rules.specs.Systems.{task_at, is_ready_at}
use Rattle.rules.specs.Steps.{quiescent, received_on}
use Rattle.rules.specs.Dispatch.{addressee, choice}
use Rattle.rules.proofs.Evaluated.{evaluated}
use Rattle.claim.specs.Statement.{accepted_of, from, not_executed, Rests}
use Rattle.claim.specs.Events.{Event, Happened, is_call_at, happens, happened, mixed}
use Rattle.claim.specs.Turns.{choosing_rigs}
use Rattle.claim.specs.Letters.{followed, letters_for}
use Rattle.claim.specs.Rounds.{rounds}
use Rattle.claim.proofs.Dispatch.{mixed_demand_3}
use Rattle.claim.proofs.Turns.{chosen_within_T}
use Rattle.claim.proofs.Letters.{letters_leave}
use Rattle.claim.proofs.Rounds.{rounds_rest}
use Rattle.examples.proofs.Bound.{accepted}
use Rattle.examples.specs.Dispatch.{call_at, worked_plan, worked_events, worked_steps, family_plan, both_born, three_calls, both_moving, two_calls}

-- the worked plan: the steps made, the last choices, and rest
abbrev three : ChannelId
three = channel_id 3

abbrev seven : Word
seven = levels 7 0 0 0

-- what is looked at
pub record Seen : Type 0 where
  pub steps : List Step
  pub chosen : List ℕ
  pub rests : Bool
  pub words : List Word

unfoldable pub seen : Happened → Seen
seen h = record { steps = h.steps; chosen = h.system.chosen; rests = quiescent h.system; words = received_on three h.reports }

worked_seen : seen (mixed 2 worked_plan worked_events) ≡ record { steps = worked_steps; chosen = 1 ∷ 2 ∷ 0 ∷ 0 ∷ 0 ∷ 0 ∷ []; rests = true; words = seven ∷ [] }
unfolding evaluated happens happened seen
worked_seen = refl

rests : quiescent (mixed 2 worked_plan worked_events).system ≡ true
unfolding seen
rests = ap (λ (x : Seen). x.rests) worked_seen

words : received_on three (mixed 2 worked_plan worked_events).reports ≡ seven ∷ []
unfolding seen
words = ap (λ (x : Seen). x.words) worked_seen

-- so every list that brings the one-desk rig to rest passes that word
pub one_desk_words : (ts : List Step) → Rests worked_plan ts → received_on three (from 1 worked_plan ts).reports ≡ seven ∷ []
one_desk_words ts at_rest =
    sym ((mixed_demand_3 2 worked_plan worked_events (omega arith) (omega arith) accepted).same_words rests ts at_rest three) ∙ words

-- task 3 is ready at each of three calls at desk 1; the first chooses task 1, whose run is refused, and the second task 2
family_accepted : plan_answer (programs family_plan) ≡ Ok tt
unfolding evaluated
family_accepted = refl

abbrev choosing : List Event → List System
choosing us = choosing_rigs (processor_id 1) (mixed 2 family_plan both_born).system us

stays_ready : every (λ q. is_ready_at (processor_id 1) (task_at q (task_id 3))) (choosing three_calls) ≡ true
unfolding evaluated happens happened choosing_rigs
stays_ready = refl

all_three : length (choosing three_calls) ≡ 3
unfolding evaluated happens happened choosing_rigs
all_three = refl

three_tasks : family_plan.tasks ≡ 3
unfolding evaluated
three_tasks = refl

pub third_chosen : any (λ q. eqb (choice q (processor_id 1)) 3) (choosing three_calls) ≡ true
third_chosen =
    chosen_within_T 2 family_plan both_born three_calls (omega arith) (omega arith) family_accepted (processor_id 1) refl (task_id 3)
    (rw three_tasks refl) stays_ready (omega (arith, all_three, three_tasks))

not_before : any (λ q. eqb (choice q (processor_id 1)) 3) (choosing (call_at 1 ∷ call_at 1 ∷ [])) ≡ false
unfolding evaluated happens happened choosing_rigs
not_before = refl

-- the letter at position 2 is the second for desk 2: one call there brings it to position 1, two calls let it leave
abbrev moving : System
moving = (mixed 2 family_plan both_moving).system

two_letters : moving.network.used ≡ 2
unfolding evaluated happens happened
two_letters = refl

second_for_two : letters_for (addressee (message_at moving.network 2)) moving.network 2 ≡ 2
unfolding evaluated happens happened count
second_for_two = refl

called_twice : count (is_call_at (addressee (message_at moving.network 2))) two_calls ≡ 2
unfolding evaluated happens happened count is_call_at
called_twice = refl

pub second_leaves : followed moving (happened moving two_calls).steps 2 ≡ 0
second_leaves =
    (letters_leave 2 family_plan both_moving two_calls (omega arith) (omega arith) family_accepted 2 (omega arith) (omega (arith, two_letters))).leaves
    (omega (arith, second_for_two, called_twice))

moves_up : followed moving (happened moving (call_at 2 ∷ [])).steps 2 ≡ 1
unfolding evaluated happens happened followed
moves_up = refl

-- five instructions and no letter: 150 rounds of calls at two desks, for three tasks
so_many : family_plan.tasks * (10 * (not_executed 2 family_plan (mixed 2 family_plan []).steps + (mixed 2 family_plan []).system.network.used)) ≡ 150
unfolding evaluated happened accepted_of
so_many = refl

pub at_rest : quiescent (happened (mixed 2 family_plan []).system (rounds 2 150)).system ≡ true
at_rest = rounds_rest 2 family_plan [] (omega arith) (omega arith) family_accepted 150 (omega (arith, so_many))
