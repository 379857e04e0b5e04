-- What the finish check says holds at every rest: from verdict, list and places on one desk, those of every run to rest, and so of one on two desks.
use mathlib.Core.Path.{◌≡◌, refl, sym, ◌∙◌}
use mathlib.Core.Bool.{true}
use mathlib.Core.List.{List, [], ◌∷◌}
use Prim.Native.Nat.{ℕ, ◌≤◌}
use native.Mathlib.Omega.{arith}
use Rattle.std.specs.Prelude.{Ok}
use Rattle.plan.specs.declared.Plan.{Plan}
use Rattle.plan.specs.Numbers.{task_id}
use Rattle.plan.specs.Programs.{programs}
use Rattle.plan.specs.Refusals.{plan_answer}
use Rattle.rules.specs.declared.step.Step.{Step}
use Rattle.rules.specs.Finish.{Stuck, verdict, stuck_list}
use Rattle.rules.specs.Starts.{started}
use Rattle.rules.specs.Steps.{History, ruled_steps, quiescent}
use Rattle.rules.proofs.Evaluated.{evaluated}
use Rattle.rules_laws.proofs.Shapes.{started_shaped}
use Rattle.rules_sound.proofs.Kept.{ruled_steps_lem}
use Rattle.rules_sound.proofs.Starts.{started_ok}
use Rattle.claim.specs.Statement.{from}
use Rattle.claim.specs.Finish.{RestsOn}
use Rattle.claim.specs.Work.{work_of, places_less_one}
use Rattle.claim.proofs.Finish.{finish_everywhere}
use Rattle.claim.proofs.Work.{work_is_places, same_work_everywhere}
use Rattle.examples.specs.Finish.{stuck_plan, stuck_still, stuck_moving, ending_plan, ending_still, ending_moving}

-- a run, with 9 tested at the end only
abbrev ruled : ℕ → Plan → List Step → History
ruled n p ss = ruled_steps (started n p) ss

as_ruled : (n : ℕ) (p : Plan) (ss : List Step) → 1 ≤ n → n ≤ 6 → plan_answer (programs p) ≡ Ok tt → from n p ss ≡ ruled n p ss
as_ruled n p ss some few a = sym (ruled_steps_lem (started n p) ss (started_shaped n p) (started_ok n p some few a))

-- the stuck plan: it is accepted, and both runs rest
stuck_accepted : plan_answer (programs stuck_plan) ≡ Ok tt
unfolding evaluated
stuck_accepted = refl

ruled_stuck_still : quiescent (ruled 1 stuck_plan stuck_still).system ≡ true
unfolding evaluated
ruled_stuck_still = refl

ruled_stuck_moving : quiescent (ruled 2 stuck_plan stuck_moving).system ≡ true
unfolding evaluated
ruled_stuck_moving = refl

still : from 1 stuck_plan stuck_still ≡ ruled 1 stuck_plan stuck_still
still = as_ruled 1 stuck_plan stuck_still (omega arith) (omega arith) stuck_accepted

still_rests : RestsOn 1 stuck_plan stuck_still
still_rests = rw still ruled_stuck_still

moving_rests : RestsOn 2 stuck_plan stuck_moving
moving_rests = rw (as_ruled 2 stuck_plan stuck_moving (omega arith) (omega arith) stuck_accepted) ruled_stuck_moving

-- task t depends on task u
abbrev on : ℕ → ℕ → Stuck
on t u = record { task = task_id t; on = task_id u }

ruled_list : stuck_list (ruled 1 stuck_plan stuck_still).system ≡ on 1 2 ∷ on 2 5 ∷ on 3 4 ∷ on 4 5 ∷ on 5 3 ∷ []
unfolding evaluated
ruled_list = refl

-- "9 of 17 instructions"
ruled_places : places_less_one (ruled 1 stuck_plan stuck_still).system ≡ 9
unfolding evaluated
ruled_places = refl

still_work : work_of 1 stuck_plan stuck_still ≡ 9
still_work = (work_is_places 1 stuck_plan stuck_still (omega arith) (omega arith) stuck_accepted).all ∙ rw still ruled_places

-- every run of it that rests has this list and this number
pub stuck_list_lem : (n : ℕ) (ss : List Step) → 1 ≤ n → n ≤ 6 → RestsOn n stuck_plan ss
    → stuck_list (from n stuck_plan ss).system ≡ on 1 2 ∷ on 2 5 ∷ on 3 4 ∷ on 4 5 ∷ on 5 3 ∷ []
stuck_list_lem n ss some few rests =
    (finish_everywhere n 1 stuck_plan ss stuck_still some few (omega arith) (omega arith) stuck_accepted rests still_rests).list ∙ rw still ruled_list

pub stuck_work : (n : ℕ) (ss : List Step) → 1 ≤ n → n ≤ 6 → RestsOn n stuck_plan ss → work_of n stuck_plan ss ≡ 9
stuck_work n ss some few rests =
    (same_work_everywhere n 1 stuck_plan ss stuck_still some few (omega arith) (omega arith) stuck_accepted rests still_rests).all ∙ still_work

-- as on two desks
pub moving_list : stuck_list (from 2 stuck_plan stuck_moving).system ≡ on 1 2 ∷ on 2 5 ∷ on 3 4 ∷ on 4 5 ∷ on 5 3 ∷ []
moving_list = stuck_list_lem 2 stuck_moving (omega arith) (omega arith) moving_rests

pub moving_work : work_of 2 stuck_plan stuck_moving ≡ 9
moving_work = stuck_work 2 stuck_moving (omega arith) (omega arith) moving_rests

-- the worked plan gets a yes, and so does its run on two desks
ending_accepted : plan_answer (programs ending_plan) ≡ Ok tt
unfolding evaluated
ending_accepted = refl

ruled_ending_still : quiescent (ruled 1 ending_plan ending_still).system ≡ true
unfolding evaluated
ruled_ending_still = refl

ruled_ending_moving : quiescent (ruled 2 ending_plan ending_moving).system ≡ true
unfolding evaluated
ruled_ending_moving = refl

ruled_verdict : verdict (ruled 1 ending_plan ending_still).system ≡ true
unfolding evaluated
ruled_verdict = refl

ending_still_lem : from 1 ending_plan ending_still ≡ ruled 1 ending_plan ending_still
ending_still_lem = as_ruled 1 ending_plan ending_still (omega arith) (omega arith) ending_accepted

ending_rests : RestsOn 2 ending_plan ending_moving
ending_rests = rw (as_ruled 2 ending_plan ending_moving (omega arith) (omega arith) ending_accepted) ruled_ending_moving

pub moving_yes : verdict (from 2 ending_plan ending_moving).system ≡ true
moving_yes =
    (finish_everywhere 2 1 ending_plan ending_moving ending_still (omega arith) (omega arith) (omega arith) (omega arith) ending_accepted ending_rests
    (rw ending_still_lem ruled_ending_still)).finishes
    ∙ rw ending_still_lem ruled_verdict
