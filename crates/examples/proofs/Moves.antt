-- What is said of moves, used: the example's first step moves task 1, so that its count is as large as it can be; on one desk nothing moves; task 1
-- moves with living children.
use mathlib.Core.Path.{◌≡◌, refl}
use mathlib.Core.Bool.{true, false, not}
use mathlib.Core.List.{[], ◌∷◌, List, ◌++◌}
use native.Mathlib.Omega.{arith}
use lib.Dec.{eqb}
use Rattle.std.specs.Prelude.{Ok, Err}
use Rattle.base.specs.Lists.{every}
use Rattle.plan.specs.Numbers.{task_id}
use Rattle.plan.specs.Programs.{programs}
use Rattle.plan.specs.Refusals.{plan_answer}
use Rattle.rules.specs.declared.step.Step.{Step}
use Rattle.rules.specs.declared.step.StepRefusal.TheVariants.{MoveWithChildren}
use Rattle.rules.specs.Answers.{is_accepted, step_number}
use Rattle.rules.specs.Systems.{task_at, parent_at}
use Rattle.rules.specs.Starts.{started}
use Rattle.rules.specs.Steps.{is_move, step_answer, ruled_steps, step}
use Rattle.rules.proofs.Evaluated.{evaluated}
use Rattle.rules_laws.proofs.Shapes.{started_processors}
use Rattle.claim.specs.Statement.{accepted_of, from}
use Rattle.examples.specs.Demand3.{example_plan, example_all}
use Rattle.claim.proofs.Moves.{no_move_on_one_processor, moves_few, never_seventeen}
use mathlib.Core.Logic.{◌≢◌}
use Rattle.rules.proofs.Scripts.{run, deliver, move}
use Rattle.rules.specs.Numbers.{processor_id}
use Rattle.claim.proofs.Parents.{none_held_by_runs}

abbrev first_move : Step
first_move = record { kind = 3; task = 1; number = 3 }

accepted : plan_answer (programs example_plan) ≡ Ok tt
unfolding evaluated
accepted = refl

-- on three desks the move is accepted, and on one desk no move is
moves : step_answer (started 3 example_plan) first_move ≡ Ok tt
unfolding evaluated
moves = refl

pub stays : (s : Step) → is_move s ≡ true → is_accepted (step_answer (started 1 example_plan) s) ≡ false
stays s kind = no_move_on_one_processor (started 1 example_plan) s (started_processors 1 example_plan) kind

-- one accepted move, and a count of two
one_move : accepted_of is_move (started 3 example_plan) (first_move ∷ []) ≡ 1
unfolding evaluated accepted_of
one_move = refl

count_two : (task_at (from 3 example_plan (first_move ∷ [])).system (task_id 1)).moves ≡ 2
unfolding evaluated
count_two = refl

-- no step of the whole run is answered 18
pub none_spent : every (λ q. not (eqb (step_number q.answer) 18)) (from 3 example_plan example_all).reports ≡ true
none_spent = (moves_few 3 example_plan example_all (omega arith) (omega arith) accepted).none (omega arith)

-- task 1 moves while its four children live: the eleventh step of the run
abbrev first_ten : List Step
first_ten = move 1 3 ∷ deliver 1 ∷ run 1 ∷ run 1 ∷ run 3 ∷ run 1 ∷ run 4 ∷ run 4 ∷ run 4 ∷ run 1 ∷ []

abbrev on_the_way : List Step
on_the_way = first_ten ++ (move 1 1 ∷ [])

four_live : (task_at (ruled_steps (started 3 example_plan) first_ten).system (task_id 1)).children ≡ 30
unfolding evaluated
four_live = refl

parent_moves : step_answer (ruled_steps (started 3 example_plan) first_ten).system (move 1 1) ≡ Ok tt
unfolding evaluated
parent_moves = refl

-- and no step is answered 17
pub none_seventeen : (s : Step) → step_answer (from 3 example_plan first_ten).system s ≢ Err MoveWithChildren
none_seventeen s = never_seventeen (from 3 example_plan first_ten).system s

-- then task 5 ends at desk 3 while task 1 is on its way to desk 1: by the run nobody is held, by its letter task 5 is
pub run_holds_nobody : (step (from 3 example_plan on_the_way).system (run 5)).system.parents.held ≡ (from 3 example_plan on_the_way).system.parents.held
run_holds_nobody = none_held_by_runs 3 example_plan on_the_way (run 5) (omega arith) (omega arith) accepted refl

letter_holds : (parent_at (ruled_steps (started 3 example_plan) (on_the_way ++ (run 5 ∷ deliver 2 ∷ []))).system (processor_id 1) (task_id 1)).held ≡ 16
unfolding evaluated
letter_holds = refl
