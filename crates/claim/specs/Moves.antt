-- What holds of moves in every run, beside demand 3: on one desk nothing moves, 17 is answered to no step, and the move count that 18 speaks of is
-- far away. Said of the definitions of `rules` and of the statement alone.
use Rattle.std.specs.Prelude.{◌≡◌, true, false, not, List, ℕ, ◌+◌, ◌≤◌, eqb, length, ◌≢◌, Ok, Err}
use Rattle.base.specs.Lists.{every}
use Rattle.plan.specs.declared.Plan.{Plan}
use Rattle.plan.specs.declared.TaskId.{TaskId}
use Rattle.plan.specs.Programs.{programs}
use Rattle.plan.specs.Refusals.{plan_answer}
use Rattle.rules.specs.declared.step.Step.{Step}
use Rattle.rules.specs.declared.step.StepRefusal.TheVariants.{MovesSpent, MoveWithChildren}
use Rattle.rules.specs.declared.system.System.{System}
use Rattle.rules.specs.Answers.{is_accepted, step_number}
use Rattle.rules.specs.Systems.{task_at}
use Rattle.rules.specs.Starts.{started}
use Rattle.rules.specs.Steps.{is_move, step_answer}
use Rattle.claim.specs.Statement.{accepted_of, from}

-- `no_move_on_one_processor`: any rig of one desk, whether 9 refuses it or not, refuses every move
abbrev pub NoMoveOnOneProcessor : Type 0
NoMoveOnOneProcessor = (r : System) (s : Step) → r.processors ≡ 1 → is_move s ≡ true → is_accepted (step_answer r s) ≡ false

-- "a one-desk rig where nothing moves": so no list of steps has an accepted move there, of any plan
abbrev pub NothingMoves : Type 0
NothingMoves = (p : Plan) (ss : List Step) → accepted_of is_move (started 1 p) ss ≡ 0

-- `never_seventeen`: "A ready task with living children may now move .. Refusal 17 never occurs now." No rig, whether 9 refuses it or not, answers a
-- step by it
abbrev pub NeverSeventeen : Type 0
NeverSeventeen = (r : System) (s : Step) → step_answer r s ≢ Err MoveWithChildren

-- "a move count (1 at birth)", and by a move "Its count goes up by one": after a list of steps
pub record MovesFew (n : ℕ) (p : Plan) (ss : List Step) : Type 0 where
  -- no count is above the accepted moves and one
  pub count : (t : TaskId) → (task_at (from n p ss).system t).moves ≤ accepted_of is_move (started n p) ss + 1
  -- a further step is answered 18, "move count 9,999", only after 9,998 accepted moves
  pub spent : (s : Step) → step_answer (from n p ss).system s ≡ Err MovesSpent → 9998 ≤ accepted_of is_move (started n p) ss
  -- so no step of a list of up to 9,998 steps is; a step file has at most 2,000
  pub none : length ss ≤ 9998 → every (λ q. not (eqb (step_number q.answer) 18)) (from n p ss).reports ≡ true

-- `moves_few`: for every accepted plan, 1 to 6 desks and every list of steps
abbrev pub FewMoves : Type 0
FewMoves = (n : ℕ) (p : Plan) (ss : List Step) → 1 ≤ n → n ≤ 6 → plan_answer (programs p) ≡ Ok tt → MovesFew n p ss
