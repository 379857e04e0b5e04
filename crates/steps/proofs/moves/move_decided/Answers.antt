-- `move_decided`: by the answer.
use mathlib.Core.Path.{◌≡◌, sym, ap, ◌∙◌}
use mathlib.Core.Bool.{true}
use native.Mathlib.Nat.{lt_of_le_of_lt}
use borrow.Author.Rules.{rules}
use borrow.Author.Tests.{not-true, not-false}
use Rattle.base.proofs.Tests.{within_high}
use Rattle.rules.specs.Answers.{StepAnswer}
use Rattle.rules.specs.Answers.{is_accepted}
use Rattle.rules.specs.Numbers.{processor_id}
use Rattle.rig_parts.specs.MoveVerdicts.{move_refusal}
use Rattle.rig_parts.proofs.Passed.{move_passed}
use Rattle.board.specs.Lent.{tasks_on}
use Rattle.board.specs.Acted.{act_of, refused_act}
use Rattle.steps.proofs.Moving.{move_refused, move_accepted}
use Rattle.steps.proofs.moves.move_decided.Goals as goal
use Rattle.steps.proofs.moves.move_decided.Goals.{After-is_accepted, Else-not-is_accepted, Start}

-- the answer
abbrev answer : Start → StepAnswer
answer c = let a = c.args in move_refusal a.n.tasks a.n.processors (tasks_on a.board.now) a.n.used a.t (processor_id a.to)

-- whether it is accepted
asked : (c : After-is_accepted) → is_accepted (answer c.before.before) ≡ c.is_accepted.result
asked c = sym (c.is_accepted.ensures ∙ ap is_accepted c.move_refusal-q.ensures)

accepted : (c : Else-not-is_accepted) → is_accepted (answer c.before.before.before) ≡ true
accepted c = asked c.before ∙ not-false _ c.if-not-is_accepted.false-raw

pub returns-then-not-is_accepted : goal.returns-then-not-is_accepted
returns-then-not-is_accepted c =
    let n = c.before.before in
    c.refused.ensures ∙ ap refused_act n.move_refusal-q.ensures ∙ move_refused _ _ _ _ _ _ (asked n ∙ not-true _ c.if-not-is_accepted.true-raw)

pub overflow_cast-e : goal.overflow_cast-e
overflow_cast-e c = record { fits = lt_of_le_of_lt (within_high 1 _ _ (move_passed _ _ _ _ _ _ (accepted c)).processor) (search rules) }

pub returns : goal.returns
returns c = c.posted.ensures ∙ sym (ap act_of (move_accepted _ _ _ _ _ _ (accepted c.before)))
