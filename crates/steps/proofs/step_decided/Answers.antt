-- `step_decided`: by the step's kind.
use mathlib.Core.Path.{sym, ap, ◌∙◌}
use native.Mathlib.Omega.{arith}
use borrow.Author.Rules.{rules}
use Rattle.rig_parts.proofs.BoundsParts.{count_few}
use Rattle.board.specs.Acted.{act_of}
use Rattle.steps.proofs.ByKind.{bad_run, a_run, a_move, no_run_no_move}
use Rattle.steps.proofs.step_decided.Goals as goal

pub returns-then-s-ne0 : goal.returns-then-s-ne0
returns-then-s-ne0 c = c.refused.ensures ∙ sym (ap act_of (bad_run _ _ _ _ _ _ c.if-s-eq1.true c.if-s-ne0.true))

pub returns-then-s-eq1 : goal.returns-then-s-eq1
returns-then-s-eq1 c =
    c.run_decided.ensures ∙ sym (ap act_of (a_run _ _ _ _ _ _ c.if-s-eq1.true (omega (arith, c.if-s-ne0.false))))

pub move_decided-requires : goal.move_decided-requires
move_decided-requires c = count_few c.requires.parts

pub returns-then-s-eq3 : goal.returns-then-s-eq3
returns-then-s-eq3 c = c.move_decided.ensures ∙ sym (ap act_of (a_move _ _ _ _ _ _ c.if-s-eq3.true))

pub returns : goal.returns
returns c =
    c.no_message.ensures ∙ sym (ap act_of (no_run_no_move _ _ _ _ _ _ c.if-s-eq1.false c.if-s-eq3.false))
