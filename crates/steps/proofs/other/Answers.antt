-- `other`: by the step's kind.
use native.Mathlib.Omega.{arith}
use borrow.Author.Rules.{rules}
use Rattle.rules.specs.declared.step.StepRefusal.TheVariants.{BadStep}
use Rattle.rules.specs.Numbers.{task_id}
use Rattle.rig_parts.specs.Answers.{Verdict}
use Rattle.rig_parts.specs.Facts.{Facts}
use Rattle.board.specs.Lent.{Lent, lent, tasks_of, kept_of}
use Rattle.board.specs.Rigs.{facts_in}
use Rattle.board.specs.Verdicts.{step_verdict}
use Rattle.steps.proofs.Acting.{same_acted, refused_acted}
use Rattle.steps.proofs.Moving.{rig_moves}
use Rattle.steps.proofs.ByKind.{bad_run, a_run}
use Rattle.steps.proofs.other.Goals as goal
use Rattle.steps.proofs.other.Goals.{Start}

-- the facts, what is lent, and the verdict
abbrev given : Start → Facts
given s = let a = s.args in facts_in a.n.tasks a.codes.now a.numbers.now a.users.now

abbrev here : Start → Lent
here s = let a = s.args in lent a.hintprocessors.now a.hintmoves.now a.heldprocessors.now a.heldnumbers.now a.notes.now a.board.now

abbrev verdict : Start → Verdict
verdict s = let a = s.args in step_verdict (given s) a.n.processors (tasks_of (here s)) (kept_of (here s)) a.n.used a.s

pub returns-then-s-ne0 : goal.returns-then-s-ne0
returns-then-s-ne0 c =
    let k = c.before.before.before in
    let s = k.before.before in
    refused_acted (given s).senders (given s).receivers (here s) s.requires.whole (verdict s) BadStep
    (bad_run _ _ _ _ _ _ k.if-s-eq1.true c.if-s-ne0.true) c.refused.ensures

pub returns-then-s-eq1 : goal.returns-then-s-eq1
returns-then-s-eq1 c =
    let z = c.before.before.before.before.before.before.before in
    let k = z.before.before in
    let s = k.before.before in
    same_acted (a_run (given s) s.args.n.processors (tasks_of (here s)) (kept_of (here s)) s.args.n.used s.args.s k.if-s-eq1.true (omega (arith, z.if-s-ne0.false)))
    c.run.ensures

pub not_run-requires : goal.not_run-requires
not_run-requires c =
    let else1 = c.before.before.before in
    let s = else1.before.before in
    (else1.if-s-eq1.false, rig_moves s.requires (task_id s.args.s.task))

pub returns : goal.returns
returns c =
    let a = c.args in
    c.not_run.ensures a.codes.now a.numbers.now a.heldprocessors.now a.heldnumbers.now a.notes.now
