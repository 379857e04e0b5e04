-- `create`: a create of task t, with record x: task u is born at its desk.
use mathlib.Core.Path.{refl, ◌∙◌}
use borrow.Author.Rules.{rules}
use Rattle.rules.specs.declared.rule.Posting.TheVariants.{Nothing as NoPosting}
use Rattle.rules.specs.Hints.{hint}
use Rattle.rules.specs.Tasks.{born}
use Rattle.rules.specs.Local.{create_rule}
use Rattle.rig_parts.specs.declared.sweep.Sweep.TheVariants.{Birth}
use Rattle.plan_index.specs.user_table.Users.{receivers_of}
use Rattle.board.specs.Lent.{lent}
use Rattle.steps.proofs.instruction.Locals.{two_acted}
use Rattle.steps.proofs.instruction.local.create.Goals as goal

pub point_parent-requires : goal.point_parent-requires
point_parent-requires c =
    let can = c.requires.2 in
    (record { processor_low = can.processor_low; processor = can.processor; task = can.child }, c.put_task-2.ensures.0)

pub returns : goal.returns
returns c ss op on notes =
    let a = c.args in
    let x = a.x in
    let d = x.processor in
    let one = c.put_task in
    let two = c.put_task-2 in
    let put = c.point_parent in
    let at = c.locate in
    let now = put.new.board in
    two_acted ss (receivers_of a.users.now) a.t a.u d (create_rule x a.u) (born d (hint d x.moves)) NoPosting (Birth a.u d)
    (lent a.hintprocessors.now a.hintmoves.now op on notes a.board.now) (lent at.new.hintprocessors at.new.hintmoves op on notes now)
    put.ensures.0
    c.posted.ensures
    (put.ensures.2 ∙ two.ensures.1 ∙ rw (one.ensures.1, c.create_rule-y.ensures, c.birth-child.ensures) refl)
    ((at.ensures op on notes now put.ensures.0).store ∙ rw (put.ensures.3, two.ensures.2, one.ensures.2) refl)
    (put.ensures.1 ∙ rw (two.ensures.3, one.ensures.3) refl)
