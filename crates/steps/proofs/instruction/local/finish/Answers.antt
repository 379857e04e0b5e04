-- `finish`: a finish of task t, with record x, unless its letter does not fit.
use mathlib.Core.Path.{◌≡◌, refl, sym, ◌∙◌}
use borrow.Author.Rules.{rules}
use borrow.Author.Tests.{not-true, not-false}
use Rattle.std.specs.Prelude.{Ok}
use Rattle.rig_parts.specs.RunVerdicts.{fitting_in}
use Rattle.plan_index.specs.user_table.Users.{parents_of}
use Rattle.board.specs.Lent.{lent, tasks_on, parents_on}
use Rattle.board.proofs.Acts.{none_fits}
use Rattle.steps.specs.instruction.Locals.{finish_change}
use Rattle.steps.proofs.instruction.Locals.{two_acted}
use Rattle.steps.proofs.instruction.local.finish.Goals as goal

pub returns-then-not-fits : goal.returns-then-not-fits
returns-then-not-fits c ss rs hp hm op on notes =
    let a = c.args in
    let k = finish_change (parents_of a.users.now) (tasks_on a.board.now) (parents_on a.board.now) a.t a.x in
    let said = rw c.finished-f.ensures at c.fits.ensures in
    none_fits a.n.processors a.n.used k.scope {o = k.outcome} ss rs refl said k.sweep (not-true c.fits.result c.if-not-fits.true-raw) c.refused.ensures c.requires.0

pub put_task-requires : goal.put_task-requires
put_task-requires c =
    (rw c.parent-u.ensures c.requires.2.parent, c.requires.0)

pub put_parent-requires : goal.put_parent-requires
put_parent-requires c =
    let can = c.requires.2 in
    (record { processor_low = can.processor_low; processor = can.processor; task = rw c.parent-u.ensures can.parent }, c.put_task-2.ensures.0)

pub returns : goal.returns
returns c ss rs hp hm op on notes =
    let a = c.args in
    let k = finish_change (parents_of a.users.now) (tasks_on a.board.now) (parents_on a.board.now) a.t a.x in
    let f = c.finished-f.ensures in
    let one = c.put_task.ensures in
    let two = c.put_task-2.ensures in
    let put = c.put_parent in
    let said = rw c.finished-f.ensures at c.fits.ensures in
    let v : fitting_in a.n.processors a.n.used k ≡ Ok k = rw (sym said, not-false c.fits.result c.if-not-fits.false-raw) refl in
    rw v
    (two_acted ss rs k.scope.sender a.t a.x.processor k.outcome.sender k.outcome.receiver k.outcome.posting k.sweep
    (lent hp hm op on notes a.board.now) (lent hp hm op on notes put.new.board)
    put.ensures.0
    (c.posted.ensures ∙ rw f refl)
    (put.ensures.2 ∙ two.1 ∙ rw (one.1, c.parent-u.ensures, f) refl)
    (rw (put.ensures.3, two.2, one.2) refl)
    (put.ensures.1 ∙ rw (two.3, one.3, c.parent-u.ensures, f) refl))
