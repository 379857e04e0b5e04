-- `children_ok` tests that the living children are tasks of the rig.
use mathlib.Core.Path.{sym}
use borrow.Author.Tests.{le-leb}
use Rattle.rig_check.proofs.tasks.Children.{shifted_out, word_fits_lem}
use Rattle.rig_check.proofs.tasks.children_ok.Goals as goal

pub returns-then-m-ge64 : goal.returns-then-m-ge64
returns-then-m-ge64 c =
    let a = c.args in
    rw (le-leb 64 a.m c.if-m-ge64.true) (sym (word_fits_lem a.children a.m c.ranges.children.fits c.if-m-ge64.true))

pub returns-else-m-ge64 : goal.returns-else-m-ge64
returns-else-m-ge64 c = shifted_out c.args.children c.args.m
