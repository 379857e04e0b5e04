-- `start`.
use mathlib.Core.Path.{refl}
use borrow.Author.Rules.{rules}
use Rattle.rig.proofs.start.Boards.{zeros, unborn_none}
use Rattle.rig.proofs.start.Starting.{none, started_located}
use Rattle.rig.proofs.start.Tables.{few_ends}
use Rattle.rig.proofs.start.start.Goals as goal

pub build-requires : goal.build-requires
build-requires c = (refl, rw c.requires.0 (few_ends c.args.p c.requires.1))

pub returns : goal.returns
returns c =
    let blank = c.no_tables-tables.ensures in
    let q = c.locate.ensures none none none zeros unborn_none.whole in
    rw (c.no_messages.ensures, c.start_parents.ensures, c.no_channels.ensures, c.start_tasks.ensures, blank)
    (started_located c.args.processors c.args.p c.locate.new.hintprocessors c.locate.new.hintmoves (rw (blank, c.build.ensures.receivers_of_lem, c.requires.0) at q))
