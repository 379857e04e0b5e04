-- `answer` makes the table of who uses what and the parts of the start, runs to rest on them and writes the lines.
use mathlib.Core.Path.{refl}
use mathlib.Core.List.{[]}
use native.Mathlib.Omega.{arith}
use borrow.Author.Rules.{rules}
use Rattle.rig_parts.proofs.BoundsParts.{count_few}
use Rattle.run.proofs.file.Beginning.{few_users}
use Rattle.finish.proofs.Going.{parts, few_runs}
use Rattle.finish.proofs.Reading.{all_dependent, lines_are}
use Rattle.finish.proofs.Starting.{starts, nothing_written}
use Rattle.finish.proofs.answer.answer.Goals as goal

pub build-requires : goal.build-requires
build-requires c = (refl, few_users c.requires.begins)

pub settle-work-requires : goal.settle-work-requires
settle-work-requires c =
    let a = c.args in
    let z = c.no_tables-tables in
    let on = c.start_board in
    let g = starts a.count a.codes.now a.numbers.now c.build.ensures c.requires.begins z.ensures on.ensures
    (c.locate.ensures z.result.heldprocessors z.result.heldnumbers z.result.notes on.new.board on.ensures.whole) in
    record { plan = _; start = g }

pub emit_answer-requires : goal.emit_answer-requires
emit_answer-requires c =
    let a = c.args in
    let z = c.no_tables-tables in
    let on = c.start_board in
    let g = starts a.count a.codes.now a.numbers.now c.build.ensures c.requires.begins z.ensures on.ensures
    (c.locate.ensures z.result.heldprocessors z.result.heldnumbers z.result.notes on.new.board on.ensures.whole) in
    let r = (c.settle-work.ensures _ g).gone in
    (count_few (parts r.after), all_dependent r.after, omega (arith, few_runs r), refl, omega arith)

pub returns : goal.returns
returns c p b =
    let a = c.args in
    let z = c.no_tables-tables in
    let on = c.start_board in
    let g = starts a.count a.codes.now a.numbers.now c.build.ensures b z.ensures on.ensures
    (c.locate.ensures z.result.heldprocessors z.result.heldnumbers z.result.notes on.new.board on.ensures.whole) in
    let r = c.settle-work.ensures p g in
    let lines = c.emit_answer.ensures.more [] _ (nothing_written _) in
    record { list = r.gone.list; rests = r.rests; written = rw (lines_are r.gone.after) at lines }
