-- `drive` makes the table of who uses what and the parts of the start, runs the steps on them and writes the lines behind them.
use mathlib.Core.Path.{refl, sym, ◌∙◌}
use borrow.Author.Rules.{rules}
use Rattle.rig.proofs.rest.Refusals.{rest_quiet}
use Rattle.steps.proofs.instruction.Refusals.{placed}
use Rattle.rig_parts.proofs.BoundsParts.{count_few}
use Rattle.run.proofs.all_steps.Fits.{written_room}
use Rattle.run.proofs.file.Beginning.{few_users, begun}
use Rattle.run.proofs.file.Traces.{rig_messages, ran_rig, driven}
use Rattle.run.proofs.file.drive.drive.Goals as goal

pub build-requires : goal.build-requires
build-requires c = (refl, few_users c.requires.0.begins)

pub run_steps-network-requires : goal.run_steps-network-requires
run_steps-network-requires c =
    let a = c.args in
    let z = c.no_tables-tables in
    let on = c.start_board in
    let g = begun a.count a.codes.now a.numbers.now c.build.ensures c.requires.0.begins c.no_messages-network.ensures z.ensures on.ensures
    (c.locate.ensures z.result.heldprocessors z.result.heldnumbers z.result.notes on.new.board on.ensures.whole) in
    record { rig = g; whole = on.ensures.whole; indexed = c.build.ensures.indexed; few = c.requires.1; blank = refl }

pub emit_marks-requires : goal.emit_marks-requires
emit_marks-requires c =
    let a = c.args in
    let z = c.no_tables-tables in
    let on = c.start_board in
    let g = begun a.count a.codes.now a.numbers.now c.build.ensures c.requires.0.begins c.no_messages-network.ensures z.ensures on.ensures
    (c.locate.ensures z.result.heldprocessors z.result.heldnumbers z.result.notes on.new.board on.ensures.whole) in
    let h = c.run_steps-network.ensures.0 in
    (count_few (ran_rig g _ h).parts, h.two, written_room h.lines)

pub at_rest-rest-requires : goal.at_rest-rest-requires
at_rest-rest-requires c =
    let a = c.args in
    let z = c.no_tables-tables in
    let on = c.start_board in
    let g = begun a.count a.codes.now a.numbers.now c.build.ensures c.requires.0.begins c.no_messages-network.ensures z.ensures on.ensures
    (c.locate.ensures z.result.heldprocessors z.result.heldnumbers z.result.notes on.new.board on.ensures.whole) in
    placed (ran_rig g _ c.run_steps-network.ensures.0).parts

pub emit_last-requires : goal.emit_last-requires
emit_last-requires c =
    let a = c.args in
    let z = c.no_tables-tables in
    let on = c.start_board in
    let g = begun a.count a.codes.now a.numbers.now c.build.ensures c.requires.0.begins c.no_messages-network.ensures z.ensures on.ensures
    (c.locate.ensures z.result.heldprocessors z.result.heldnumbers z.result.notes on.new.board on.ensures.whole) in
    let h = c.run_steps-network.ensures.0 in
    let lines = c.emit_marks.ensures in
    (rig_messages (ran_rig g _ h), lines.long ∙ h.two, lines.room (written_room h.lines))

pub returns : goal.returns
returns c p b =
    let a = c.args in
    let z = c.no_tables-tables in
    let on = c.start_board in
    let g = begun a.count a.codes.now a.numbers.now c.build.ensures b c.no_messages-network.ensures z.ensures on.ensures
    (c.locate.ensures z.result.heldprocessors z.result.heldnumbers z.result.notes on.new.board on.ensures.whole) in
    let h = c.run_steps-network.ensures.0 in
    driven g _ h _ (c.at_rest-rest.ensures ∙ sym (rest_quiet (ran_rig g _ h).parts)) c.emit_marks.ensures c.emit_last.ensures
