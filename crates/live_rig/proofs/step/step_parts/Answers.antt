-- `step_parts`: the parts of the bytes, 9, the step on them and on the mail, and the parts written.
use mathlib.Core.Path.{sym, ◌∙◌}
use mathlib.Core.Bool.{true}
use native.Mathlib.Omega.{arith}
use borrow.Author.Tests.{not-true, not-false}
use Rattle.rig_write.proofs.Loans.{back_long}
use Rattle.live_rig.proofs.Opened.{blank_room, sound_here, few_here, refused_here}
use Rattle.live_rig.proofs.Turns.{live_opened, accepted_opened, letter_opened}
use Rattle.live_rig.proofs.Making.{mail_long}
use Rattle.live_rig.proofs.Stepped.{bad_bytes, turn_refused, turn_written}
use Rattle.live_rig.proofs.step.step_parts.Goals as goal

pub open_parts-o-requires : goal.open_parts-o-requires
open_parts-o-requires c = (c.requires.long, c.requires.plan, blank_room)

pub returns-then-not-o : goal.returns-then-not-o
returns-then-not-o c =
    let o = c.open_parts-o in
    rw c.bad_system.ensures (bad_bytes c.args.rig.now c.args.s (refused_here o.ensures (not-true o.result.ok c.if-not-o.true)))

pub letter_at-letter-requires : goal.letter_at-letter-requires
letter_at-letter-requires c =
    let o = c.open_parts-o in
    (c.requires.long, omega (arith, c.position.ensures.1, few_here o.ensures (not-false o.result.ok c.if-not-o.false)))

pub slice_bounds-make-end : goal.slice_bounds-make-end
slice_bounds-make-end c = omega (arith, c.requires.long)

pub make-q-requires : goal.make-q-requires
make-q-requires c =
    let a = c.args in
    let o = c.open_parts-o in
    let passed = sound_here o.ensures (not-false o.result.ok c.if-not-o.false) in
    let live = live_opened a.rig.now a.lengths.now a.codes.now a.users.now a.tasks c.requires o.ensures.parts o.ensures.size c.read_chosen-chosen.ensures passed c.bytes_fit.ensures in
    let given = letter_opened a.rig.now a.lengths.now a.codes.now a.users.now a.tasks c.requires o.ensures.parts o.ensures.size c.read_chosen-chosen.ensures passed a.s c.position.ensures.0 c.letter_at-letter.ensures in
    record {
      last = _;
      some = record { accepted = accepted_opened a.rig.now a.lengths.now a.codes.now a.users.now a.tasks c.requires o.ensures.parts o.ensures.size c.read_chosen-chosen.ensures passed; system = _; on = live };
      letter = given;
    }

pub shape_of-rig-then-not-is_accepted : goal.shape_of-rig-then-not-is_accepted
shape_of-rig-then-not-is_accepted c =
    let a = c.args in
    let o = c.open_parts-o in
    let passed = sound_here o.ensures (not-false o.result.ok c.if-not-o.false) in
    let live = live_opened a.rig.now a.lengths.now a.codes.now a.users.now a.tasks c.requires o.ensures.parts o.ensures.size c.read_chosen-chosen.ensures passed c.bytes_fit.ensures in
    let given = letter_opened a.rig.now a.lengths.now a.codes.now a.users.now a.tasks c.requires o.ensures.parts o.ensures.size c.read_chosen-chosen.ensures passed a.s c.position.ensures.0 c.letter_at-letter.ensures in
    let made = c.make-q.ensures _ _ live given in
    back_long a.rig.now c.requires.long c.make-q.new.mail (mail_long made.on) ∙ sym c.requires.long

pub returns-then-not-is_accepted : goal.returns-then-not-is_accepted
returns-then-not-is_accepted c =
    let a = c.args in
    let o = c.open_parts-o in
    let passed = sound_here o.ensures (not-false o.result.ok c.if-not-o.false) in
    let live = live_opened a.rig.now a.lengths.now a.codes.now a.users.now a.tasks c.requires o.ensures.parts o.ensures.size c.read_chosen-chosen.ensures passed c.bytes_fit.ensures in
    let given = letter_opened a.rig.now a.lengths.now a.codes.now a.users.now a.tasks c.requires o.ensures.parts o.ensures.size c.read_chosen-chosen.ensures passed a.s c.position.ensures.0 c.letter_at-letter.ensures in
    let made = c.make-q.ensures _ _ live given in
    turn_refused a.rig.now a.lengths.now a.codes.now a.users.now a.tasks c.requires passed a.s c.make-q.result.report made live.mail_in_lem.bytes
    (sym c.is_accepted.ensures ∙ not-true c.is_accepted.result c.if-not-is_accepted.true-raw)

pub write_lent-requires : goal.write_lent-requires
write_lent-requires c =
    let a = c.args in
    let o = c.open_parts-o in
    let passed = sound_here o.ensures (not-false o.result.ok c.if-not-o.false) in
    let live = live_opened a.rig.now a.lengths.now a.codes.now a.users.now a.tasks c.requires o.ensures.parts o.ensures.size c.read_chosen-chosen.ensures passed c.bytes_fit.ensures in
    let given = letter_opened a.rig.now a.lengths.now a.codes.now a.users.now a.tasks c.requires o.ensures.parts o.ensures.size c.read_chosen-chosen.ensures passed a.s c.position.ensures.0 c.letter_at-letter.ensures in
    let made = c.make-q.ensures _ _ live given in
    back_long a.rig.now c.requires.long c.make-q.new.mail (mail_long made.on)

pub shape_of-rig : goal.shape_of-rig
shape_of-rig c =
    let a = c.args in
    let o = c.open_parts-o in
    let passed = sound_here o.ensures (not-false o.result.ok c.if-not-o.false) in
    let live = live_opened a.rig.now a.lengths.now a.codes.now a.users.now a.tasks c.requires o.ensures.parts o.ensures.size c.read_chosen-chosen.ensures passed c.bytes_fit.ensures in
    let given = letter_opened a.rig.now a.lengths.now a.codes.now a.users.now a.tasks c.requires o.ensures.parts o.ensures.size c.read_chosen-chosen.ensures passed a.s c.position.ensures.0 c.letter_at-letter.ensures in
    let made = c.make-q.ensures _ _ live given in
    omega (arith, c.rig-2-1.given, back_long a.rig.now c.requires.long c.make-q.new.mail (mail_long made.on), c.requires.long)

pub returns : goal.returns
returns c =
    let a = c.args in
    let o = c.open_parts-o in
    let passed = sound_here o.ensures (not-false o.result.ok c.if-not-o.false) in
    let live = live_opened a.rig.now a.lengths.now a.codes.now a.users.now a.tasks c.requires o.ensures.parts o.ensures.size c.read_chosen-chosen.ensures passed c.bytes_fit.ensures in
    let given = letter_opened a.rig.now a.lengths.now a.codes.now a.users.now a.tasks c.requires o.ensures.parts o.ensures.size c.read_chosen-chosen.ensures passed a.s c.position.ensures.0 c.letter_at-letter.ensures in
    let made = c.make-q.ensures _ _ live given in
    turn_written a.rig.now a.lengths.now a.codes.now a.users.now a.tasks c.requires passed a.s c.make-q.result.report made
    (sym c.is_accepted.ensures ∙ not-false c.is_accepted.result c.if-not-is_accepted.false-raw)
    (record {
      hintprocessors = c.bytes_fit-2.ensures;
      hintmoves = c.counts_fit.ensures;
      heldprocessors = c.bytes_fit-3.ensures;
      heldnumbers = c.bytes_fit-4.ensures;
      notes = c.bytes_fit-5.ensures;
      board = c.numbers_fit.ensures;
      chosen = c.bytes_fit-6.ensures;
    })
    c.write_lent.ensures
