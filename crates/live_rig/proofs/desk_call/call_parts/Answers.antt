-- `call_parts`: the parts of the bytes, 9, 15, the two turns on them and on the mail, and the parts written.
use mathlib.Core.Logic.{◌≢◌}
use mathlib.Core.Path.{◌≡◌, sym, ap, ◌∙◌}
use mathlib.Core.Bool.{true, Bool}
use native.Mathlib.Omega.{arith}
use borrow.Author.Tests.{not-true, not-false}
use Rattle.image.specs.Image.{rig_of, is_image, network_in}
use Rattle.rig_write.proofs.Loans.{back_long}
use Rattle.live_rig.specs.Open.{sound, size_of}
use mathlib.Core.List.{List}
use Prim.Native.Nat.{ℕ, ◌≤◌}
use Rattle.base.specs.Choice.{within}
use Rattle.base.proofs.Tests.{and_left, and_right, within_low, within_high}
use Rattle.plan.specs.declared.ProcessorId.{ProcessorId}
use Rattle.rules.specs.declared.message.Message.{Message}
use Rattle.rules.specs.Networks.{messages, message_at}
use Rattle.rules.specs.Sound.{system_ok}
use Rattle.rules.specs.Dispatch.{earliest}
use Rattle.rules_laws.proofs.Sound.{system_passed, messages_fit}
use Rattle.board.specs.declared.act.Size.{Size}
use Rattle.image.specs.Numbers.{number_at}
use Rattle.live_rig.specs.Calls.{LetterAt}
use Rattle.live_rig.proofs.Opened.{shaped, blank_room, sound_here, few_here, refused_here}
use Rattle.live_rig.proofs.Turns.{live_opened, accepted_opened}
use Rattle.live_rig.proofs.Making.{mail_long}
use Rattle.live_rig.proofs.Calls.{earliest_there}
use Rattle.live_rig.proofs.Called.{bad_call, no_desk, call_written}
use Rattle.live_rig.proofs.desk_call.call_parts.Goals as goal

-- how many letters there are, and that the earliest for a desk is one of them
used_is : (b : List ℕ) {n : Size} → n ≡ size_of (rig_of b) → n.used ≡ number_at 4 b 8
unfolding rig_of network_in
used_is b e = ap (λ (s : Size). s.used) e

mail_there : (b : List ℕ) (d : ProcessorId) → sound b ≡ true → earliest d (messages (network_in b)) ≤ 256
unfolding rig_of
mail_there b d ok = earliest_there d (network_in b) (shaped b).slots (messages_fit (rig_of b) (and_right (is_image b) (system_ok (rig_of b)) ok))

-- the letter at the earliest place, and that place, are the rig's
letter_given : (b : List ℕ) {p q : ℕ} {m : Message} → q ≡ p → (q ≢ 0 → m ≡ message_at (network_in b) q) → LetterAt (rig_of b).network p m
unfolding rig_of
letter_given b w h ne = h (λ z. ne (sym w ∙ z)) ∙ ap (message_at (network_in b)) w

earliest_is : (b : List ℕ) (d : ProcessorId) {p : ℕ} → p ≡ earliest d (messages (network_in b)) → p ≡ earliest d (messages (rig_of b).network)
unfolding rig_of
earliest_is b d e = e

-- the desk is tested on the rig's desks
desk_tested : (b : List ℕ) {n : Size} (d : ProcessorId) {t : Bool} → n ≡ size_of (rig_of b) → within 1 n.processors d.0 ≡ t → within 1 (rig_of b).processors d.0 ≡ t
desk_tested b d e h = rw (← ap (λ (s : Size). s.processors) e) h

pub open_parts-o-requires : goal.open_parts-o-requires
open_parts-o-requires c = (c.requires.long, c.requires.plan, blank_room)

pub returns-then-not-o : goal.returns-then-not-o
returns-then-not-o c =
    let o = c.open_parts-o in
    rw c.no_call.ensures (bad_call c.args.rig.now c.args.d (refused_here o.ensures (not-true o.result.ok c.if-not-o.true)))

pub returns-then-not-is_within : goal.returns-then-not-is_within
returns-then-not-is_within c =
    let a = c.args in
    let o = c.open_parts-o in
    let passed = sound_here o.ensures (not-false o.result.ok c.if-not-o.false) in
    rw c.no_call-then-not-is_within.ensures
    (no_desk a.rig.now a.d passed
    (desk_tested a.rig.now a.d o.ensures.size (sym (rw (c.wide8-2.ensures, c.wide8.ensures) at c.is_within.ensures) ∙ not-true c.is_within.result c.if-not-is_within.true-raw)))

pub earliest_in-p-requires : goal.earliest_in-p-requires
earliest_in-p-requires c =
    let a = c.args in
    let o = c.open_parts-o in
    let passed = sound_here o.ensures (not-false o.result.ok c.if-not-o.false) in
    let b = a.rig.now in
    (c.requires.long, and_left (is_image b) (system_ok (rig_of b)) passed, used_is b o.ensures.size, few_here o.ensures (not-false o.result.ok c.if-not-o.false))

pub letter_at-letter-requires : goal.letter_at-letter-requires
letter_at-letter-requires c =
    let a = c.args in
    let o = c.open_parts-o in
    let passed = sound_here o.ensures (not-false o.result.ok c.if-not-o.false) in
    (c.requires.long, omega (arith, c.wide16.ensures, c.earliest_in-p.ensures, mail_there a.rig.now a.d passed))

pub slice_bounds-both_turns-end : goal.slice_bounds-both_turns-end
slice_bounds-both_turns-end c = omega (arith, c.requires.long)

pub both_turns-q-requires : goal.both_turns-q-requires
both_turns-q-requires c =
    let a = c.args in
    let o = c.open_parts-o in
    let passed = sound_here o.ensures (not-false o.result.ok c.if-not-o.false) in
    let desk = desk_tested a.rig.now a.d o.ensures.size (sym (rw (c.wide8-2.ensures, c.wide8.ensures) at c.is_within.ensures) ∙ not-false c.is_within.result c.if-not-is_within.false-raw) in
    let live = live_opened a.rig.now a.lengths.now a.codes.now a.users.now a.tasks c.requires o.ensures.parts o.ensures.size c.read_chosen-chosen.ensures passed c.bytes_fit.ensures in
    let given = letter_given a.rig.now c.wide16.ensures c.letter_at-letter.ensures in
    let position = earliest_is a.rig.now a.d c.earliest_in-p.ensures in
    let r = rig_of a.rig.now in
    record {
      runs =
          record {
            some = record { accepted = accepted_opened a.rig.now a.lengths.now a.codes.now a.users.now a.tasks c.requires o.ensures.parts o.ensures.size c.read_chosen-chosen.ensures passed; system = _; on = live };
            first = within_low 1 r.processors a.d.0 desk;
            most = omega (arith, within_high 1 r.processors a.d.0 desk, within_high 1 6 r.processors (system_passed r live.on.sound).processors);
          };
      letter = given;
      position = position;
    }

pub write_lent-requires : goal.write_lent-requires
write_lent-requires c =
    let a = c.args in
    let o = c.open_parts-o in
    let passed = sound_here o.ensures (not-false o.result.ok c.if-not-o.false) in
    let desk = desk_tested a.rig.now a.d o.ensures.size (sym (rw (c.wide8-2.ensures, c.wide8.ensures) at c.is_within.ensures) ∙ not-false c.is_within.result c.if-not-is_within.false-raw) in
    let live = live_opened a.rig.now a.lengths.now a.codes.now a.users.now a.tasks c.requires o.ensures.parts o.ensures.size c.read_chosen-chosen.ensures passed c.bytes_fit.ensures in
    let given = letter_given a.rig.now c.wide16.ensures c.letter_at-letter.ensures in
    let position = earliest_is a.rig.now a.d c.earliest_in-p.ensures in
    let made = c.both_turns-q.ensures _ live given position in
    back_long a.rig.now c.requires.long c.both_turns-q.new.mail (mail_long made.run.on)

pub shape_of-rig : goal.shape_of-rig
shape_of-rig c =
    let a = c.args in
    let o = c.open_parts-o in
    let passed = sound_here o.ensures (not-false o.result.ok c.if-not-o.false) in
    let desk = desk_tested a.rig.now a.d o.ensures.size (sym (rw (c.wide8-2.ensures, c.wide8.ensures) at c.is_within.ensures) ∙ not-false c.is_within.result c.if-not-is_within.false-raw) in
    let live = live_opened a.rig.now a.lengths.now a.codes.now a.users.now a.tasks c.requires o.ensures.parts o.ensures.size c.read_chosen-chosen.ensures passed c.bytes_fit.ensures in
    let given = letter_given a.rig.now c.wide16.ensures c.letter_at-letter.ensures in
    let position = earliest_is a.rig.now a.d c.earliest_in-p.ensures in
    let made = c.both_turns-q.ensures _ live given position in
    omega (arith, c.rig-2-1.given, back_long a.rig.now c.requires.long c.both_turns-q.new.mail (mail_long made.run.on), c.requires.long)

pub returns : goal.returns
returns c =
    let a = c.args in
    let o = c.open_parts-o in
    let passed = sound_here o.ensures (not-false o.result.ok c.if-not-o.false) in
    let desk = desk_tested a.rig.now a.d o.ensures.size (sym (rw (c.wide8-2.ensures, c.wide8.ensures) at c.is_within.ensures) ∙ not-false c.is_within.result c.if-not-is_within.false-raw) in
    let live = live_opened a.rig.now a.lengths.now a.codes.now a.users.now a.tasks c.requires o.ensures.parts o.ensures.size c.read_chosen-chosen.ensures passed c.bytes_fit.ensures in
    let given = letter_given a.rig.now c.wide16.ensures c.letter_at-letter.ensures in
    let position = earliest_is a.rig.now a.d c.earliest_in-p.ensures in
    let made = c.both_turns-q.ensures _ live given position in
    call_written a.rig.now a.d passed desk a.lengths.now a.codes.now a.users.now a.tasks c.requires
    c.both_turns-q.result.delivery
    c.both_turns-q.result.run
    made
    (ap (λ (x : Size). x.processors) o.ensures.size)
    (record {
      hintprocessors = c.bytes_fit-2.ensures;
      hintmoves = c.counts_fit.ensures;
      heldprocessors = c.bytes_fit-3.ensures;
      heldnumbers = c.bytes_fit-4.ensures;
      notes = c.bytes_fit-5.ensures;
      board = c.numbers_fit.ensures;
      chosen = c.bytes_fit-6.ensures;
    })
    c.write_lent.ensures
