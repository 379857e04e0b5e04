-- `call_desks`: after k calls, the steps that they made are written, and the rig then is on what is lent.
use mathlib.Core.Path.{◌≡◌, refl, sym, ap, ◌∙◌, subst}
use mathlib.Core.Logic.{by_cases}
use Prim.Native.Nat.{ℕ, suc, ◌+◌, ◌-◌, ◌≤◌, ◌<◌}
use native.Mathlib.Decide.{ℕ_discrete}
use native.Mathlib.Numerals.{add-one}
use native.Mathlib.Omega.{arith}
use lib.ListN.{get_or, set, drop}
use lib.Seq.{paste-zero}
use borrow.Author.Tests.{not-true, not-false, leb-true}
use Rattle.base.proofs.Tests.{tests_differ}
use Rattle.rules.specs.declared.message.Network.{Network}
use Rattle.rules.specs.Numbers.{processor_id}
use Rattle.rules.specs.Networks.{no_slot, messages, enqueued_all}
use Rattle.rules.specs.Dispatch.{earliest, delivery_turn, next_ready, choice}
use Rattle.rules.specs.Steps.{quiescent}
use Rattle.network.specs.Rounds.{rounds_of}
use Rattle.network.proofs.Shift.{shift_more}
use Rattle.network.proofs.Gaps.{holding}
use Rattle.network.proofs.Posted.{after, after_none, after_room, few_rounds, rounds_all}
use Rattle.board.specs.Lent.{lent}
use Rattle.steps.proofs.instruction.Refusals.{placed}
use Rattle.run.proofs.all_steps.Fits.{written_length}
use Rattle.run.proofs.all_steps.Mail.{round_posted, round_skipped}
use Rattle.dispatch.specs.Boards.{TurnMade}
use Rattle.dispatch.specs.Calls.{desk_after}
use Rattle.dispatch.proofs.Letters.{none_earliest, first_earliest}
use Rattle.dispatch.proofs.Boards.{rig_of_lem, rig_on, rest_of, letter_ok, few_letters, full_mail, few_tasks, few_choices, some_desks, few_desks, no_run, run_skipped, delivery_skipped, no_delivery, some_delivery, delivered_posts, on_delivery, turn_as, choice_of, on_chosen, on_run, run_room, some_run}
use Rattle.dispatch.proofs.Called.{desk_after_lem, going_start, going_next, ended_short, ended_rest, ended_all}
use Rattle.dispatch.proofs.choose.calls.call_desks.Goals as goal
use Rattle.dispatch.proofs.choose.calls.call_desks.Goals.{then-place-used+else-loop-j-test, else-place-used, then-loop-place-test+then-is_for, else-loop-place-test, then-not-skips, else-not-skips}

-- the desk that is called
desk_range : (n d r : ℕ) → r ≡ desk_after n d → 1 ≤ n → n ≤ 6 → (1 ≤ r) × (r ≤ 6)
desk_range n d r e some few = let h = desk_after_lem n d some in (omega (arith, e, h.0), omega (arith, e, h.1, few))

pub loop-k-init : goal.loop-k-init
loop-k-init c = (omega arith, λ r o. going_start 12006 o _ c.requires.1)

pub shape_of-out-then-progress-ne0 : goal.shape_of-out-then-progress-ne0
shape_of-out-then-progress-ne0 c = written_length (c.loop-k.invariant.1 c.requires.0.system c.requires.0.on).written

pub returns-then-progress-ne0 : goal.returns-then-progress-ne0
returns-then-progress-ne0 c r o = ended_short (c.loop-k.invariant.1 r o) c.if-progress-ne0.true

pub rests_on-requires : goal.rests_on-requires
rests_on-requires c =
    let a = c.args in
    let b = c.loop-k in
    let g = b.invariant.1 c.requires.0.system c.requires.0.on in
    (λ e. rest_of g.on ∙ g.woken e, few_desks g.on, placed (rig_of_lem g.on).parts)

pub shape_of-out-then-rests_on : goal.shape_of-out-then-rests_on
shape_of-out-then-rests_on c = written_length (c.loop-k.invariant.1 c.requires.0.system c.requires.0.on).written

pub returns-then-rests_on : goal.returns-then-rests_on
returns-then-rests_on c r o =
    let g = c.loop-k.invariant.1 r o in
    ended_rest g c.if-rests_on.true (c.rests_on.ensures ∙ rest_of g.on)

pub overflow_add-next : goal.overflow_add-next
overflow_add-next c = omega (arith, c.loop-k-test.true)

pub overflow_sub-at : goal.overflow_sub-at
overflow_sub-at c =
    let a = c.args in
    let b = c.loop-k in
    let g = b.invariant.1 c.requires.0.system c.requires.0.on in
    let range : (1 ≤ c.desk_after-d.result) × (c.desk_after-d.result ≤ 6) = desk_range a.size.processors b.d c.desk_after-d.result c.desk_after-d.ensures (some_desks g.on) (few_desks g.on) in
    omega (arith, range)

pub loop-place-init : goal.loop-place-init
loop-place-init c = (omega arith, λ i h. absurd (omega (arith, h)))

pub offset_bounds-network-place : goal.offset_bounds-network-place
offset_bounds-network-place c =
    let a = c.args in
    let b = c.loop-k in
    let g = b.invariant.1 c.requires.0.system c.requires.0.on in
    let letters = few_letters g.on in
    omega (arith, c.loop-place-test.true, letters, full_mail g.on)

pub bounds-network-place : goal.bounds-network-place
bounds-network-place c =
    let a = c.args in
    let b = c.loop-k in
    let g = b.invariant.1 c.requires.0.system c.requires.0.on in
    let letters = few_letters g.on in
    omega (arith, c.loop-place-test.true, letters, full_mail g.on)

pub overflow_add-place : goal.overflow_add-place
overflow_add-place c =
    let a = c.args in
    let b = c.loop-k in
    let g = b.invariant.1 c.requires.0.system c.requires.0.on in
    let letters = few_letters g.on in
    omega (arith, c.loop-place-test.true, letters, full_mail g.on)

pub loop-place-preserved : goal.loop-place-preserved
loop-place-preserved c =
    let s = c.loop-place in (
      omega (arith, c.loop-place-test.true),
      λ x h.
          by_cases (ℕ_discrete x s.place)
          (λ (e : x ≡ s.place). rw e (sym c.is_for.ensures ∙ c.if-is_for.false))
          (λ ne. s.invariant.1 x (omega arith)),
    )

pub offset_bounds-network-place-then-place-used : goal.offset_bounds-network-place-then-place-used
offset_bounds-network-place-then-place-used c =
    let a = c.args in
    let b = c.loop-k in
    let g = b.invariant.1 c.requires.0.system c.requires.0.on in
    let letters = few_letters g.on in
    omega (arith, c.if-place-used.true, letters, full_mail g.on)

pub bounds-network-place-then-place-used : goal.bounds-network-place-then-place-used
bounds-network-place-then-place-used c =
    let a = c.args in
    let b = c.loop-k in
    let g = b.invariant.1 c.requires.0.system c.requires.0.on in
    let letters = few_letters g.on in
    omega (arith, c.if-place-used.true, letters, full_mail g.on)

pub overflow_add-position : goal.overflow_add-position
overflow_add-position c =
    let a = c.args in
    let b = c.loop-k in
    let g = b.invariant.1 c.requires.0.system c.requires.0.on in
    let letters = few_letters g.on in
    omega (arith, c.if-place-used.true, letters, full_mail g.on)

pub overflow_cast-position : goal.overflow_cast-position
overflow_cast-position c =
    let a = c.args in
    let b = c.loop-k in
    let g = b.invariant.1 c.requires.0.system c.requires.0.on in
    let letters = few_letters g.on in
    omega (arith, c.if-place-used.true, letters, full_mail g.on)

pub overflow_sub-end : goal.overflow_sub-end
overflow_sub-end c =
    let a = c.args in
    let b = c.loop-k in
    let g = b.invariant.1 c.requires.0.system c.requires.0.on in
    let letters = few_letters g.on in
    omega (arith, c.if-place-used.true, letters, full_mail g.on)

pub put_step-requires : goal.put_step-requires
put_step-requires c =
    let a = c.args in
    let b = c.loop-k in
    let g = b.invariant.1 c.requires.0.system c.requires.0.on in
    (g.two, g.room)

pub deliver-r-requires : goal.deliver-r-requires
deliver-r-requires c =
    let a = c.args in
    let b = c.loop-k in
    let g = b.invariant.1 c.requires.0.system c.requires.0.on in
    record { numbers = a.numbers.now; size = record { tasks = a.size.tasks; processors = a.size.processors; used = b.network.used }; rig = rig_on g.on; ok = letter_ok g.on c.loop-place.place c.if-place-used.true }

pub loop-j-init : goal.loop-j-init
loop-j-init c =
    let a = c.args in
    let b = c.loop-k in
    let g = b.invariant.1 c.requires.0.system c.requires.0.on in
    let letters = few_letters g.on in
    let k = b.network in
    let place = c.loop-place.place in
    (omega (arith, c.if-place-used.true, letters), ap (holding k.used) (paste-zero k.slots place (drop (place + 1) k.slots)))

pub overflow_add-place-in-loop-j : goal.overflow_add-place-in-loop-j
overflow_add-place-in-loop-j c =
    let a = c.args in
    let b = c.loop-k in
    let g = b.invariant.1 c.requires.0.system c.requires.0.on in
    let letters = few_letters g.on in
    omega (arith, c.if-place-used.true, letters, c.loop-j.invariant.0)

pub overflow_add-moved : goal.overflow_add-moved
overflow_add-moved c =
    let a = c.args in
    let b = c.loop-k in
    let g = b.invariant.1 c.requires.0.system c.requires.0.on in
    let letters = few_letters g.on in
    omega (arith, c.loop-j-test.true, c.if-place-used.true, letters)

pub overflow_add-moved-in-loop-j : goal.overflow_add-moved-in-loop-j
overflow_add-moved-in-loop-j c =
    let a = c.args in
    let b = c.loop-k in
    let g = b.invariant.1 c.requires.0.system c.requires.0.on in
    let letters = few_letters g.on in
    omega (arith, c.loop-j-test.true, c.if-place-used.true, letters)

pub offset_bounds-network-place-in-loop-j : goal.offset_bounds-network-place-in-loop-j
offset_bounds-network-place-in-loop-j c =
    let a = c.args in
    let b = c.loop-k in
    let g = b.invariant.1 c.requires.0.system c.requires.0.on in
    let letters = few_letters g.on in
    omega (arith, c.loop-j-test.true, c.if-place-used.true, letters)

pub bounds-network-place-in-loop-j : goal.bounds-network-place-in-loop-j
bounds-network-place-in-loop-j c =
    let a = c.args in
    let b = c.loop-k in
    let g = b.invariant.1 c.requires.0.system c.requires.0.on in
    let letters = few_letters g.on in
    omega (arith, c.loop-j-test.true, c.if-place-used.true, letters)

pub overflow_add-moved-in-loop-j-2 : goal.overflow_add-moved-in-loop-j-2
overflow_add-moved-in-loop-j-2 c =
    let a = c.args in
    let b = c.loop-k in
    let g = b.invariant.1 c.requires.0.system c.requires.0.on in
    let letters = few_letters g.on in
    omega (arith, c.loop-j-test.true, c.if-place-used.true, letters)

pub offset_bounds-network-place-in-loop-j-2 : goal.offset_bounds-network-place-in-loop-j-2
offset_bounds-network-place-in-loop-j-2 c =
    let a = c.args in
    let b = c.loop-k in
    let g = b.invariant.1 c.requires.0.system c.requires.0.on in
    let letters = few_letters g.on in
    omega (arith, c.loop-j-test.true, c.if-place-used.true, letters)

pub bounds-network-place-in-loop-j-2 : goal.bounds-network-place-in-loop-j-2
bounds-network-place-in-loop-j-2 c =
    let a = c.args in
    let b = c.loop-k in
    let g = b.invariant.1 c.requires.0.system c.requires.0.on in
    let letters = few_letters g.on in
    omega (arith, c.loop-j-test.true, c.if-place-used.true, letters)

pub overflow_add-j : goal.overflow_add-j
overflow_add-j c =
    let a = c.args in
    let b = c.loop-k in
    let g = b.invariant.1 c.requires.0.system c.requires.0.on in
    let letters = few_letters g.on in
    omega (arith, c.loop-j-test.true, c.if-place-used.true, letters)

pub loop-j-preserved : goal.loop-j-preserved
loop-j-preserved c =
    let a = c.args in
    let b = c.loop-k in
    let g = b.invariant.1 c.requires.0.system c.requires.0.on in
    let letters = few_letters g.on in
    let k = b.network in
    let place = c.loop-place.place in
    let j = c.loop-j.j in
    let more = shift_more k.slots place no_slot j (omega (arith, c.loop-j-test.true, c.if-place-used.true, letters, full_mail g.on)) in
    (omega (arith, c.loop-j-test.true), ap (λ (z : Network). holding z.used (set z.slots (place + j) (get_or z.slots (place + j + 1) no_slot))) c.loop-j.invariant.1 ∙ ap (holding k.used) more)

pub offset_bounds-network-end : goal.offset_bounds-network-end
offset_bounds-network-end c =
    let a = c.args in
    let b = c.loop-k in
    let g = b.invariant.1 c.requires.0.system c.requires.0.on in
    let letters = few_letters g.on in
    omega (arith, c.if-place-used.true, letters)

pub bounds-network-end : goal.bounds-network-end
bounds-network-end c =
    let a = c.args in
    let b = c.loop-k in
    let g = b.invariant.1 c.requires.0.system c.requires.0.on in
    let letters = few_letters g.on in
    omega (arith, c.if-place-used.true, letters)

pub overflow_add-network : goal.overflow_add-network
overflow_add-network c =
    let a = c.args in
    let b = c.loop-k in
    let g = b.invariant.1 c.requires.0.system c.requires.0.on in
    let letters = few_letters g.on in
    omega (arith, c.rounds.ensures, few_rounds 1 c.deliver-r.result.posting (omega arith), c.if-place-used.true, letters)

pub bounds-last-at : goal.bounds-last-at
bounds-last-at c =
    let a = c.args in
    let b = c.loop-k in
    let g = b.invariant.1 c.requires.0.system c.requires.0.on in
    let range : (1 ≤ c.desk_after-d.result) × (c.desk_after-d.result ≤ 6) = desk_range a.size.processors b.d c.desk_after-d.result c.desk_after-d.ensures (some_desks g.on) (few_desks g.on) in
    omega (arith, range)

pub bounds-last-at-then-t-ne0 : goal.bounds-last-at-then-t-ne0
bounds-last-at-then-t-ne0 c =
    let a = c.args in
    let b = c.loop-k in
    let g = b.invariant.1 c.requires.0.system c.requires.0.on in
    let range : (1 ≤ c.desk_after-d.result) × (c.desk_after-d.result ≤ 6) = desk_range a.size.processors b.d c.desk_after-d.result c.desk_after-d.ensures (some_desks g.on) (few_desks g.on) in
    omega (arith, range)

pub ready_at-requires : goal.ready_at-requires
ready_at-requires c =
    let a = c.args in
    let b = c.loop-k in
    let g = b.invariant.1 c.requires.0.system c.requires.0.on in
    let range : (1 ≤ c.desk_after-d.result) × (c.desk_after-d.result ≤ 6) = desk_range a.size.processors b.d c.desk_after-d.result c.desk_after-d.ensures (some_desks g.on) (few_desks g.on) in
    range

pub next_ready-t-requires : goal.next_ready-t-requires
next_ready-t-requires c =
    let a = c.args in
    let b = c.loop-k in
    let g = b.invariant.1 c.requires.0.system c.requires.0.on in
    let d = processor_id c.desk_after-d.result in
    let none : b.network.used ≤ c.loop-place.place → earliest d (messages b.network) ≡ 0 =
    λ all. none_earliest d b.network (full_mail g.on) (few_letters g.on) (λ i h. c.loop-place.invariant.1 i (omega (arith, h, all))) in
    let m : TurnMade a.codes.now a.numbers.now a.users.now a.size (delivery_turn g.system d) c.if-place-used.network
    (lent c.if-place-used.hintprocessors c.if-place-used.hintmoves c.if-place-used.heldprocessors c.if-place-used.heldnumbers c.if-place-used.notes c.if-place-used.board) b.last
    b.progress b.out c.if-place-used.progress c.if-place-used.out =
    elim c.if-place-used.branch [
      | then-place-used+else-loop-j-test w ↦
          let place = c.loop-place.place in
          let first : place + 1 ≡ earliest d (messages b.network) =
          elim c.loop-place-test.branch [
            | else-loop-place-test v ↦ absurd (omega (arith, v.loop-place-test.false, w.if-place-used.true))
            | then-loop-place-test+then-is_for v ↦
                add-one place
                ∙ sym (first_earliest d b.network (full_mail g.on) (few_letters g.on) place w.if-place-used.true c.loop-place.invariant.1 (sym v.is_for.ensures ∙ v.if-is_for.true))
          ] in
          let act = w.deliver-r.ensures a.size.tasks a.numbers.now in
          let posts = delivered_posts g.on place w.if-place-used.true act.act w.loop-j.j (omega (arith, w.loop-j.invariant.0, w.loop-j-test.false)) w.loop-j.invariant.1 w.message-l.ensures w.rounds.ensures in
          turn_as w.hintprocessors-is w.hintmoves-is w.heldprocessors-is w.heldnumbers-is w.notes-is w.board-is w.out-is w.progress-is w.network-is
          (some_delivery g.on b.progress b.out d first (λ z. omega (arith, z)) (on_delivery g.on place w.if-place-used.true act posts) w.put_step.ensures)
      | else-place-used w ↦
          turn_as w.hintprocessors-is w.hintmoves-is w.heldprocessors-is w.heldnumbers-is w.notes-is w.board-is w.out-is w.progress-is w.network-is
          (no_delivery g.on b.progress b.out d (none w.if-place-used.false))
    ] in
    (few_tasks m.on, few_choices m.on d)

pub put_step-requires-then-t-ne0 : goal.put_step-requires-then-t-ne0
put_step-requires-then-t-ne0 c =
    let a = c.args in
    let b = c.loop-k in
    let g = b.invariant.1 c.requires.0.system c.requires.0.on in
    let d = processor_id c.desk_after-d.result in
    let none : b.network.used ≤ c.loop-place.place → earliest d (messages b.network) ≡ 0 =
    λ all. none_earliest d b.network (full_mail g.on) (few_letters g.on) (λ i h. c.loop-place.invariant.1 i (omega (arith, h, all))) in
    let m : TurnMade a.codes.now a.numbers.now a.users.now a.size (delivery_turn g.system d) c.if-place-used.network
    (lent c.if-place-used.hintprocessors c.if-place-used.hintmoves c.if-place-used.heldprocessors c.if-place-used.heldnumbers c.if-place-used.notes c.if-place-used.board) b.last
    b.progress b.out c.if-place-used.progress c.if-place-used.out =
    elim c.if-place-used.branch [
      | then-place-used+else-loop-j-test w ↦
          let place = c.loop-place.place in
          let first : place + 1 ≡ earliest d (messages b.network) =
          elim c.loop-place-test.branch [
            | else-loop-place-test v ↦ absurd (omega (arith, v.loop-place-test.false, w.if-place-used.true))
            | then-loop-place-test+then-is_for v ↦
                add-one place
                ∙ sym (first_earliest d b.network (full_mail g.on) (few_letters g.on) place w.if-place-used.true c.loop-place.invariant.1 (sym v.is_for.ensures ∙ v.if-is_for.true))
          ] in
          let act = w.deliver-r.ensures a.size.tasks a.numbers.now in
          let posts = delivered_posts g.on place w.if-place-used.true act.act w.loop-j.j (omega (arith, w.loop-j.invariant.0, w.loop-j-test.false)) w.loop-j.invariant.1 w.message-l.ensures w.rounds.ensures in
          turn_as w.hintprocessors-is w.hintmoves-is w.heldprocessors-is w.heldnumbers-is w.notes-is w.board-is w.out-is w.progress-is w.network-is
          (some_delivery g.on b.progress b.out d first (λ z. omega (arith, z)) (on_delivery g.on place w.if-place-used.true act posts) w.put_step.ensures)
      | else-place-used w ↦
          turn_as w.hintprocessors-is w.hintmoves-is w.heldprocessors-is w.heldnumbers-is w.notes-is w.board-is w.out-is w.progress-is w.network-is
          (no_delivery g.on b.progress b.out d (none w.if-place-used.false))
    ] in
    (m.lines.long ∙ g.two, m.lines.room g.room)

pub carry_out-r-requires : goal.carry_out-r-requires
carry_out-r-requires c =
    let a = c.args in
    let b = c.loop-k in
    let g = b.invariant.1 c.requires.0.system c.requires.0.on in
    let d = processor_id c.desk_after-d.result in
    let none : b.network.used ≤ c.loop-place.place → earliest d (messages b.network) ≡ 0 =
    λ all. none_earliest d b.network (full_mail g.on) (few_letters g.on) (λ i h. c.loop-place.invariant.1 i (omega (arith, h, all))) in
    let m : TurnMade a.codes.now a.numbers.now a.users.now a.size (delivery_turn g.system d) c.if-place-used.network
    (lent c.if-place-used.hintprocessors c.if-place-used.hintmoves c.if-place-used.heldprocessors c.if-place-used.heldnumbers c.if-place-used.notes c.if-place-used.board) b.last
    b.progress b.out c.if-place-used.progress c.if-place-used.out =
    elim c.if-place-used.branch [
      | then-place-used+else-loop-j-test w ↦
          let place = c.loop-place.place in
          let first : place + 1 ≡ earliest d (messages b.network) =
          elim c.loop-place-test.branch [
            | else-loop-place-test v ↦ absurd (omega (arith, v.loop-place-test.false, w.if-place-used.true))
            | then-loop-place-test+then-is_for v ↦
                add-one place
                ∙ sym (first_earliest d b.network (full_mail g.on) (few_letters g.on) place w.if-place-used.true c.loop-place.invariant.1 (sym v.is_for.ensures ∙ v.if-is_for.true))
          ] in
          let act = w.deliver-r.ensures a.size.tasks a.numbers.now in
          let posts = delivered_posts g.on place w.if-place-used.true act.act w.loop-j.j (omega (arith, w.loop-j.invariant.0, w.loop-j-test.false)) w.loop-j.invariant.1 w.message-l.ensures w.rounds.ensures in
          turn_as w.hintprocessors-is w.hintmoves-is w.heldprocessors-is w.heldnumbers-is w.notes-is w.board-is w.out-is w.progress-is w.network-is
          (some_delivery g.on b.progress b.out d first (λ z. omega (arith, z)) (on_delivery g.on place w.if-place-used.true act posts) w.put_step.ensures)
      | else-place-used w ↦
          turn_as w.hintprocessors-is w.hintmoves-is w.heldprocessors-is w.heldnumbers-is w.notes-is w.board-is w.out-is w.progress-is w.network-is
          (no_delivery g.on b.progress b.out d (none w.if-place-used.false))
    ] in
    rig_on m.on

pub loop-e-init : goal.loop-e-init
loop-e-init c = (omega arith, sym (after_none c.carry_out-r.result.posting c.if-place-used.network))

pub skips-requires : goal.skips-requires
skips-requires c =
    let a = c.args in
    let b = c.loop-k in
    let g = b.invariant.1 c.requires.0.system c.requires.0.on in
    let few : c.rounds-rounds.result ≤ 6 = omega (arith, c.rounds-rounds.ensures, few_rounds _ c.carry_out-r.result.posting (few_desks g.on)) in
    omega (arith, few, c.loop-e-test.true)

pub message-l-requires-then-not-skips : goal.message-l-requires-then-not-skips
message-l-requires-then-not-skips c =
    let a = c.args in
    let b = c.loop-k in
    let g = b.invariant.1 c.requires.0.system c.requires.0.on in
    let few : c.rounds-rounds.result ≤ 6 = omega (arith, c.rounds-rounds.ensures, few_rounds _ c.carry_out-r.result.posting (few_desks g.on)) in
    omega (arith, few, c.loop-e-test.true)

pub offset_bounds-network-free : goal.offset_bounds-network-free
offset_bounds-network-free c =
    let a = c.args in
    let b = c.loop-k in
    let g = b.invariant.1 c.requires.0.system c.requires.0.on in
    let d = processor_id c.desk_after-d.result in
    let none : b.network.used ≤ c.loop-place.place → earliest d (messages b.network) ≡ 0 =
    λ all. none_earliest d b.network (full_mail g.on) (few_letters g.on) (λ i h. c.loop-place.invariant.1 i (omega (arith, h, all))) in
    let m : TurnMade a.codes.now a.numbers.now a.users.now a.size (delivery_turn g.system d) c.if-place-used.network
    (lent c.if-place-used.hintprocessors c.if-place-used.hintmoves c.if-place-used.heldprocessors c.if-place-used.heldnumbers c.if-place-used.notes c.if-place-used.board) b.last
    b.progress b.out c.if-place-used.progress c.if-place-used.out =
    elim c.if-place-used.branch [
      | then-place-used+else-loop-j-test w ↦
          let place = c.loop-place.place in
          let first : place + 1 ≡ earliest d (messages b.network) =
          elim c.loop-place-test.branch [
            | else-loop-place-test v ↦ absurd (omega (arith, v.loop-place-test.false, w.if-place-used.true))
            | then-loop-place-test+then-is_for v ↦
                add-one place
                ∙ sym (first_earliest d b.network (full_mail g.on) (few_letters g.on) place w.if-place-used.true c.loop-place.invariant.1 (sym v.is_for.ensures ∙ v.if-is_for.true))
          ] in
          let act = w.deliver-r.ensures a.size.tasks a.numbers.now in
          let posts = delivered_posts g.on place w.if-place-used.true act.act w.loop-j.j (omega (arith, w.loop-j.invariant.0, w.loop-j-test.false)) w.loop-j.invariant.1 w.message-l.ensures w.rounds.ensures in
          turn_as w.hintprocessors-is w.hintmoves-is w.heldprocessors-is w.heldnumbers-is w.notes-is w.board-is w.out-is w.progress-is w.network-is
          (some_delivery g.on b.progress b.out d first (λ z. omega (arith, z)) (on_delivery g.on place w.if-place-used.true act posts) w.put_step.ensures)
      | else-place-used w ↦
          turn_as w.hintprocessors-is w.hintmoves-is w.heldprocessors-is w.heldnumbers-is w.notes-is w.board-is w.out-is w.progress-is w.network-is
          (no_delivery g.on b.progress b.out d (none w.if-place-used.false))
    ] in
    let room = run_room m.on c.next_ready-t.result c.carry_out-r.ensures.act in
    let free : c.loop-e.network.used < 256 =
    subst (λ (k : Network). k.used < 256) (sym c.loop-e.invariant.1)
    (after_room c.carry_out-r.result.posting c.if-place-used.network a.size.processors c.loop-e.e
    (subst (λ n. c.loop-e.e < n) c.rounds-rounds.ensures c.loop-e-test.true)
    (sym c.skips.ensures ∙ c.if-not-skips.true)
    room) in
    omega (arith, free)

pub overflow_add-network-then-not-skips : goal.overflow_add-network-then-not-skips
overflow_add-network-then-not-skips c =
    let a = c.args in
    let b = c.loop-k in
    let g = b.invariant.1 c.requires.0.system c.requires.0.on in
    let d = processor_id c.desk_after-d.result in
    let none : b.network.used ≤ c.loop-place.place → earliest d (messages b.network) ≡ 0 =
    λ all. none_earliest d b.network (full_mail g.on) (few_letters g.on) (λ i h. c.loop-place.invariant.1 i (omega (arith, h, all))) in
    let m : TurnMade a.codes.now a.numbers.now a.users.now a.size (delivery_turn g.system d) c.if-place-used.network
    (lent c.if-place-used.hintprocessors c.if-place-used.hintmoves c.if-place-used.heldprocessors c.if-place-used.heldnumbers c.if-place-used.notes c.if-place-used.board) b.last
    b.progress b.out c.if-place-used.progress c.if-place-used.out =
    elim c.if-place-used.branch [
      | then-place-used+else-loop-j-test w ↦
          let place = c.loop-place.place in
          let first : place + 1 ≡ earliest d (messages b.network) =
          elim c.loop-place-test.branch [
            | else-loop-place-test v ↦ absurd (omega (arith, v.loop-place-test.false, w.if-place-used.true))
            | then-loop-place-test+then-is_for v ↦
                add-one place
                ∙ sym (first_earliest d b.network (full_mail g.on) (few_letters g.on) place w.if-place-used.true c.loop-place.invariant.1 (sym v.is_for.ensures ∙ v.if-is_for.true))
          ] in
          let act = w.deliver-r.ensures a.size.tasks a.numbers.now in
          let posts = delivered_posts g.on place w.if-place-used.true act.act w.loop-j.j (omega (arith, w.loop-j.invariant.0, w.loop-j-test.false)) w.loop-j.invariant.1 w.message-l.ensures w.rounds.ensures in
          turn_as w.hintprocessors-is w.hintmoves-is w.heldprocessors-is w.heldnumbers-is w.notes-is w.board-is w.out-is w.progress-is w.network-is
          (some_delivery g.on b.progress b.out d first (λ z. omega (arith, z)) (on_delivery g.on place w.if-place-used.true act posts) w.put_step.ensures)
      | else-place-used w ↦
          turn_as w.hintprocessors-is w.hintmoves-is w.heldprocessors-is w.heldnumbers-is w.notes-is w.board-is w.out-is w.progress-is w.network-is
          (no_delivery g.on b.progress b.out d (none w.if-place-used.false))
    ] in
    let room = run_room m.on c.next_ready-t.result c.carry_out-r.ensures.act in
    let free : c.loop-e.network.used < 256 =
    subst (λ (k : Network). k.used < 256) (sym c.loop-e.invariant.1)
    (after_room c.carry_out-r.result.posting c.if-place-used.network a.size.processors c.loop-e.e
    (subst (λ n. c.loop-e.e < n) c.rounds-rounds.ensures c.loop-e-test.true)
    (sym c.skips.ensures ∙ c.if-not-skips.true)
    room) in
    omega (arith, free)

pub bounds-network-free : goal.bounds-network-free
bounds-network-free c =
    let a = c.args in
    let b = c.loop-k in
    let g = b.invariant.1 c.requires.0.system c.requires.0.on in
    let d = processor_id c.desk_after-d.result in
    let none : b.network.used ≤ c.loop-place.place → earliest d (messages b.network) ≡ 0 =
    λ all. none_earliest d b.network (full_mail g.on) (few_letters g.on) (λ i h. c.loop-place.invariant.1 i (omega (arith, h, all))) in
    let m : TurnMade a.codes.now a.numbers.now a.users.now a.size (delivery_turn g.system d) c.if-place-used.network
    (lent c.if-place-used.hintprocessors c.if-place-used.hintmoves c.if-place-used.heldprocessors c.if-place-used.heldnumbers c.if-place-used.notes c.if-place-used.board) b.last
    b.progress b.out c.if-place-used.progress c.if-place-used.out =
    elim c.if-place-used.branch [
      | then-place-used+else-loop-j-test w ↦
          let place = c.loop-place.place in
          let first : place + 1 ≡ earliest d (messages b.network) =
          elim c.loop-place-test.branch [
            | else-loop-place-test v ↦ absurd (omega (arith, v.loop-place-test.false, w.if-place-used.true))
            | then-loop-place-test+then-is_for v ↦
                add-one place
                ∙ sym (first_earliest d b.network (full_mail g.on) (few_letters g.on) place w.if-place-used.true c.loop-place.invariant.1 (sym v.is_for.ensures ∙ v.if-is_for.true))
          ] in
          let act = w.deliver-r.ensures a.size.tasks a.numbers.now in
          let posts = delivered_posts g.on place w.if-place-used.true act.act w.loop-j.j (omega (arith, w.loop-j.invariant.0, w.loop-j-test.false)) w.loop-j.invariant.1 w.message-l.ensures w.rounds.ensures in
          turn_as w.hintprocessors-is w.hintmoves-is w.heldprocessors-is w.heldnumbers-is w.notes-is w.board-is w.out-is w.progress-is w.network-is
          (some_delivery g.on b.progress b.out d first (λ z. omega (arith, z)) (on_delivery g.on place w.if-place-used.true act posts) w.put_step.ensures)
      | else-place-used w ↦
          turn_as w.hintprocessors-is w.hintmoves-is w.heldprocessors-is w.heldnumbers-is w.notes-is w.board-is w.out-is w.progress-is w.network-is
          (no_delivery g.on b.progress b.out d (none w.if-place-used.false))
    ] in
    let room = run_room m.on c.next_ready-t.result c.carry_out-r.ensures.act in
    let free : c.loop-e.network.used < 256 =
    subst (λ (k : Network). k.used < 256) (sym c.loop-e.invariant.1)
    (after_room c.carry_out-r.result.posting c.if-place-used.network a.size.processors c.loop-e.e
    (subst (λ n. c.loop-e.e < n) c.rounds-rounds.ensures c.loop-e-test.true)
    (sym c.skips.ensures ∙ c.if-not-skips.true)
    room) in
    free

pub overflow_add-e : goal.overflow_add-e
overflow_add-e c =
    let a = c.args in
    let b = c.loop-k in
    let g = b.invariant.1 c.requires.0.system c.requires.0.on in
    let few : c.rounds-rounds.result ≤ 6 = omega (arith, c.rounds-rounds.ensures, few_rounds _ c.carry_out-r.result.posting (few_desks g.on)) in
    omega (arith, few, c.loop-e-test.true)

pub loop-e-preserved : goal.loop-e-preserved
loop-e-preserved c =
    let x = c.carry_out-r.result.posting in
    let k = c.if-place-used.network in
    let e = c.loop-e.e in
    let so_far = c.loop-e.invariant.1 in
    let next : c.if-not-skips.network ≡ after x k (e + 1) =
    elim c.if-not-skips.branch [
      | then-not-skips w ↦ w.network-is ∙ round_posted x k e so_far (sym c.skips.ensures ∙ not-true c.skips.result w.if-not-skips.true-raw) w.message-l-then-not-skips.ensures
      | else-not-skips w ↦ w.network-is ∙ round_skipped x k e so_far (sym c.skips.ensures ∙ not-false c.skips.result w.if-not-skips.false-raw)
    ] in
    (omega (arith, c.loop-e-test.true), next)

pub loop-k-preserved-after-loop-e : goal.loop-k-preserved-after-loop-e
loop-k-preserved-after-loop-e c =
    let a = c.args in
    let b = c.loop-k in (
      omega (arith, c.loop-k-test.true),
      λ r o.
          let g = b.invariant.1 r o in
          let d = processor_id c.desk_after-d.result in
          let none : b.network.used ≤ c.loop-place.place → earliest d (messages b.network) ≡ 0 =
          λ all. none_earliest d b.network (full_mail g.on) (few_letters g.on) (λ i h. c.loop-place.invariant.1 i (omega (arith, h, all))) in
          let m : TurnMade a.codes.now a.numbers.now a.users.now a.size (delivery_turn g.system d) c.if-place-used.network
          (lent c.if-place-used.hintprocessors c.if-place-used.hintmoves c.if-place-used.heldprocessors c.if-place-used.heldnumbers c.if-place-used.notes c.if-place-used.board) b.last
          b.progress b.out c.if-place-used.progress c.if-place-used.out =
          elim c.if-place-used.branch [
            | then-place-used+else-loop-j-test w ↦
                let place = c.loop-place.place in
                let first : place + 1 ≡ earliest d (messages b.network) =
                elim c.loop-place-test.branch [
                  | else-loop-place-test v ↦ absurd (omega (arith, v.loop-place-test.false, w.if-place-used.true))
                  | then-loop-place-test+then-is_for v ↦
                      add-one place
                      ∙ sym (first_earliest d b.network (full_mail g.on) (few_letters g.on) place w.if-place-used.true c.loop-place.invariant.1 (sym v.is_for.ensures ∙ v.if-is_for.true))
                ] in
                let act = w.deliver-r.ensures a.size.tasks a.numbers.now in
                let posts = delivered_posts g.on place w.if-place-used.true act.act w.loop-j.j (omega (arith, w.loop-j.invariant.0, w.loop-j-test.false)) w.loop-j.invariant.1 w.message-l.ensures w.rounds.ensures in
                turn_as w.hintprocessors-is w.hintmoves-is w.heldprocessors-is w.heldnumbers-is w.notes-is w.board-is w.out-is w.progress-is w.network-is
                (some_delivery g.on b.progress b.out d first (λ z. omega (arith, z)) (on_delivery g.on place w.if-place-used.true act posts) w.put_step.ensures)
            | else-place-used w ↦
                turn_as w.hintprocessors-is w.hintmoves-is w.heldprocessors-is w.heldnumbers-is w.notes-is w.board-is w.out-is w.progress-is w.network-is
                (no_delivery g.on b.progress b.out d (none w.if-place-used.false))
          ] in
          let e : c.next_ready-t.result ≡ choice (delivery_turn g.system d).system d =
          c.next_ready-t.ensures
          ∙ ap (next_ready a.size.tasks (get_or b.last (c.desk_after-d.result - 1) 0)) c.ready_at.ensures
          ∙ choice_of m.on d in
          let count : 12006 - b.k ≡ suc (12006 - (b.k + 1)) = omega (arith, c.loop-k-test.true) in
          let unrest = sym (c.rests_on.ensures ∙ rest_of g.on) ∙ c.if-rests_on.false in
          let all : c.loop-e.e ≡ rounds_of a.size.processors c.carry_out-r.result.posting = omega (arith, c.loop-e.invariant.0, c.loop-e-test.false, c.rounds-rounds.ensures) in
          let posted = c.loop-e.invariant.1 ∙ ap (after c.carry_out-r.result.posting c.if-place-used.network) all ∙ ap (enqueued_all c.if-place-used.network) (rounds_all a.size.processors c.carry_out-r.result.posting) in
          let ran =
          some_run m.on c.if-place-used.progress c.if-place-used.out d e c.if-t-ne0.true
          (on_run (on_chosen m.on d e refl) c.next_ready-t.result c.carry_out-r.ensures posted)
          c.put_step-then-t-ne0.ensures in
          going_next g count (some_desks g.on) unrest c.desk_after-d.ensures m ran (λ z. absurd (tests_differ z refl)),
    )

pub loop-k-preserved : goal.loop-k-preserved
loop-k-preserved c =
    let a = c.args in
    let b = c.loop-k in (
      omega (arith, c.loop-k-test.true),
      λ r o.
          let g = b.invariant.1 r o in
          let d = processor_id c.desk_after-d.result in
          let none : b.network.used ≤ c.loop-place.place → earliest d (messages b.network) ≡ 0 =
          λ all. none_earliest d b.network (full_mail g.on) (few_letters g.on) (λ i h. c.loop-place.invariant.1 i (omega (arith, h, all))) in
          let m : TurnMade a.codes.now a.numbers.now a.users.now a.size (delivery_turn g.system d) c.if-place-used.network
          (lent c.if-place-used.hintprocessors c.if-place-used.hintmoves c.if-place-used.heldprocessors c.if-place-used.heldnumbers c.if-place-used.notes c.if-place-used.board) b.last
          b.progress b.out c.if-place-used.progress c.if-place-used.out =
          elim c.if-place-used.branch [
            | then-place-used+else-loop-j-test w ↦
                let place = c.loop-place.place in
                let first : place + 1 ≡ earliest d (messages b.network) =
                elim c.loop-place-test.branch [
                  | else-loop-place-test v ↦ absurd (omega (arith, v.loop-place-test.false, w.if-place-used.true))
                  | then-loop-place-test+then-is_for v ↦
                      add-one place
                      ∙ sym (first_earliest d b.network (full_mail g.on) (few_letters g.on) place w.if-place-used.true c.loop-place.invariant.1 (sym v.is_for.ensures ∙ v.if-is_for.true))
                ] in
                let act = w.deliver-r.ensures a.size.tasks a.numbers.now in
                let posts = delivered_posts g.on place w.if-place-used.true act.act w.loop-j.j (omega (arith, w.loop-j.invariant.0, w.loop-j-test.false)) w.loop-j.invariant.1 w.message-l.ensures w.rounds.ensures in
                turn_as w.hintprocessors-is w.hintmoves-is w.heldprocessors-is w.heldnumbers-is w.notes-is w.board-is w.out-is w.progress-is w.network-is
                (some_delivery g.on b.progress b.out d first (λ z. omega (arith, z)) (on_delivery g.on place w.if-place-used.true act posts) w.put_step.ensures)
            | else-place-used w ↦
                turn_as w.hintprocessors-is w.hintmoves-is w.heldprocessors-is w.heldnumbers-is w.notes-is w.board-is w.out-is w.progress-is w.network-is
                (no_delivery g.on b.progress b.out d (none w.if-place-used.false))
          ] in
          let e : c.next_ready-t.result ≡ choice (delivery_turn g.system d).system d =
          c.next_ready-t.ensures
          ∙ ap (next_ready a.size.tasks (get_or b.last (c.desk_after-d.result - 1) 0)) c.ready_at.ensures
          ∙ choice_of m.on d in
          let count : 12006 - b.k ≡ suc (12006 - (b.k + 1)) = omega (arith, c.loop-k-test.true) in
          let unrest = sym (c.rests_on.ensures ∙ rest_of g.on) ∙ c.if-rests_on.false in
          let no = sym e ∙ c.if-t-ne0.false in
          going_next g count (some_desks g.on) unrest c.desk_after-d.ensures m
          (no_run m.on c.if-place-used.progress c.if-place-used.out d no)
          (λ z. ap quiescent (run_skipped _ d no ∙ delivery_skipped g.on b.progress b.out d (none (leb-true b.network.used c.loop-place.place z))) ∙ unrest),
    )

pub rests_on-requires-2 : goal.rests_on-requires-2
rests_on-requires-2 c =
    let a = c.args in
    let b = c.loop-k in
    let g = b.invariant.1 c.requires.0.system c.requires.0.on in
    (λ e. rest_of g.on ∙ g.woken e, few_desks g.on, placed (rig_of_lem g.on).parts)

pub shape_of-out : goal.shape_of-out
shape_of-out c = written_length (c.loop-k.invariant.1 c.requires.0.system c.requires.0.on).written

pub returns : goal.returns
returns c r o =
    let l = c.loop-k in
    let g = l.invariant.1 r o in
    let none : 12006 - l.k ≡ 0 = omega (arith, c.loop-k-test.false, l.invariant.0) in
    ended_all g none (c.rests_on-2.ensures ∙ rest_of g.on)
