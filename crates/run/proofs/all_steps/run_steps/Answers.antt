-- `run_steps`: after k steps the parts are those that k turns leave, and their lines are written.
use mathlib.Core.Path.{◌≡◌, refl, sym, ap, ◌∙◌, subst}
use mathlib.Core.Bool.{true}
use mathlib.Core.List.{List}
use Prim.Native.Nat.{ℕ, ◌+◌, ◌-◌, ◌/◌, ◌≤◌, ◌<◌}
use native.Mathlib.Omega.{arith}
use borrow.Author.Rules.{rules}
use borrow.Author.Tests.{not-true, not-false}
use lib.ListN.{length, get_or, set, drop}
use lib.Seq.{paste-zero}
use Rattle.rules.specs.declared.message.Network.{Network}
use Rattle.rules.specs.declared.message.Slot.{Slot}
use Rattle.rules.specs.declared.rule.Posting.TheVariants.{Nothing}
use Rattle.rules.specs.declared.step.Step.{Step}
use Rattle.rules.specs.declared.system.TaskTable.{TaskTable}
use Rattle.rules.specs.Networks.{slot, no_slot, message_at, dequeued, enqueued_all, messages_of}
use Rattle.rules.specs.StepFiles.{file_steps}
use Rattle.rig_parts.specs.declared.kept.Kept.{Kept}
use Rattle.rig_parts.specs.Facts.{Facts, PartsOf}
use Rattle.rig_parts.specs.Turns.{turn_of, Rig}
use Rattle.rig_parts.proofs.Bounds.{message_ok_lem}
use Rattle.rig_parts.proofs.BoundsParts.{processors_few, used_few}
use Rattle.network.specs.Positions.{position_of}
use Rattle.network.specs.Rounds.{is_message, rounds_of, message_of}
use Rattle.network.proofs.Gaps.{holding}
use Rattle.network.proofs.Shift.{shift_more}
use Rattle.network.proofs.Posted.{after, after_none, after_room, few_rounds, posted_none, posted_one, rounds_all}
use Rattle.plan_index.specs.user_table.Users.{Indexed}
use Rattle.board.specs.declared.act.Act.{Act}
use Rattle.board.specs.declared.act.Size.{Size}
use Rattle.board.specs.Lent.{Lent, lent, Whole, tasks_of, kept_of}
use Rattle.board.specs.Acted.{Acted, plain_act}
use Rattle.board.specs.Rigs.{facts_in, RigOn}
use Rattle.board.specs.Verdicts.{step_verdict}
use Rattle.run.proofs.all_steps.Going.{going_start, going_length, going_done, going_more, going_room}
use Rattle.run.proofs.all_steps.Mail.{joins, opened_posts, delivered_mail, round_posted, round_skipped}
use Rattle.run.proofs.all_steps.Posts.{one_room}
use Rattle.run.proofs.all_steps.Acting.{delivered_made, other_made, step_room}
use Rattle.run.proofs.all_steps.run_steps.Goals as goal
use Rattle.run.proofs.all_steps.run_steps.Goals.{then-not-skips, else-not-skips, then-posts, else-posts+else-loop-e-test}

-- 256 letters at most, and 256 slots
module _ {f : Facts} {n : ℕ} {ts : TaskTable} {k : Network} {s : Kept} (g : Rig f n ts k s) where
  few : k.used ≤ 256
  few = used_few g.parts

  slots_full : length k.slots ≡ 256
  slots_full = ap (λ (z : Network). length z.slots) g.network ∙ g.parts.shaped.slots

-- what is lent when a step begins is a rig with the index of its plan
rig_on : (codes numbers users : List ℕ) (size : Size) (l : Lent) → Whole l.board
    → PartsOf (facts_in size.tasks codes numbers users) size.processors (tasks_of l) (kept_of l) size.used → Indexed users
    → RigOn codes numbers users size l
rig_on codes numbers users size l w p i = record { whole = w; parts = p; indexed = i }

-- nothing was carried out by a word's run, so the step was carried out on what was lent
acted : (f : Facts) (n used : ℕ) (x : Step) (hp hm hd hn notes : List ℕ) {z b : List ℕ} {r : Act} {then : Lent} → z ≡ b
    → (let l = lent hp hm hd hn notes z in Acted f.senders f.receivers (step_verdict f n (tasks_of l) (kept_of l) used x) l r then)
    → (let l = lent hp hm hd hn notes b in Acted f.senders f.receivers (step_verdict f n (tasks_of l) (kept_of l) used x) l r then)
acted f n used x hp hm hd hn notes {r = r} {then = then} e d =
    subst (λ (z : List ℕ).
    let l = lent hp hm hd hn notes z in
    Acted f.senders f.receivers (step_verdict f n (tasks_of l) (kept_of l) used x) l r then)
    e d

pub loop-k-init : goal.loop-k-init
loop-k-init c = (omega arith, c.requires.whole, going_start _ _ _ _ _ _ _ _ c.requires.blank c.requires.rig)

pub step_at-s-requires : goal.step_at-s-requires
step_at-s-requires c = (omega (arith, c.loop-k-test.true, c.requires.few), omega (arith, c.loop-k-test.true))

pub offset_bounds-network-place : goal.offset_bounds-network-place
offset_bounds-network-place c = omega (arith, c.position-p.ensures.1, few c.loop-k.invariant.2.rig, slots_full c.loop-k.invariant.2.rig)

pub bounds-network-place : goal.bounds-network-place
bounds-network-place c = omega (arith, c.position-p.ensures.1, few c.loop-k.invariant.2.rig, slots_full c.loop-k.invariant.2.rig)

pub deliver-r-requires : goal.deliver-r-requires
deliver-r-requires c =
    let a = c.args in
    let b = c.loop-k in
    let size : Size = record { tasks = a.size.tasks; processors = a.size.processors; used = b.network.used } in
    let here = lent b.hintprocessors b.hintmoves b.heldprocessors b.heldnumbers b.notes b.board in
    let on = rig_on a.codes.now a.numbers.now a.users.now size here b.invariant.1 b.invariant.2.rig.parts c.requires.indexed in
    let p = c.position-p in
    record {
      numbers = a.numbers.now;
      size = size;
      rig = on;
      ok = unfold message_at in message_ok_lem b.invariant.2.rig p.result (omega arith) p.ensures.1;
    }

pub overflow_sub-last : goal.overflow_sub-last
overflow_sub-last c = omega (arith, c.position-p.ensures.1, few c.loop-k.invariant.2.rig, slots_full c.loop-k.invariant.2.rig)

pub loop-j-init : goal.loop-j-init
loop-j-init c =
    let k = c.loop-k.network in
    let p = c.position-p.result in
    (omega (arith, c.position-p.ensures.1, few c.loop-k.invariant.2.rig, slots_full c.loop-k.invariant.2.rig), ap (holding k.used) (paste-zero k.slots (p - 1) (drop (p - 1 + 1) k.slots)))

pub overflow_add-place : goal.overflow_add-place
overflow_add-place c = omega (arith, c.position-p.ensures.1, few c.loop-k.invariant.2.rig, slots_full c.loop-k.invariant.2.rig, c.loop-j.invariant.0)

pub overflow_add-moved : goal.overflow_add-moved
overflow_add-moved c = omega (arith, c.loop-j-test.true, c.position-p.ensures.1, few c.loop-k.invariant.2.rig, slots_full c.loop-k.invariant.2.rig)

pub overflow_add-moved-in-loop-j : goal.overflow_add-moved-in-loop-j
overflow_add-moved-in-loop-j c = omega (arith, c.loop-j-test.true, c.position-p.ensures.1, few c.loop-k.invariant.2.rig, slots_full c.loop-k.invariant.2.rig)

pub offset_bounds-network-place-in-loop-j : goal.offset_bounds-network-place-in-loop-j
offset_bounds-network-place-in-loop-j c = omega (arith, c.loop-j-test.true, c.position-p.ensures.1, few c.loop-k.invariant.2.rig, slots_full c.loop-k.invariant.2.rig)

pub bounds-network-place-in-loop-j : goal.bounds-network-place-in-loop-j
bounds-network-place-in-loop-j c = omega (arith, c.loop-j-test.true, c.position-p.ensures.1, few c.loop-k.invariant.2.rig, slots_full c.loop-k.invariant.2.rig)

pub overflow_add-moved-in-loop-j-2 : goal.overflow_add-moved-in-loop-j-2
overflow_add-moved-in-loop-j-2 c = omega (arith, c.loop-j-test.true, c.position-p.ensures.1, few c.loop-k.invariant.2.rig, slots_full c.loop-k.invariant.2.rig)

pub offset_bounds-network-place-in-loop-j-2 : goal.offset_bounds-network-place-in-loop-j-2
offset_bounds-network-place-in-loop-j-2 c = omega (arith, c.loop-j-test.true, c.position-p.ensures.1, few c.loop-k.invariant.2.rig, slots_full c.loop-k.invariant.2.rig)

pub bounds-network-place-in-loop-j-2 : goal.bounds-network-place-in-loop-j-2
bounds-network-place-in-loop-j-2 c = omega (arith, c.loop-j-test.true, c.position-p.ensures.1, few c.loop-k.invariant.2.rig, slots_full c.loop-k.invariant.2.rig)

pub overflow_add-j : goal.overflow_add-j
overflow_add-j c = omega (arith, c.loop-j-test.true, c.position-p.ensures.1, few c.loop-k.invariant.2.rig, slots_full c.loop-k.invariant.2.rig)

pub loop-j-preserved : goal.loop-j-preserved
loop-j-preserved c =
    let k = c.loop-k.network in
    let at = c.position-p.result - 1 in
    let j = c.loop-j.j in
    let more = shift_more k.slots at no_slot j (omega (arith, c.loop-j-test.true, c.position-p.ensures.1, few c.loop-k.invariant.2.rig, slots_full c.loop-k.invariant.2.rig)) in (
      omega (arith, c.loop-j-test.true),
      ap (λ (z : Network). holding z.used (set z.slots (at + j) (get_or z.slots (at + j + 1) no_slot))) c.loop-j.invariant.1 ∙ ap (holding k.used) more,
    )

pub offset_bounds-network-last : goal.offset_bounds-network-last
offset_bounds-network-last c = omega (arith, c.position-p.ensures.1, few c.loop-k.invariant.2.rig, slots_full c.loop-k.invariant.2.rig)

pub bounds-network-last : goal.bounds-network-last
bounds-network-last c = omega (arith, c.position-p.ensures.1, few c.loop-k.invariant.2.rig, slots_full c.loop-k.invariant.2.rig)

pub overflow_add-network : goal.overflow_add-network
overflow_add-network c = omega (arith, c.wide8.ensures, c.rounds.ensures, few_rounds 1 c.deliver-r.result.posting (omega arith), few c.loop-k.invariant.2.rig)

pub emit_next-requires : goal.emit_next-requires
emit_next-requires c =
    (omega (arith, c.loop-k-test.true, c.requires.few), c.loop-k.invariant.2.two, going_room _ _ _ _ _ _ c.loop-k.invariant.2)

pub word_run-requires : goal.word_run-requires
word_run-requires c =
    let a = c.args in
    let b = c.loop-k in
    let size : Size = record { tasks = a.size.tasks; processors = a.size.processors; used = b.network.used } in
    let here = lent b.hintprocessors b.hintmoves b.heldprocessors b.heldnumbers b.notes b.board in
    let on = rig_on a.codes.now a.numbers.now a.users.now size here b.invariant.1 b.invariant.2.rig.parts c.requires.indexed in (
      b.invariant.1,
      record {
        numbers = a.numbers.now;
        users = a.users.now;
        hintprocessors = b.hintprocessors;
        hintmoves = b.hintmoves;
        heldprocessors = b.heldprocessors;
        heldnumbers = b.heldnumbers;
        notes = b.notes;
        rig = on;
      },
    )

pub emit_next-requires-then-word_run : goal.emit_next-requires-then-word_run
emit_next-requires-then-word_run c =
    (omega (arith, c.loop-k-test.true, c.requires.few), c.loop-k.invariant.2.two, going_room _ _ _ _ _ _ c.loop-k.invariant.2)

pub other-r-requires : goal.other-r-requires
other-r-requires c =
    let a = c.args in
    let b = c.loop-k in
    let size : Size = record { tasks = a.size.tasks; processors = a.size.processors; used = b.network.used } in
    let here = lent b.hintprocessors b.hintmoves b.heldprocessors b.heldnumbers b.notes b.board in
    let on = rig_on a.codes.now a.numbers.now a.users.now size here b.invariant.1 b.invariant.2.rig.parts c.requires.indexed in
    subst
    (λ (z : List ℕ). RigOn a.codes.now a.numbers.now a.users.now size (lent b.hintprocessors b.hintmoves b.heldprocessors b.heldnumbers b.notes z))
    (sym (c.word_run.ensures.0 c.if-word_run.false)) on

pub offset_bounds-network-used : goal.offset_bounds-network-used
offset_bounds-network-used c =
    let a = c.args in
    let b = c.loop-k in
    let k = b.network in
    let n = a.size.processors in
    let f = facts_in a.size.tasks a.codes.now a.numbers.now a.users.now in
    let here = lent b.hintprocessors b.hintmoves b.heldprocessors b.heldnumbers b.notes b.board in
    let x = c.step_at-s.result in
    let d = acted f n k.used x b.hintprocessors b.hintmoves b.heldprocessors b.heldnumbers b.notes (c.word_run.ensures.0 c.if-word_run.false) c.other-r.ensures in
    let room = step_room b.invariant.2.rig.parts x d.act in
    let less : c.loop-k.network.used < 256 =
    one_room n k.used c.other-r.result.posting (sym c.posts.ensures ∙ c.if-posts.true) room in
    omega arith

pub bounds-network-used : goal.bounds-network-used
bounds-network-used c =
    let a = c.args in
    let b = c.loop-k in
    let k = b.network in
    let n = a.size.processors in
    let f = facts_in a.size.tasks a.codes.now a.numbers.now a.users.now in
    let here = lent b.hintprocessors b.hintmoves b.heldprocessors b.heldnumbers b.notes b.board in
    let x = c.step_at-s.result in
    let d = acted f n k.used x b.hintprocessors b.hintmoves b.heldprocessors b.heldnumbers b.notes (c.word_run.ensures.0 c.if-word_run.false) c.other-r.ensures in
    let room = step_room b.invariant.2.rig.parts x d.act in
    one_room n k.used c.other-r.result.posting (sym c.posts.ensures ∙ c.if-posts.true) room

pub overflow_add-network-then-posts : goal.overflow_add-network-then-posts
overflow_add-network-then-posts c =
    let a = c.args in
    let b = c.loop-k in
    let k = b.network in
    let n = a.size.processors in
    let f = facts_in a.size.tasks a.codes.now a.numbers.now a.users.now in
    let here = lent b.hintprocessors b.hintmoves b.heldprocessors b.heldnumbers b.notes b.board in
    let x = c.step_at-s.result in
    let d = acted f n k.used x b.hintprocessors b.hintmoves b.heldprocessors b.heldnumbers b.notes (c.word_run.ensures.0 c.if-word_run.false) c.other-r.ensures in
    let room = step_room b.invariant.2.rig.parts x d.act in
    let less : c.loop-k.network.used < 256 =
    one_room n k.used c.other-r.result.posting (sym c.posts.ensures ∙ c.if-posts.true) room in
    omega arith

pub loop-e-init : goal.loop-e-init
loop-e-init c = (omega arith, sym (after_none c.other-r.result.posting c.loop-k.network))

pub offset_bounds-network-free : goal.offset_bounds-network-free
offset_bounds-network-free c =
    let a = c.args in
    let b = c.loop-k in
    let k = b.network in
    let n = a.size.processors in
    let f = facts_in a.size.tasks a.codes.now a.numbers.now a.users.now in
    let here = lent b.hintprocessors b.hintmoves b.heldprocessors b.heldnumbers b.notes b.board in
    let x = c.step_at-s.result in
    let d = acted f n k.used x b.hintprocessors b.hintmoves b.heldprocessors b.heldnumbers b.notes (c.word_run.ensures.0 c.if-word_run.false) c.other-r.ensures in
    let room = step_room b.invariant.2.rig.parts x d.act in
    let p = c.other-r.result.posting in
    let e = c.loop-e.e in
    let less : c.loop-e.network.used < 256 =
    subst (λ (k : Network). k.used < 256) (sym c.loop-e.invariant.1)
    (after_room p k n e (subst (λ n. e < n) c.rounds-rounds.ensures c.loop-e-test.true)
    (sym c.skips.ensures ∙ not-true c.skips.result c.if-not-skips.true-raw)
    room) in
    omega arith

pub bounds-network-free : goal.bounds-network-free
bounds-network-free c =
    let a = c.args in
    let b = c.loop-k in
    let k = b.network in
    let n = a.size.processors in
    let f = facts_in a.size.tasks a.codes.now a.numbers.now a.users.now in
    let here = lent b.hintprocessors b.hintmoves b.heldprocessors b.heldnumbers b.notes b.board in
    let x = c.step_at-s.result in
    let d = acted f n k.used x b.hintprocessors b.hintmoves b.heldprocessors b.heldnumbers b.notes (c.word_run.ensures.0 c.if-word_run.false) c.other-r.ensures in
    let room = step_room b.invariant.2.rig.parts x d.act in
    let p = c.other-r.result.posting in
    let e = c.loop-e.e in
    subst (λ (k : Network). k.used < 256) (sym c.loop-e.invariant.1)
    (after_room p k n e (subst (λ n. e < n) c.rounds-rounds.ensures c.loop-e-test.true)
    (sym c.skips.ensures ∙ not-true c.skips.result c.if-not-skips.true-raw)
    room)

pub overflow_add-network-then-not-skips : goal.overflow_add-network-then-not-skips
overflow_add-network-then-not-skips c =
    let a = c.args in
    let b = c.loop-k in
    let k = b.network in
    let n = a.size.processors in
    let f = facts_in a.size.tasks a.codes.now a.numbers.now a.users.now in
    let here = lent b.hintprocessors b.hintmoves b.heldprocessors b.heldnumbers b.notes b.board in
    let x = c.step_at-s.result in
    let d = acted f n k.used x b.hintprocessors b.hintmoves b.heldprocessors b.heldnumbers b.notes (c.word_run.ensures.0 c.if-word_run.false) c.other-r.ensures in
    let room = step_room b.invariant.2.rig.parts x d.act in
    let p = c.other-r.result.posting in
    let e = c.loop-e.e in
    let less : c.loop-e.network.used < 256 =
    subst (λ (k : Network). k.used < 256) (sym c.loop-e.invariant.1)
    (after_room p k n e (subst (λ n. e < n) c.rounds-rounds.ensures c.loop-e-test.true)
    (sym c.skips.ensures ∙ not-true c.skips.result c.if-not-skips.true-raw)
    room) in
    omega arith

pub overflow_add-e : goal.overflow_add-e
overflow_add-e c = omega (arith, c.loop-e-test.true, c.rounds-rounds.ensures, few_rounds c.args.size.processors c.other-r.result.posting (processors_few c.loop-k.invariant.2.rig.parts))

pub loop-e-preserved : goal.loop-e-preserved
loop-e-preserved c =
    let x = c.other-r.result.posting in
    let e = c.loop-e.e in
    let start = c.loop-k.network in
    let so_far = c.loop-e.invariant.1 in
    let next : c.if-not-skips.network ≡ after x start (e + 1) =
    elim c.if-not-skips.branch [
      | then-not-skips w ↦ w.network-is ∙ round_posted x start e so_far (sym c.skips.ensures ∙ not-true c.skips.result w.if-not-skips.true-raw) w.message-l-then-not-skips.ensures
      | else-not-skips w ↦ w.network-is ∙ round_skipped x start e so_far (sym c.skips.ensures ∙ not-false c.skips.result w.if-not-skips.false-raw)
    ] in
    (omega (arith, c.loop-e-test.true), next)

pub emit_next-requires-else-word_run : goal.emit_next-requires-else-word_run
emit_next-requires-else-word_run c =
    (omega (arith, c.loop-k-test.true, c.requires.few), c.loop-k.invariant.2.two, going_room _ _ _ _ _ _ c.loop-k.invariant.2)

pub loop-k-preserved-after-loop-j : goal.loop-k-preserved-after-loop-j
unfolding message_at
loop-k-preserved-after-loop-j c =
    let a = c.args in
    let b = c.loop-k in
    let k = b.network in
    let n = a.size.processors in
    let f = facts_in a.size.tasks a.codes.now a.numbers.now a.users.now in
    let here = lent b.hintprocessors b.hintmoves b.heldprocessors b.heldnumbers b.notes b.board in
    let r = c.deliver-r.result in
    let x = c.step_at-s.result in
    let p = c.position-p.result in
    let d = c.deliver-r.ensures f.tasks f.numbers in
    let o = c.deliver-r.new in
    let then = lent o.hintprocessors o.hintmoves o.heldprocessors o.heldnumbers o.notes o.board in
    let some : 1 ≤ p = omega arith in
    let fewer = few c.loop-k.invariant.2.rig in
    let there = c.position-p.ensures.1 in
    let mail = delivered_mail n k (slots_full c.loop-k.invariant.2.rig) fewer p some there r.posting
    (opened_posts f (tasks_of here) (kept_of here) (get_or k.slots (p - 1) no_slot).message d.act)
    c.loop-j.j (omega (arith, c.loop-j.invariant.0, c.loop-j-test.false, some, there)) c.loop-j.invariant.1
    c.message-l.ensures (c.wide8.ensures ∙ c.rounds.ensures) in
    let turn = delivered_made f n k x here then r p c.position-p.ensures.0 c.if-p-ne0.true d mail
    ∙ ap (turn_of f n (tasks_of here) k (kept_of here)) c.step_at-s.ensures in
    (omega (arith, c.loop-k-test.true), d.whole, going_more _ _ _ _ _ _ b.invariant.2 turn c.emit_next.ensures)

pub loop-k-preserved-then-word_run : goal.loop-k-preserved-then-word_run
loop-k-preserved-then-word_run c =
    let a = c.args in
    let b = c.loop-k in
    let k = b.network in
    let n = a.size.processors in
    let f = facts_in a.size.tasks a.codes.now a.numbers.now a.users.now in
    let here = lent b.hintprocessors b.hintmoves b.heldprocessors b.heldnumbers b.notes b.board in
    let x = c.step_at-s.result in
    let d = c.word_run.ensures.1 c.if-word_run.true f.numbers a.users.now b.hintprocessors b.hintmoves b.heldprocessors b.heldnumbers b.notes in
    let then = lent b.hintprocessors b.hintmoves b.heldprocessors b.heldnumbers b.notes c.word_run.new.board in
    let none : position_of k.used x ≡ 0 = sym c.position-p.ensures.0 ∙ c.if-p-ne0.false in
    let turn = other_made f n k x here then plain_act none d (sym (posted_none n k Nothing tt refl))
    ∙ ap (turn_of f n (tasks_of here) k (kept_of here)) c.step_at-s.ensures in
    (omega (arith, c.loop-k-test.true), d.whole, going_more _ _ _ _ _ _ b.invariant.2 turn c.emit_next-then-word_run.ensures)

pub loop-k-preserved : goal.loop-k-preserved
loop-k-preserved c =
    let a = c.args in
    let b = c.loop-k in
    let k = b.network in
    let n = a.size.processors in
    let f = facts_in a.size.tasks a.codes.now a.numbers.now a.users.now in
    let here = lent b.hintprocessors b.hintmoves b.heldprocessors b.heldnumbers b.notes b.board in
    let x = c.step_at-s.result in
    let d = acted f n k.used x b.hintprocessors b.hintmoves b.heldprocessors b.heldnumbers b.notes (c.word_run.ensures.0 c.if-word_run.false) c.other-r.ensures in
    let r = c.other-r.result in
    let o = c.other-r.new in
    let then = lent o.hintprocessors o.hintmoves o.heldprocessors o.heldnumbers o.notes o.board in
    let p = r.posting in
    let mail : c.if-posts.network ≡ enqueued_all k (messages_of n p) =
    elim c.if-posts.branch [
      | then-posts w ↦
          let some : is_message p ≡ true = sym c.posts.ensures ∙ w.if-posts.true in
          w.network-is
          ∙ ap (λ (l : Slot). holding (k.used + 1) (set k.slots k.used l)) (ap slot w.message-l-then-posts.ensures)
          ∙ joins k (message_of p 0)
          ∙ sym (posted_one n k p some)
      | else-posts+else-loop-e-test w ↦
          let all : w.loop-e.e ≡ rounds_of n p = omega (arith, w.loop-e.invariant.0, w.loop-e-test.false, w.rounds-rounds.ensures) in
          w.network-is ∙ w.loop-e.invariant.1 ∙ ap (after p k) all ∙ ap (enqueued_all k) (rounds_all n p)
    ] in
    let none : position_of k.used x ≡ 0 = sym c.position-p.ensures.0 ∙ c.if-p-ne0.false in
    let turn = other_made f n k x here then r none d mail
    ∙ ap (turn_of f n (tasks_of here) k (kept_of here)) c.step_at-s.ensures in
    (omega (arith, c.loop-k-test.true), d.whole, going_more _ _ _ _ _ _ b.invariant.2 turn c.emit_next-else-word_run.ensures)

pub shape_of-out : goal.shape_of-out
shape_of-out c = going_length _ _ _ _ _ _ c.loop-k.invariant.2

pub returns : goal.returns
unfolding file_steps
returns c =
    let g = c.loop-k.invariant.2 in
    let all : c.loop-k.k ≡ length c.args.steps.now / 4 = omega (arith, c.loop-k-test.false, c.loop-k.invariant.0) in
    (rw (← all) (going_done _ _ _ _ _ _ g), c.loop-k.invariant.1)
