-- A rig at rest: the net is at its end, and says of each task in which state it is, at which place and with which word.
use mathlib.Core.Path.{◌≡◌, refl, sym, ap, ◌∙◌}
use mathlib.Core.Bool.{Bool, true, false, not, ◌&&◌, ◌||◌}
use mathlib.Core.List.{List, []}
use Prim.Native.Nat.{ℕ, suc, ◌+◌, ◌-◌, ◌≤◌, ◌<◌}
use native.Mathlib.Omega.{arith}
use lib.Dec.{eqb}
use lib.ListN.{length}
use borrow.Author.Tests.{eqb-true, eq-eqb, lt-ltb, not-true, not-false}
use Rattle.std.specs.Prelude.{Ok}
use Rattle.base.specs.Choice.{pick, within}
use Rattle.base.proofs.Tests.{and_left, and_right, and_both, or_cases, tests_differ, is_true, is_false, within_low, within_high}
use Rattle.net.specs.Machines.{Normal}
use Rattle.plan.specs.declared.TaskId.{TaskId}
use Rattle.plan.specs.declared.ChannelId.{ChannelId}
use Rattle.plan.specs.declared.Instruction.{Instruction}
use Rattle.plan.specs.declared.Word.{Word}
use Rattle.plan.specs.Kinds.{op_sync, op_finish, op_send, is_finish}
use Rattle.plan.specs.Programs.{Program, Programs}
use Rattle.plan.specs.Users.{sender_of, receiver_of}
use Rattle.plan.specs.Refusals.{plan_answer}
use Rattle.plan_laws.proofs.Ends.{no_ends}
use Rattle.rules.specs.declared.task.TaskState.{TaskState}
use Rattle.rules.specs.declared.task.TaskState.TheVariants.{Unborn, Ready, Waiting, Sending, Receiving, Moving, Done}
use Rattle.rules.specs.declared.task.Task.{Task}
use Rattle.rules.specs.Tasks.{state_number, is_in, is_childless}
use Rattle.rules.specs.Places.{next_in, last_in, is_on}
use Rattle.rules.specs.Sound.{task_ok}
use Rattle.rules_sound.proofs.Born.{born_passed}
use Rattle.rules_sound.proofs.Settled.{settled}
use Rattle.net.specs.States.{Net}
use Rattle.net.specs.Labels.{Label, own, pass, is_join, is_transfer}
use Rattle.net.specs.Guards.{is_complete, is_active, next_of, stands_at, children_complete, is_free, enabled}
use Rattle.net.specs.Nets.{net, Reached}
use Rattle.net.specs.Consistent.{Consistent}
use Rattle.net.proofs.Parts.{own_active, own_free, sender_stands, receiver_stands, stands_active, stands_opcode, stands_operand}
use Rattle.net.proofs.Remaining.{active_task}
use Rattle.net.proofs.NextInstruction.{program_some}
use Rattle.net.proofs.Consistent.{consistent}
use Rattle.net.proofs.Children.{children_complete_lem}
use Rattle.channel.proofs.Claims.{not_both}
use Rattle.transitions.specs.Readings.{Reading}
use Rattle.transitions.specs.Progress.{flag, is_blocked, program_of}
use Rattle.transitions.specs.Messages.{flat}
use Rattle.transitions.specs.Views.{Histories, sender_view, receiver_view, view_of}
use Rattle.transitions.specs.Agreement.{coming_to, Running}
use Rattle.transitions.proofs.Tasks.{completed_free, completed_blocked, last_some, Side, sends, receives, same_state, unborn_is, completed_most}
use Rattle.invariant.proofs.Families.{no_moving, living_child}
use Rattle.invariant.proofs.Coming.{agrees_born, unborn_not, agrees_completed, agrees_word, coming_empty}
use Rattle.invariant.proofs.NetSteps.{done_complete, born_within, ready_next, last_kind_lem, side_next, waiting_next}

-- no ready task can run: each is at its finish, with a child living
abbrev pub Resting : Programs → Reading → Type 0
Resting m x = (t : TaskId) → within 1 (length m) t.0 ≡ true → is_in Ready (x.tasks t) ≡ true
    → (is_finish (next_in (program_of m t) (x.tasks t)) ≡ true) × (is_childless (x.tasks t) ≡ false)

-- a task z that goes no further, at instruction i
data Halted (z : Task) (i : Instruction) : Type 0 where
  finishing : is_in Ready z ≡ true → i.opcode ≡ op_finish → is_childless z ≡ false → Halted z i
  syncing : is_in Waiting z ≡ true → i.opcode ≡ op_sync → is_childless z ≡ false → Halted z i
  busy : {k : ℕ} {u : TaskState} → Side k u → is_in u z ≡ true → i.opcode ≡ k → Halted z i

-- by the kind of the instruction, the number of the task's state
abbrev pause_of : ℕ → ℕ
pause_of k = pick (eqb k op_finish) 1 (pick (eqb k op_sync) 2 (k - 1))

-- .. also of one that is not born, or is complete
abbrev state_for : Bool → Bool → ℕ → ℕ
state_for born complete k = pick born (pick complete 6 (pause_of k)) 0

-- every task has a place
pub place_some : (n k : ℕ) (g : Program) (z : Task) → task_ok n k g z ≡ true → 1 ≤ z.pc
place_some n k g z ok = go (is_in Unborn z) refl
  where
    go : (b : Bool) → is_in Unborn z ≡ b → 1 ≤ z.pc
    go false e = within_low 1 _ z.pc (born_passed n k g z ok e).place
    go true e = omega (arith, (unborn_is n k g z ok e).place)

side_transfer : {k : ℕ} {u : TaskState} → Side k u → (i : Instruction) → i.opcode ≡ k → is_transfer i ≡ true
side_transfer sends i e = rw e refl
side_transfer receives i e = rw e refl

side_pause : {k : ℕ} {u : TaskState} → Side k u → pause_of k ≡ state_number u
side_pause sends = refl
side_pause receives = refl

not_done : {z : Task} {i : Instruction} → Halted z i → is_in Done z ≡ false
not_done {z} (finishing e o some) = rw (eqb-true (state_number z.state) 1 e) refl
not_done {z} (syncing e o some) = rw (eqb-true (state_number z.state) 2 e) refl
not_done {z} (busy sends e o) = rw (eqb-true (state_number z.state) 3 e) refl
not_done {z} (busy receives e o) = rw (eqb-true (state_number z.state) 4 e) refl

halted_state : {z : Task} {i : Instruction} → Halted z i → state_number z.state ≡ pause_of i.opcode
halted_state {z} (finishing e o some) = eqb-true (state_number z.state) 1 e ∙ sym (ap pause_of o)
halted_state {z} (syncing e o some) = eqb-true (state_number z.state) 2 e ∙ sym (ap pause_of o)
halted_state {z} (busy {u = u} side e o) = eqb-true (state_number z.state) (state_number u) e ∙ sym (ap pause_of o ∙ side_pause side)

module _ (m : Programs) (accepted : plan_answer m ≡ Ok tt) (s : Net) (sane : Consistent m s)
    {h : Histories} {x : Reading} {w : ChannelId → List Word} (run : Running m h s x w) (none : x.messages ≡ []) (rest : Resting m x) where
  quiet : (t : TaskId) → coming_to (program_of m t) x.messages (x.tasks t) ≡ []
  quiet t = coming_empty (program_of m t) x.messages (x.tasks t) none

  -- a task that can go on in the net goes no further in the rig
  module _ (t : TaskId) (active : is_active m s t ≡ true) where
    born : is_in Unborn (x.tasks t) ≡ false
    unfolding is_active
    born = unborn_not (run.agrees t) (and_left (s.born t) _ active)

    number : within 1 (length m) t.0 ≡ true
    number = born_within m accepted s sane run t born

    halted_ready : is_in Ready (x.tasks t) ≡ true → Halted (x.tasks t) (next_of m s t)
    halted_ready e =
        let z = x.tasks t in
        let k = settled x.processors (length m) (program_of m t) z Ready refl e (run.tasks t number) in
        let at = ready_next m accepted s sane run t e k.place k.place_few in
        let (last, some) = rest t number e in
        finishing e (rw at.next (eqb-true (next_in (program_of m t) z).opcode op_finish last)) some

    halted_waiting : is_in Waiting (x.tasks t) ≡ true → Halted (x.tasks t) (next_of m s t)
    halted_waiting e = syncing e (rw (waiting_next m accepted s sane run t e).next ((run.agrees t).sync e)) ((run.agrees t).waits e)

    halted_busy : {k : ℕ} {u : TaskState} → Side k u → is_in u (x.tasks t) ≡ true → Halted (x.tasks t) (next_of m s t)
    halted_busy side e =
        let at = side_next m accepted s sane run t side e (quiet t) in
        busy side e (rw at.next (last_kind_lem m accepted s sane run t side e))

    halted : Halted (x.tasks t) (next_of m s t)
    unfolding is_active
    halted = go (x.tasks t).state refl
      where
        go : (u : TaskState) → (x.tasks t).state ≡ u → Halted (x.tasks t) (next_of m s t)
        go Unborn e = absurd (tests_differ (rw e refl) born)
        go Ready e = halted_ready (rw e refl)
        go Waiting e = halted_waiting (rw e refl)
        go Sending e = halted_busy sends (rw e refl)
        go Receiving e = halted_busy receives (rw e refl)
        go Moving e = absurd (tests_differ (rw e refl) (no_moving run none t number))
        go Done e =
            absurd
            (tests_differ (done_complete m accepted s sane (run.agrees t) (rw e refl))
            (not-true (is_complete m s t) (and_right (s.born t) _ active)))

  -- who stands at a send or a receive is sending or receiving
  halted_on : {k : ℕ} {u : TaskState} → Side k u → (t : TaskId) (c : ChannelId) → stands_at m s t k c ≡ true
      → is_on u (program_of m t) c (x.tasks t) ≡ true
  unfolding is_on
  halted_on {k} {u} side t c there =
      let state = halted_state (halted t (stands_active m s t k c there)) ∙ ap pause_of (stands_opcode m s t k c there) ∙ side_pause side in
      let e : is_in u (x.tasks t) ≡ true = eq-eqb (state_number (x.tasks t).state) (state_number u) state in
      let at = side_next m accepted s sane run t side e (quiet t) in
      let operand = ap (λ (i : Instruction). i.operand) (sym at.next) ∙ stands_operand m s t k c there in
      and_both (is_in u (x.tasks t)) _ e (eq-eqb (last_in (program_of m t) (x.tasks t)).operand c.0 operand)

  -- no word can pass
  no_pass : (c : ChannelId) → enabled m s (pass c) ≡ true → ⊥
  unfolding view_of sender_view receiver_view flat
  no_pass c may =
      let a = sender_stands m s c may in
      let b = receiver_stands m s c may in
      let (low, high) = active_task m s (sender_of m c) (stands_active m s (sender_of m c) op_send c a) in
      let n = is_true (within 1 128 c.0) (λ o. omega (arith, (no_ends m accepted c o).0)) in
      not_both (view_of m h x c) (run.views c (within_low 1 128 c.0 n) (within_high 1 128 c.0 n)) (rw none refl)
      (rw (halted_on sends (sender_of m c) c a) refl) (rw (halted_on receives (receiver_of m c) c b) refl)

  -- a living child is not complete
  living_incomplete : (u : TaskId) → is_in Unborn (x.tasks u) ≡ false → is_in Done (x.tasks u) ≡ false → is_complete m s u ≡ false
  unfolding is_complete
  living_incomplete u b d =
      let z = x.tasks u in
      let g = program_of m u in
      let n = born_within m accepted s sane run u b in
      let place = rw d at (born_passed x.processors (length m) g z (run.tasks u n) b).place in
      let low = within_low 1 (length g) z.pc place in
      let high = within_high 1 (length g) z.pc place in
      let short = lt-ltb (s.completed u) (length g) (omega (arith, agrees_completed (run.agrees u) (quiet u), completed_most z)) in
      rw (program_some m u (within_low 1 (length m) u.0 n), short) refl

  no_join : (t : TaskId) → is_active m s t ≡ true → is_childless (x.tasks t) ≡ false → children_complete m s t ≡ true → ⊥
  no_join t active some complete =
      let (low, high) = active_task m s t active in
      let l = living_child m accepted run t (number t active) some in
      let b = agrees_born (run.agrees l.child) l.born in
      tests_differ (children_complete_lem m accepted s sane t low high complete l.child l.parent b)
      (living_incomplete l.child l.born (l.not_done none))

  -- no task can do an instruction of its own
  no_own : (t : TaskId) → enabled m s (own t) ≡ true → ⊥
  unfolding is_free
  no_own t may = go (halted t active)
    where
      active : is_active m s t ≡ true
      active = own_active m s t may

      free : not (is_transfer (next_of m s t)) && (not (is_join (next_of m s t)) || children_complete m s t) ≡ true
      free = own_free m s t may

      joins : is_join (next_of m s t) ≡ true → children_complete m s t ≡ true
      joins e = rw e at (and_right (not (is_transfer (next_of m s t))) _ free)

      go : Halted (x.tasks t) (next_of m s t) → ⊥
      go (finishing e o some) = no_join t active some (joins (rw o refl))
      go (syncing e o some) = no_join t active some (joins (rw o refl))
      go (busy side e o) =
          tests_differ (side_transfer side (next_of m s t) o)
          (not-true (is_transfer (next_of m s t)) (and_left (not (is_transfer (next_of m s t))) _ free))

  normal : Normal (net m) s
  normal (own t) = is_false (enabled m s (own t)) (no_own t)
  normal (pass c) = is_false (enabled m s (pass c)) (no_pass c)

  -- the state of a task, by the net
  rest_state : (t : TaskId) → state_number (x.tasks t).state ≡ state_for (s.born t) (is_complete m s t) (next_of m s t).opcode
  unfolding is_active
  rest_state t = go (s.born t) (is_complete m s t) refl refl
    where
      go : (b c : Bool) → s.born t ≡ b → is_complete m s t ≡ c → state_number (x.tasks t).state ≡ state_for b c (next_of m s t).opcode
      go false c p q = eqb-true (state_number (x.tasks t).state) 0 (not-false (is_in Unborn (x.tasks t)) (sym (run.agrees t).born ∙ p))
      go true true p q =
          eqb-true (state_number (x.tasks t).state) 6
          (is_true (is_in Done (x.tasks t)) (λ d. tests_differ q (living_incomplete t (unborn_not (run.agrees t) p) d)))
      go true false p q = halted_state (halted t (and_both (s.born t) _ p (rw q refl)))

  -- a blocked task has executed an instruction
  blocked_place : (t : TaskId) → is_blocked (x.tasks t) ≡ true → 1 < (x.tasks t).pc
  blocked_place t e =
      let z = x.tasks t in
      let g = program_of m t in
      or_cases (is_in Waiting z) _ e (λ q. last_some g z (omega (arith, (run.agrees t).sync q)))
      (λ q.
      or_cases (is_in Sending z) (is_in Receiving z) q (λ r. last_some g z (omega (arith, last_kind_lem m accepted s sane run t sends r)))
      (λ r. last_some g z (omega (arith, last_kind_lem m accepted s sane run t receives r))))

  -- its place, by its state and the net
  rest_place : (t : TaskId) → within 1 (length m) t.0 ≡ true → (x.tasks t).pc ≡ s.completed t + suc (flag (is_blocked (x.tasks t)))
  rest_place t n = go (is_blocked (x.tasks t)) refl
    where
      go : (b : Bool) → is_blocked (x.tasks t) ≡ b → (x.tasks t).pc ≡ s.completed t + suc (flag b)
      go true e = omega (arith, agrees_completed (run.agrees t) (quiet t), completed_blocked (x.tasks t) e, blocked_place t e)
      go false e =
          omega (
            arith,
            agrees_completed (run.agrees t) (quiet t),
            completed_free (x.tasks t) e,
            place_some x.processors (length m) (program_of m t) (x.tasks t) (run.tasks t n),
          )

  rest_word : (t : TaskId) → s.word t ≡ (x.tasks t).word
  rest_word t = agrees_word (run.agrees t) (quiet t)

  -- it is done where it is born and complete in the net
  rest_done : (t : TaskId) → is_in Done (x.tasks t) ≡ s.born t && is_complete m s t
  unfolding is_active
  rest_done t = go (s.born t) (is_complete m s t) refl refl
    where
      go : (b c : Bool) → s.born t ≡ b → is_complete m s t ≡ c → is_in Done (x.tasks t) ≡ b && c
      go false c p q = rw (rest_state t, p) refl
      go true true p q = rw (rest_state t, p, q) refl
      go true false p q = not_done (halted t (and_both (s.born t) _ p (rw q refl)))

-- state, place, word and mark
pub record Same (x y : Task) : Type 0 where
  pub state : x.state ≡ y.state
  pub pc : x.pc ≡ y.pc
  pub word : x.word ≡ y.word
  pub overflow : x.overflow ≡ y.overflow

module _ (m : Programs) (accepted : plan_answer m ≡ Ok tt) {ls : List Label} {s : Net} (reached : Reached m ls s) where
  -- at rest the net is at its end
  pub rest_normal : {h : Histories} {x : Reading} {w : ChannelId → List Word} → Running m h s x w → x.messages ≡ [] → Resting m x → Normal (net m) s
  rest_normal run none rest = normal m accepted s (consistent m accepted reached) run none rest

  -- what a rig at rest shows of the net: whether a task is done, its word, its mark
  pub at_rest_shows : {h : Histories} {x : Reading} {w : ChannelId → List Word} → Running m h s x w → x.messages ≡ [] → Resting m x → (t : TaskId)
      → (is_in Done (x.tasks t) ≡ s.born t && is_complete m s t) × (s.word t ≡ (x.tasks t).word) × (s.overflow t ≡ (x.tasks t).overflow)
  at_rest_shows run none rest t =
      let sane = consistent m accepted reached in
      (rest_done m accepted s sane run none rest t, rest_word m accepted s sane run none rest t, (run.agrees t).overflow)

  -- two rigs at rest that agree with one net
  pub at_rest_same : {h h' : Histories} {x y : Reading} {w w' : ChannelId → List Word} → Running m h s x w → Running m h' s y w'
      → x.messages ≡ [] → y.messages ≡ [] → Resting m x → Resting m y → (t : TaskId) → within 1 (length m) t.0 ≡ true
      → Same (x.tasks t) (y.tasks t)
  at_rest_same {x = x} {y} run run' none none' rest rest' t n =
      let sane = consistent m accepted reached in
      let number = rest_state m accepted s sane run none rest t ∙ sym (rest_state m accepted s sane run' none' rest' t) in
      let e = same_state (x.tasks t).state (y.tasks t).state number in
      record {
        state = e;
        pc = rest_place m accepted s sane run none rest t n ∙ rw e (sym (rest_place m accepted s sane run' none' rest' t n));
        word = sym (rest_word m accepted s sane run none rest t) ∙ rest_word m accepted s sane run' none' rest' t;
        overflow = sym (run.agrees t).overflow ∙ (run'.agrees t).overflow;
      }
