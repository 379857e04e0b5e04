-- The net beside the rig: at which instruction of the net a task of the rig is, when a label may be taken, and what it changes.
use mathlib.Core.Path.{◌≡◌, refl, ap, ◌∙◌}
use mathlib.Core.Bool.{Bool, true, false, not, ◌||◌, or-false}
use mathlib.Core.List.{List, []}
use mathlib.Core.Logic.{◌≢◌}
use Prim.Native.Nat.{ℕ, suc, ◌-◌, ◌≤◌, ◌<◌}
use native.Mathlib.Omega.{arith}
use lib.ListN.{length}
use borrow.Author.Tests.{ne_eqb, lt-ltb, le-ltb}
use Rattle.std.specs.Prelude.{Ok}
use Rattle.base.specs.Choice.{within}
use Rattle.base.proofs.Tests.{and_both, tests_differ, is_true, within_low, within_high}
use Rattle.net.specs.Machines.{Run}
use Rattle.plan.specs.declared.TaskId.{TaskId}
use Rattle.plan.specs.declared.ChannelId.{ChannelId}
use Rattle.plan.specs.declared.Instruction.{Instruction}
use Rattle.plan.specs.declared.Word.{Word}
use Rattle.plan.specs.Numbers.{task_id}
use Rattle.plan.specs.Kinds.{op_create, is_use}
use Rattle.plan.specs.Programs.{Programs, instruction_at}
use Rattle.plan.specs.Users.{receiver_of}
use Rattle.plan.specs.Refusals.{plan_answer}
use Rattle.plan_laws.proofs.Ends.{receives_on_lem}
use Rattle.rules.specs.declared.task.TaskState.{TaskState}
use Rattle.rules.specs.declared.task.TaskState.TheVariants.{Unborn, Ready, Waiting, Receiving, Done}
use Rattle.rules.specs.declared.task.Task.{Task}
use Rattle.rules.specs.declared.message.Message.{Message}
use Rattle.rules.specs.Tasks.{is_in}
use Rattle.rules.specs.Places.{next_in, last_in, is_on}
use Rattle.rules_sound.proofs.Born.{place_few}
use Rattle.net.specs.States.{Net}
use Rattle.net.specs.Labels.{Label, own, is_create, is_join, is_transfer, takes_part}
use Rattle.net.specs.Guards.{is_complete, is_active, next_of, stands_at, children_complete, is_free, enabled}
use Rattle.net.specs.Effects.{word_after, overflow_after, after_own, effect}
use Rattle.net.specs.Nets.{net}
use Rattle.net.specs.Consistent.{Consistent}
use Rattle.net.proofs.Stays.{born_after_lem, completed_stays, word_stays, overflow_stays}
use Rattle.net.proofs.NextInstruction.{program_some, next_is}
use Rattle.transitions.specs.Readings.{Reading}
use Rattle.transitions.specs.Progress.{is_blocked, program_of}
use Rattle.transitions.specs.Views.{Histories}
use Rattle.transitions.specs.EndSteps.{AtUse}
use Rattle.transitions.specs.Agreement.{coming_to, Agrees, PassedAlike, Running}
use Rattle.transitions.proofs.Updates.{at_task_lem}
use Rattle.transitions.proofs.Tasks.{state_is, blocked_in, not_receiving, completed_free, completed_blocked, last_is, last_some, Side, receives, side_some}
use Rattle.transitions.proofs.Tasks.{side_born, side_blocked, on_in, kind_of_lem, on_use}
use Rattle.invariant.proofs.Coming.{coming_none, agrees_born, agrees_completed, alike_agrees}

-- the net goes on by some labels, and agrees then with the rig y and with the words received
pub record Follows (m : Programs) (s : Net) (y : Reading) (received : ChannelId → List Word) : Type 0 where
  pub end : Net
  pub labels : List Label
  pub run : Run (net m) s labels end
  pub agrees : (t : TaskId) → Agrees m end y.messages t (y.tasks t)
  pub passed : PassedAlike end received y.messages

-- in the net, task t is at instruction i
pub record AtNext (m : Programs) (s : Net) (t : TaskId) (i : Instruction) : Type 0 where
  pub active : is_active m s t ≡ true
  pub next : next_of m s t ≡ i

module _ (m : Programs) (s : Net) (t : TaskId) where
  -- which label may then be taken
  pub stands_by : (k : ℕ) (c : ChannelId) {i : Instruction} → AtNext m s t i → is_use k c.0 i ≡ true → stands_at m s t k c ≡ true
  unfolding stands_at
  stands_by k c at e = and_both (is_active m s t) _ at.active (rw at.next e)

  pub own_by : {i : Instruction} → AtNext m s t i → is_transfer i ≡ false → (is_join i ≡ true → children_complete m s t ≡ true)
      → enabled m s (own t) ≡ true
  unfolding enabled is_free
  own_by {i} at alone join = and_both (is_active m s t) _ at.active (rw (at.next, alone) (go (is_join i) join))
    where
      go : (b : Bool) → (b ≡ true → children_complete m s t ≡ true) → not b || children_complete m s t ≡ true
      go true e = e refl
      go false e = refl

  -- what its own instruction changes
  pub own_completed : (effect m s (own t)).completed t ≡ suc (s.completed t)
  unfolding effect after_own
  own_completed = at_task_lem s.completed t (suc (s.completed t))

  pub own_word : (effect m s (own t)).word t ≡ word_after (next_of m s t) (s.word t)
  unfolding effect after_own
  own_word = at_task_lem s.word t (word_after (next_of m s t) (s.word t))

  pub own_overflow : (effect m s (own t)).overflow t ≡ overflow_after (next_of m s t) (s.word t) (s.overflow t)
  unfolding effect after_own
  own_overflow = at_task_lem s.overflow t (overflow_after (next_of m s t) (s.word t) (s.overflow t))

  pub own_born : (u : TaskId) → (effect m s (own t)).born u ≡ s.born u || is_use op_create u.0 (next_of m s t)
  unfolding effect after_own
  own_born u = born_after_lem (next_of m s t) s.born u

  pub own_passed : (effect m s (own t)).passed ≡ s.passed
  unfolding effect after_own
  own_passed = refl

  -- nobody is born by it
  pub own_bears_none : is_create (next_of m s t) ≡ false → (u : TaskId) → (effect m s (own t)).born u ≡ s.born u
  own_bears_none e u = own_born u ∙ rw e (or-false (s.born u))

  -- another task stays, and agrees as before
  pub own_apart : (u : TaskId) → u.0 ≢ t.0 → ((effect m s (own t)).completed u ≡ s.completed u)
      × (((effect m s (own t)).word u ≡ s.word u) × ((effect m s (own t)).overflow u ≡ s.overflow u))
  unfolding takes_part
  own_apart u ne =
      let idle = ne_eqb u.0 t.0 ne in
      (completed_stays m s (own t) u idle, (word_stays m s (own t) u idle, overflow_stays m s (own t) u idle))

  pub own_other : {ms ns : List Message} {u : TaskId} {z : Task} → u.0 ≢ t.0 → (effect m s (own t)).born u ≡ s.born u
      → coming_to (program_of m u) ns z ≡ coming_to (program_of m u) ms z → Agrees m s ms u z → Agrees m (effect m s (own t)) ns u z
  own_other {u = u} ne b e a = let (k, (v, o)) = own_apart u ne in alike_agrees a b k v o e

module _ (m : Programs) (accepted : plan_answer m ≡ Ok tt) (s : Net) (consistent : Consistent m s) where
  -- where a task is that has completed so many instructions
  at_completed : (t : TaskId) (k : ℕ) → within 1 (length m) t.0 ≡ true → s.born t ≡ true → s.completed t ≡ k → k < length (program_of m t)
      → AtNext m s t (instruction_at (program_of m t) k)
  unfolding is_active is_complete
  at_completed t k n b e l =
      let active : is_active m s t ≡ true =
      and_both (s.born t) _ b (rw (program_some m t (within_low 1 (length m) t.0 n), e, lt-ltb k (length (program_of m t)) l) refl) in
      record { active = active; next = next_is m accepted s t active ∙ rw e refl }

  -- who is done is complete
  pub done_complete : {ms : List Message} {t : TaskId} {z : Task} → Agrees m s ms t z → is_in Done z ≡ true → is_complete m s t ≡ true
  unfolding is_complete
  done_complete {ms} {t} {z} a e =
      let f = blocked_in z Done e in
      let n = is_true (within 1 (length m) t.0) (λ o. tests_differ (agrees_born a (state_is Done Unborn z e)) (consistent.nobody t o)) in
      let k = agrees_completed a (coming_none (program_of m t) z ms (not_receiving z f)) ∙ completed_free z f in
      rw (program_some m t (within_low 1 (length m) t.0 n), le-ltb (s.completed t) (length (program_of m t)) (omega (arith, a.done e))) refl

  module _ {h : Histories} {x : Reading} {w : ChannelId → List Word} (run : Running m h s x w) (t : TaskId) where
    -- who is born is one of the plan's tasks
    pub born_within : is_in Unborn (x.tasks t) ≡ false → within 1 (length m) t.0 ≡ true
    born_within e = is_true (within 1 (length m) t.0) (λ f. tests_differ (agrees_born (run.agrees t) e) (consistent.nobody t f))

    -- a ready task is at the same instruction in the net
    pub ready_next : is_in Ready (x.tasks t) ≡ true → 1 ≤ (x.tasks t).pc → (x.tasks t).pc ≤ length (program_of m t)
        → AtNext m s t (next_in (program_of m t) (x.tasks t))
    unfolding next_in
    ready_next r low high =
        let z = x.tasks t in
        let f = blocked_in z Ready r in
        let b = state_is Ready Unborn z r in
        let k = agrees_completed (run.agrees t) (coming_none (program_of m t) z x.messages (not_receiving z f)) ∙ completed_free z f in
        at_completed t (z.pc - 1) (born_within b) (agrees_born (run.agrees t) b) k (omega arith)

    -- a blocked one, with nothing on its way, is at the one that it has executed last
    pub blocked_next : is_blocked (x.tasks t) ≡ true → is_in Unborn (x.tasks t) ≡ false → 1 ≤ (last_in (program_of m t) (x.tasks t)).opcode
        → coming_to (program_of m t) x.messages (x.tasks t) ≡ [] → AtNext m s t (last_in (program_of m t) (x.tasks t))
    blocked_next f b ne e =
        let z = x.tasks t in
        let n = born_within b in
        let l = last_some (program_of m t) z ne in
        let k = agrees_completed (run.agrees t) e ∙ completed_blocked z f in
        let few = place_few x.processors (length m) (program_of m t) z (run.tasks t n) in
        rw (last_is (program_of m t) z l) (at_completed t (z.pc - 2) n (agrees_born (run.agrees t) b) k (omega arith))

    pub stands_use : (k : ℕ) (c : ChannelId) → AtUse (program_of m t) k c (x.tasks t) → stands_at m s t k c ≡ true
    stands_use k c u = stands_by m s t k c (ready_next u.ready u.low u.high) u.next

    -- who sends or receives has executed last an instruction of that kind
    pub last_kind_lem : {k : ℕ} {u : TaskState} → Side k u → is_in u (x.tasks t) ≡ true → (last_in (program_of m t) (x.tasks t)).opcode ≡ k
    last_kind_lem side e =
        kind_of_lem side x.processors (length m) (program_of m t) (x.tasks t) (run.tasks t (born_within (side_born side (x.tasks t) e))) e

    pub side_next : {k : ℕ} {u : TaskState} → Side k u → is_in u (x.tasks t) ≡ true → coming_to (program_of m t) x.messages (x.tasks t) ≡ []
        → AtNext m s t (last_in (program_of m t) (x.tasks t))
    side_next side e none =
        let z = x.tasks t in
        blocked_next (side_blocked side z e) (side_born side z e) (omega (arith, last_kind_lem side e, side_some side)) none

    pub stands_on : {k : ℕ} {u : TaskState} → Side k u → (c : ChannelId) → is_on u (program_of m t) c (x.tasks t) ≡ true
        → coming_to (program_of m t) x.messages (x.tasks t) ≡ [] → stands_at m s t k c ≡ true
    stands_on {k} side c o none =
        let z = x.tasks t in
        let e = on_in side (program_of m t) c z o in
        stands_by m s t k c (side_next side e none) (on_use side (program_of m t) c z o (last_kind_lem side e))

    -- a waiting one is at its sync
    pub waiting_next : is_in Waiting (x.tasks t) ≡ true → AtNext m s t (last_in (program_of m t) (x.tasks t))
    waiting_next e =
        let z = x.tasks t in
        let none = coming_none (program_of m t) z x.messages (state_is Waiting Receiving z e) in
        blocked_next (blocked_in z Waiting e) (state_is Waiting Unborn z e) (omega (arith, (run.agrees t).sync e)) none

    -- who receives on a channel is its receiver
    pub receives_there : (c : ChannelId) → is_on Receiving (program_of m t) c (x.tasks t) ≡ true → receiver_of m c ≡ t
    receives_there c o =
        let z = x.tasks t in
        let g = program_of m t in
        let e = on_in receives g c z o in
        let n = born_within (side_born receives z e) in
        let low = within_low 1 (length m) t.0 n in
        let high = within_high 1 (length m) t.0 n in
        let kind = last_kind_lem receives e in
        let l = last_some g z (omega arith) in
        let few = place_few x.processors (length m) g z (run.tasks t n) in
        let here = rw (last_is g z l) at (on_use receives g c z o kind) in
        receives_on_lem m accepted c.0 (t.0 - 1) (z.pc - 2) (omega arith) (omega arith) here ∙ ap task_id (omega arith)
