-- Laws of one task's record: its state, what it has completed and executed last, what 9 asks of it, and what a transfer leaves alone.
use mathlib.Core.Path.{◌≡◌, refl, sym, ap, ◌∙◌}
use mathlib.Core.Bool.{Bool, true, false, not, ◌||◌}
use mathlib.Core.Logic.{◌≢◌, by_cases}
use Prim.Native.Nat.{ℕ, ◌+◌, ◌-◌, ◌≤◌, ◌<◌, ◌^◌}
use native.Mathlib.Decide.{ℕ_discrete}
use native.Mathlib.Omega.{arith, by_contra}
use lib.Dec.{eqb, ltb}
use lib.ListN.{length}
use borrow.Author.Tests.{eqb-true, eq-eqb, ne_eqb, lt-ltb, le-ltb, ltb-true}
use Rattle.base.specs.Choice.{pick}
use Rattle.base.specs.Lists.{every}
use Rattle.base.proofs.Tests.{and_left, and_right, and_both, and_false, or_neither, within_both, tests_differ}
use Rattle.base.proofs.Choices.{pick_either}
use Rattle.plan.specs.declared.TaskId.{TaskId}
use Rattle.plan.specs.declared.ChannelId.{ChannelId}
use Rattle.plan.specs.declared.Word.{Word}
use Rattle.plan.specs.Numbers.{task_id}
use Rattle.plan.specs.Kinds.{op_send, op_receive, is_use, no_instruction}
use Rattle.plan.specs.Words.{word_numbers}
use Rattle.plan.specs.Programs.{Program, Programs, instruction_at}
use Rattle.rules.specs.declared.task.TaskState.{TaskState}
use Rattle.rules.specs.declared.task.TaskState.TheVariants.{Unborn, Ready, Waiting, Sending, Receiving, Moving, Done}
use Rattle.rules.specs.declared.task.Task.{Task}
use Rattle.rules.specs.Numbers.{is_none}
use Rattle.rules.specs.Tasks.{state_number, is_in, no_task, with_state, with_pc, with_word}
use Rattle.rules.specs.Places.{next_in, last_in, is_on}
use Rattle.rules.specs.Sound.{unborn_ok, born_ok, task_ok}
use Rattle.rules_sound.proofs.Born.{born_passed}
use Rattle.transitions.specs.Readings.{Reading}
use Rattle.transitions.specs.Progress.{is_blocked, program_of, completed_by}
use Rattle.transitions.specs.Agreement.{TasksOk}

-- States and what is completed.

-- states of one number are one
state_of : ℕ → TaskState
state_of k =
    pick (eqb k 0) Unborn
    (pick (eqb k 1) Ready (pick (eqb k 2) Waiting (pick (eqb k 3) Sending (pick (eqb k 4) Receiving (pick (eqb k 5) Moving Done)))))

state_of_lem : (u : TaskState) → state_of (state_number u) ≡ u
unfolding state_of
state_of_lem Unborn = refl
state_of_lem Ready = refl
state_of_lem Waiting = refl
state_of_lem Sending = refl
state_of_lem Receiving = refl
state_of_lem Moving = refl
state_of_lem Done = refl

pub same_state : (u v : TaskState) → state_number u ≡ state_number v → u ≡ v
same_state u v e = sym (state_of_lem u) ∙ ap state_of e ∙ state_of_lem v

-- a state says which other state the task is in, and whether it is blocked
pub state_is : (s z : TaskState) (x : Task) → is_in s x ≡ true → is_in z x ≡ eqb (state_number s) (state_number z)
state_is s z x e = rw (eqb-true (state_number x.state) (state_number s) e) refl

module _ (x : Task) where
  pub blocked_in : (s : TaskState) → is_in s x ≡ true → is_blocked x ≡ is_blocked (with_state x s)
  blocked_in s e = rw (eqb-true (state_number x.state) (state_number s) e) refl

  -- one that is not blocked does not wait, send or receive
  pub not_waiting : is_blocked x ≡ false → is_in Waiting x ≡ false
  not_waiting e = (or_neither (is_in Waiting x) _ e).0

  pub not_sending : is_blocked x ≡ false → is_in Sending x ≡ false
  not_sending e = (or_neither (is_in Sending x) (is_in Receiving x) (or_neither (is_in Waiting x) _ e).1).0

  pub not_receiving : is_blocked x ≡ false → is_in Receiving x ≡ false
  not_receiving e = (or_neither (is_in Sending x) (is_in Receiving x) (or_neither (is_in Waiting x) _ e).1).1

  pub completed_free : is_blocked x ≡ false → completed_by x ≡ x.pc - 1
  unfolding completed_by
  completed_free e = rw e refl

  pub completed_blocked : is_blocked x ≡ true → completed_by x ≡ x.pc - 2
  unfolding completed_by
  completed_blocked e = rw e refl

  pub completed_ready : is_in Ready x ≡ true → completed_by x ≡ x.pc - 1
  completed_ready e = completed_free (blocked_in Ready e)

pub completed_most : (z : Task) → completed_by z ≤ z.pc - 1
unfolding completed_by
completed_most z = pick_either (λ k. k ≤ z.pc - 1) (is_blocked z) (z.pc - 2) (z.pc - 1) (omega arith) (omega arith)

-- The instruction that is next, and the one that was executed last.
module _ (g : Program) (x : Task) where
  pub last_is : 1 < x.pc → last_in g x ≡ instruction_at g (x.pc - 2)
  unfolding last_in
  last_is l = rw (lt-ltb 1 x.pc l) refl

  -- one that has a kind was executed
  pub last_some : 1 ≤ (last_in g x).opcode → 1 < x.pc
  unfolding last_in
  last_some l = go (ltb 1 x.pc) refl l
    where
      go : (b : Bool) → ltb 1 x.pc ≡ b → 1 ≤ (pick b (instruction_at g (x.pc - 2)) no_instruction).opcode → 1 < x.pc
      go true e l = ltb-true 1 x.pc e
      go false e l = absurd (omega arith)

  -- what was next is then the last executed
  pub last_after : (y : Task) → 1 ≤ x.pc → y.pc ≡ x.pc + 1 → last_in g y ≡ next_in g x
  unfolding last_in next_in
  last_after y low e =
      let place : x.pc + 1 - 2 ≡ x.pc - 1 = omega arith in
      rw (e, lt-ltb 1 (x.pc + 1) (omega arith), place) refl

  -- the one that it completes next: its next one, or the one in which it is blocked
  pub next_completed : is_in Ready x ≡ true → next_in g x ≡ instruction_at g (completed_by x)
  unfolding next_in
  next_completed e = rw (completed_ready x e) refl

  pub last_completed : 1 < x.pc → is_blocked x ≡ true → last_in g x ≡ instruction_at g (completed_by x)
  last_completed l e = rw (completed_blocked x e) (last_is l)

-- An unborn task that 9 does not refuse.
pub record IsUnborn (x : Task) : Type 0 where
  pub nowhere : x.processor.0 ≡ 0
  pub place : x.pc ≡ 1
  pub unmoved : x.moves ≡ 0

pub unborn_is : (n m : ℕ) (g : Program) (x : Task) → task_ok n m g x ≡ true → is_in Unborn x ≡ true → IsUnborn x
unfolding task_ok unborn_ok
unborn_is n m g x h e =
    let all : unborn_ok x ≡ true = rw e at (and_right (ltb x.children (2 ^ m)) (pick (is_in Unborn x) (unborn_ok x) (born_ok n g x)) h) in
    let rest = and_right (is_none x.processor) _ all in
    let end = and_right (not x.overflow) _ (and_right (every (eqb 0) (word_numbers x.word)) _ (and_right (eqb x.pc 1) _ rest)) in
    record {
      nowhere = eqb-true x.processor.0 0 (and_left (is_none x.processor) _ all);
      place = eqb-true x.pc 1 (and_left (eqb x.pc 1) _ rest);
      unmoved = eqb-true x.moves 0 end;
    }

-- a ready task and an unborn one are two
pub unborn_apart : (tasks : TaskId → Task) (t u : TaskId) → is_in Ready (tasks t) ≡ true → is_in Unborn (tasks u) ≡ true → u.0 ≢ t.0
unborn_apart tasks t u ready unborn e =
    let same : u ≡ t = ap task_id e in
    tests_differ (rw same at unborn) (state_is Ready Unborn (tasks t) ready)

-- Transfers.

-- a kind of transfer, and the state of who waits in it
pub data Side : ℕ → TaskState → Type 0 where
  sends : Side op_send Sending
  receives : Side op_receive Receiving

pub side_some : {k : ℕ} {s : TaskState} → Side k s → 1 ≤ k
side_some sends = omega arith
side_some receives = omega arith

-- who sends or receives is born and blocked, and a ready task does neither
pub side_born : {k : ℕ} {s : TaskState} → Side k s → (x : Task) → is_in s x ≡ true → is_in Unborn x ≡ false
side_born sends x e = state_is Sending Unborn x e
side_born receives x e = state_is Receiving Unborn x e

pub side_blocked : {k : ℕ} {s : TaskState} → Side k s → (x : Task) → is_in s x ≡ true → is_blocked x ≡ true
side_blocked sends x e = blocked_in x Sending e
side_blocked receives x e = blocked_in x Receiving e

ready_apart : {k : ℕ} {s : TaskState} → Side k s → (x : Task) → is_in Ready x ≡ true → is_in s x ≡ false
ready_apart sends x e = state_is Ready Sending x e
ready_apart receives x e = state_is Ready Receiving x e

pub completed_on : {k : ℕ} {s : TaskState} → Side k s → (x : Task) → is_in s x ≡ true → completed_by x ≡ x.pc - 2
completed_on side x e = completed_blocked x (side_blocked side x e)

-- one that sends or receives on channel c
module _ {k : ℕ} {s : TaskState} (side : Side k s) (g : Program) (c : ChannelId) (x : Task) where
  pub on_in : is_on s g c x ≡ true → is_in s x ≡ true
  unfolding is_on
  on_in e = and_left (is_in s x) _ e

  pub on_operand : is_on s g c x ≡ true → (last_in g x).operand ≡ c.0
  unfolding is_on
  on_operand e = eqb-true (last_in g x).operand c.0 (and_right (is_in s x) _ e)

  pub on_use : is_on s g c x ≡ true → (last_in g x).opcode ≡ k → is_use k c.0 (last_in g x) ≡ true
  on_use e kind = and_both _ _ (eq-eqb (last_in g x).opcode k kind) (eq-eqb (last_in g x).operand c.0 (on_operand e))

  -- it has executed an instruction
  pub on_place : 1 ≤ c.0 → is_on s g c x ≡ true → 2 ≤ x.pc
  unfolding last_in
  on_place low e =
      by_contra 2 x.pc (λ (h : x.pc < 2).
      let none : (last_in g x).operand ≡ 0 = rw (le-ltb 1 x.pc (omega arith)) refl in
      omega (arith, on_operand e))

  pub ready_off : is_in Ready x ≡ true → is_on s g c x ≡ false
  unfolding is_on
  ready_off e = rw (ready_apart side x e) refl

pub off_in : (s : TaskState) (g : Program) (c : ChannelId) (x : Task) → is_in s x ≡ false → is_on s g c x ≡ false
unfolding is_on
off_in s g c x e = rw e refl

pub off_operand : (s : TaskState) (g : Program) (d : ChannelId) (x : Task) → (last_in g x).operand ≢ d.0 → is_on s g d x ≡ false
unfolding is_on
off_operand s g d x ne = rw (ne_eqb (last_in g x).operand d.0 ne) (and_false (is_in s x))

-- the kind of the instruction in which it is blocked, where 9 does not refuse it
pub kind_of_lem : {k : ℕ} {s : TaskState} → Side k s → (n m : ℕ) (g : Program) (x : Task) → task_ok n m g x ≡ true → is_in s x ≡ true
    → (last_in g x).opcode ≡ k
kind_of_lem sends n m g x ok e =
    let last : not (is_in Sending x) || eqb (last_in g x).opcode op_send ≡ true =
    and_left _ _ (born_passed n m g x ok (side_born sends x e)).last in
    eqb-true _ op_send (rw e at last)
kind_of_lem receives n m g x ok e =
    let last : not (is_in Receiving x) || eqb (last_in g x).opcode op_receive ≡ true =
    and_right (not (is_in Sending x) || eqb (last_in g x).opcode op_send) _ (born_passed n m g x ok (side_born receives x e)).last in
    eqb-true _ op_receive (rw e at last)

-- .. and it is one of the tasks, where task 0 is none
none_waits : {k : ℕ} {s : TaskState} → Side k s → is_in s no_task ≡ true → ⊥
none_waits sends e = tests_differ e refl
none_waits receives e = tests_differ e refl

pub waits_in : (m : Programs) (x : Reading) → x.tasks (task_id 0) ≡ no_task → TasksOk m x → {k : ℕ} {s : TaskState} → Side k s
    → (t : TaskId) → t.0 ≤ length m → is_in s (x.tasks t) ≡ true → (1 ≤ t.0) × ((last_in (program_of m t) (x.tasks t)).opcode ≡ k)
waits_in m x none tasks side t high e =
    by_cases (ℕ_discrete t.0 0)
    (λ (z : t.0 ≡ 0). let same : t ≡ task_id 0 = ap task_id z in absurd (none_waits side (rw (same, none) at e)))
    (λ ne.
    let number = within_both 1 (length m) t.0 (omega arith) high in
    (omega arith, kind_of_lem side x.processors (length m) (program_of m t) (x.tasks t) (tasks t number) e))

-- What no transfer changes.
pub record Steady (x z : Task) : Type 0 where
  pub processor : z.processor ≡ x.processor
  pub origin : z.origin ≡ x.origin
  pub moves : z.moves ≡ x.moves
  pub children : z.children ≡ x.children
  pub unborn : is_in Unborn z ≡ is_in Unborn x
  pub moving : is_in Moving z ≡ is_in Moving x
  pub done : is_in Done z ≡ is_in Done x

pub unchanged : (x : Task) → Steady x x
unchanged x = record { processor = refl; origin = refl; moves = refl; children = refl; unborn = refl; moving = refl; done = refl }

-- a state that is neither unborn, moving nor done
pub record Stands (s : TaskState) : Type 0 where
  unborn : eqb (state_number s) (state_number Unborn) ≡ false
  moving : eqb (state_number s) (state_number Moving) ≡ false
  done : eqb (state_number s) (state_number Done) ≡ false

pub ready_stands : Stands Ready
ready_stands = record { unborn = refl; moving = refl; done = refl }

pub waiting_stands : Stands Waiting
waiting_stands = record { unborn = refl; moving = refl; done = refl }

pub side_stands : {k : ℕ} {s : TaskState} → Side k s → Stands s
side_stands sends = record { unborn = refl; moving = refl; done = refl }
side_stands receives = record { unborn = refl; moving = refl; done = refl }

-- from such a state to such a state, with another place and word
pub steady_change : {s z : TaskState} → Stands s → Stands z → (x : Task) → is_in s x ≡ true → (n : ℕ) (w : Word)
    → Steady x (with_word (with_pc (with_state x z) n) w)
steady_change {s} {z} p q x e n w =
    record {
      processor = refl;
      origin = refl;
      moves = refl;
      children = refl;
      unborn = q.unborn ∙ sym (state_is s Unborn x e ∙ p.unborn);
      moving = q.moving ∙ sym (state_is s Moving x e ∙ p.moving);
      done = q.done ∙ sym (state_is s Done x e ∙ p.done);
    }
