-- A change of tasks that no channel's view sees.
use mathlib.Core.Path.{◌≡◌, refl, sym, ap, ◌∙◌}
use mathlib.Core.Bool.{Bool, true, false, ◌&&◌}
use Prim.Native.Nat.{ℕ, suc, ◌+◌, ◌-◌, ◌≤◌}
use native.Mathlib.Omega.{arith}
use lib.Dec.{eqb}
use Rattle.base.specs.Sets.{removed}
use Rattle.base.proofs.Choices.{pick_cases}
use Rattle.base.proofs.Tests.{and_left, or_neither}
use Rattle.plan.specs.declared.TaskId.{TaskId}
use Rattle.plan.specs.declared.ChannelId.{ChannelId}
use Rattle.plan.specs.declared.Word.{Word}
use Rattle.plan.specs.Kinds.{op_sync, op_send, op_receive}
use Rattle.plan.specs.Programs.{Program, Programs, instruction_at}
use Rattle.plan.specs.Users.{sender_of, receiver_of}
use Rattle.rules.specs.declared.task.TaskState.{TaskState}
use Rattle.rules.specs.declared.task.TaskState.TheVariants.{Ready, Waiting, Sending, Receiving}
use Rattle.rules.specs.declared.task.Task.{Task}
use Rattle.rules.specs.Tasks.{state_number, is_in, with_state, with_word, with_overflow, with_children, advanced, readied, is_childless, woken, without_child}
use Rattle.rules.specs.Places.{next_in, last_in, is_on}
use Rattle.net.specs.States.{at_task}
use Rattle.net.specs.Labels.{is_transfer}
use Rattle.transitions.specs.Readings.{Reading}
use Rattle.transitions.specs.Progress.{program_of, completed_by, use_number}
use Rattle.transitions.specs.Messages.{messages_on}
use Rattle.transitions.specs.Views.{Histories, sender_view, receiver_view, view_of}
use Rattle.transitions.specs.Transitions.{Unseen, finished}
use Rattle.transitions.proofs.Updates.{at_elim}
use Rattle.transitions.proofs.Tasks.{state_is, blocked_in, completed_blocked, completed_ready, next_completed, last_is, last_some, off_in}
use Rattle.transitions.proofs.EndSteps.{use_more}

-- two records of a task with program g that no channel tells apart
pub record SeenAlike (g : Program) (x y : Task) : Type 0 where
  pub sender : (c : ChannelId) → sender_view g c y ≡ sender_view g c x
  pub receiver : (c : ChannelId) (history : ℕ → ℕ) → receiver_view g c history y ≡ receiver_view g c history x

-- a task that neither sends nor receives
record Idle (x : Task) : Type 0 where
  sends : is_in Sending x ≡ false
  receives : is_in Receiving x ≡ false

idle_in : (s : TaskState) (x : Task) → is_in s x ≡ true → eqb (state_number s) 3 ≡ false → eqb (state_number s) 4 ≡ false → Idle x
idle_in s x e p q = record { sends = state_is s Sending x e ∙ p; receives = state_is s Receiving x e ∙ q }

idle_ready : (x : Task) → is_in Ready x ≡ true → Idle x
idle_ready x e = idle_in Ready x e refl refl

idle_waiting : (x : Task) → is_in Waiting x ≡ true → Idle x
idle_waiting x e = idle_in Waiting x e refl refl

completed_waiting : (x : Task) → is_in Waiting x ≡ true → completed_by x ≡ x.pc - 2
completed_waiting x e = completed_blocked x (blocked_in x Waiting e)

module _ (g : Program) where
  -- an instruction of another kind is no use of a channel
  no_use : (k : ℕ) (c : ChannelId) (n : ℕ) → eqb (instruction_at g n).opcode k ≡ false → use_number k g c (suc n) ≡ use_number k g c n
  no_use k c n e = rw (use_more k g c n, e) (omega arith)

  pub alike_same : (x : Task) → SeenAlike g x x
  alike_same x = record { sender = λ c. refl; receiver = λ c history. refl }

  pub alike_then : (x y z : Task) → SeenAlike g x y → SeenAlike g y z → SeenAlike g x z
  alike_then x y z p q = record { sender = λ c. q.sender c ∙ p.sender c; receiver = λ c history. q.receiver c history ∙ p.receiver c history }

  -- an idle task that stays idle, at one desk with one move count
  module _ (x y : Task) (processor : y.processor ≡ x.processor) (moves : y.moves ≡ x.moves) (before : Idle x) (after : Idle y) where
    -- it has completed as many sends and receives
    alike : ((c : ChannelId) → use_number op_send g c (completed_by y) ≡ use_number op_send g c (completed_by x))
        → ((c : ChannelId) → use_number op_receive g c (completed_by y) ≡ use_number op_receive g c (completed_by x))
        → SeenAlike g x y
    unfolding sender_view receiver_view
    alike sent received =
        record {
          sender = λ c. rw (sent c, off_in Sending g c y after.sends, off_in Sending g c x before.sends, processor) refl;
          receiver =
              λ c history. rw (received c, off_in Receiving g c y after.receives, off_in Receiving g c x before.receives, processor, moves) refl;
        }

    -- it has completed nothing
    alike_level : completed_by y ≡ completed_by x → SeenAlike g x y
    alike_level e = alike (λ c. rw e refl) (λ c. rw e refl)

    -- it has completed one instruction that is neither send nor receive
    alike_further : completed_by y ≡ suc (completed_by x) → is_transfer (instruction_at g (completed_by x)) ≡ false → SeenAlike g x y
    alike_further e i =
        let k = (instruction_at g (completed_by x)).opcode in
        let (no-send, no-receive) = or_neither (eqb k op_send) (eqb k op_receive) i in
        alike (λ c. rw (e, no_use op_send c (completed_by x) no-send) refl) (λ c. rw (e, no_use op_receive c (completed_by x) no-receive) refl)

  -- a ready task at an instruction that is neither send nor receive
  module _ (x : Task) (ready : is_in Ready x ≡ true) (low : 1 ≤ x.pc) where
    one_more_lem : x.pc + 1 - 1 ≡ suc (completed_by x)
    one_more_lem = rw (completed_ready x ready) (omega arith)

    here : is_transfer (next_in g x) ≡ false → is_transfer (instruction_at g (completed_by x)) ≡ false
    here i = rw (← next_completed g x ready) i

    -- goes on, is done, or waits
    pub alike_on : is_transfer (next_in g x) ≡ false → (w : Word) (b : Bool) → SeenAlike g x (advanced (with_overflow (with_word x w) b))
    alike_on i w b =
        let y = advanced (with_overflow (with_word x w) b) in
        alike_further x y refl refl (idle_ready x ready) (idle_ready y ready) (completed_ready y ready ∙ one_more_lem) (here i)

    pub alike_done : is_transfer (next_in g x) ≡ false → SeenAlike g x (finished x)
    unfolding completed_by
    alike_done i = alike_further x (finished x) refl refl (idle_ready x ready) (record { sends = refl; receives = refl }) one_more_lem (here i)

    pub alike_waits : SeenAlike g x (advanced (with_state x Waiting))
    alike_waits =
        let y = advanced (with_state x Waiting) in
        let e : x.pc + 1 - 2 ≡ x.pc - 1 = omega arith in
        alike_level x y refl refl (idle_ready x ready) (idle_waiting y refl) (completed_waiting y refl ∙ e ∙ sym (completed_ready x ready))

  -- a task that waits at a sync is ready
  module _ (x : Task) (waiting : is_in Waiting x ≡ true) (sync : (last_in g x).opcode ≡ op_sync) where
    alike_ready : SeenAlike g x (readied x)
    alike_ready =
        let y = readied x in
        let low = last_some g x (omega arith) in
        let kind : (instruction_at g (x.pc - 2)).opcode ≡ op_sync = rw (last_is g x low) at sync in
        let e : x.pc - 1 ≡ suc (x.pc - 2) = omega arith in
        let c = completed_waiting x waiting in
        alike_further x y refl refl (idle_waiting x waiting) (idle_ready y refl) (completed_ready y refl ∙ e ∙ ap suc (sym c)) (rw (c, kind) refl)

  -- a task loses a child
  module _ (x : Task) (sync : is_in Waiting x ≡ true → (last_in g x).opcode ≡ op_sync) where
    other_children : (n : ℕ) → SeenAlike g x (with_children x n)
    unfolding sender_view receiver_view is_on last_in completed_by
    other_children n = record { sender = λ c. refl; receiver = λ c history. refl }

    pub alike_without : (t : TaskId) → SeenAlike g x (without_child x t)
    unfolding woken last_in
    alike_without t =
        let z = with_children x (removed t.0 x.children) in
        let fewer = other_children (removed t.0 x.children) in
        pick_cases (SeenAlike g x) (is_in Waiting z && is_childless z) (readied z) z
        (λ e.
        let w = and_left (is_in Waiting z) (is_childless z) e in
        alike_then x z (readied z) fewer (alike_ready z w (sync w)))
        (λ e. fewer)

-- a task changes
pub alike_at : (m : Programs) (tasks : TaskId → Task) (t : TaskId) (y : Task) → SeenAlike (program_of m t) (tasks t) y
    → (u : TaskId) → SeenAlike (program_of m u) (tasks u) (at_task tasks t y u)
alike_at m tasks t y p = at_elim (λ u z. SeenAlike (program_of m u) (tasks u) z) tasks t y p (λ u ne. alike_same (program_of m u) (tasks u))

-- no channel sees that tasks change
module _ (m : Programs) (h : Histories) where
  pub unseen_of : (x y : Reading) → y.processors ≡ x.processors → y.entries ≡ x.entries → y.channels ≡ x.channels
      → ((c : ChannelId) → messages_on c y.messages ≡ messages_on c x.messages)
      → ((t : TaskId) → SeenAlike (program_of m t) (x.tasks t) (y.tasks t))
      → Unseen m h x y
  unfolding view_of
  unseen_of x y processors entries channels messages tasks =
      record {
        processors = processors;
        views =
            λ c low high.
            let sender = (tasks (sender_of m c)).sender c in
            let receiver = (tasks (receiver_of m c)).receiver c (h (receiver_of m c)) in
            rw (processors, entries, channels, messages c, sender, receiver) refl;
      }
