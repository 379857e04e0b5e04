-- What a turn does to its task: what stays, how many instructions are completed, and what the views of its own and of other channels read of it.
use mathlib.Core.Path.{◌≡◌, refl, sym, ap, ◌∙◌}
use mathlib.Core.Bool.{true, false}
use mathlib.Core.Logic.{◌≢◌, ◌⊎◌, inl, inr, ⊎_elim}
use Prim.Native.Nat.{ℕ, suc, ◌+◌, ◌-◌, ◌≤◌}
use native.Mathlib.Omega.{arith}
use lib.Dec.{eqb}
use borrow.Author.Tests.{eqb-true, eq-eqb, ne_eqb}
use Rattle.base.specs.Range.{fold}
use Rattle.base.proofs.Tests.{and_right, and_both, and_false}
use Rattle.plan.specs.declared.ChannelId.{ChannelId}
use Rattle.plan.specs.declared.Instruction.{Instruction}
use Rattle.plan.specs.declared.Word.{Word}
use Rattle.plan.specs.Kinds.{op_send, op_receive, is_use}
use Rattle.plan.specs.Programs.{Program, instruction_at}
use Rattle.rules.specs.declared.task.TaskState.{TaskState}
use Rattle.rules.specs.declared.task.TaskState.TheVariants.{Ready, Sending, Receiving}
use Rattle.rules.specs.declared.task.Task.{Task}
use Rattle.rules.specs.Tasks.{state_number, is_in, with_state, with_word, advanced, readied}
use Rattle.rules.specs.Places.{next_in, last_in, is_on, send_number}
use Rattle.transitions.specs.Progress.{flag, completed_by, use_number}
use Rattle.transitions.specs.Views.{sender_view, receiver_view}
use Rattle.transitions.specs.EndSteps.{AtUse, EndStep, stays, begins, passes, ends}
use Rattle.transitions.proofs.Tasks.{last_after, completed_ready, next_completed, last_completed, Side, sends, receives, side_blocked, completed_on}
use Rattle.transitions.proofs.Tasks.{on_in, on_operand, on_use, on_place, ready_off, off_operand, Steady, unchanged, steady_change, ready_stands}
use Rattle.transitions.proofs.Tasks.{side_stands}

-- uses among one instruction more, and the number of a send
pub use_more : (k : ℕ) (g : Program) (c : ChannelId) (n : ℕ) → use_number k g c (suc n) ≡ use_number k g c n + flag (is_use k c.0 (instruction_at g n))
unfolding use_number fold
use_more k g c n = refl

send_uses : (g : Program) (c : ChannelId) (n : ℕ) → send_number g c n ≡ use_number op_send g c n
unfolding use_number send_number
send_uses g c n = refl

-- a task about to send or receive on channel c
module _ {k : ℕ} {s : TaskState} (side : Side k s) (g : Program) (c : ChannelId) (x : Task) where
  pub begins_on : AtUse g k c x → is_on s g c (advanced (with_state x s)) ≡ true
  unfolding is_on
  begins_on a =
      let after = last_after g x (advanced (with_state x s)) a.low refl in
      let operand = eqb-true (next_in g x).operand c.0 (and_right (eqb (next_in g x).opcode k) _ a.next) in
      and_both _ _ (eq-eqb (state_number s) (state_number s) refl) (eq-eqb _ c.0 (ap (λ (i : Instruction). i.operand) after ∙ operand))

next_operand : (g : Program) (k : ℕ) (c : ChannelId) (x : Task) → is_use k c.0 (next_in g x) ≡ true → (next_in g x).operand ≡ c.0
next_operand g k c x e = eqb-true (next_in g x).operand c.0 (and_right (eqb (next_in g x).opcode k) _ e)

begun : (x : Task) (s : TaskState) → is_in s (with_state x s) ≡ true
begun x s = eq-eqb (state_number s) (state_number s) refl

module _ {k : ℕ} {s : TaskState} (side : Side k s) {g : Program} {c : ChannelId} {x : Task} where
  pub end_step_steady : {n : ℕ} {w : Word} {y : Task} → EndStep g k s c x n w y → Steady x y
  end_step_steady stays = unchanged x
  end_step_steady (begins a) = steady_change ready_stands (side_stands side) x a.ready (x.pc + 1) x.word
  end_step_steady (passes w a) = steady_change ready_stands ready_stands x a.ready (x.pc + 1) w
  end_step_steady (ends w o) = steady_change (side_stands side) ready_stands x (on_in side g c x o) x.pc w

  pub end_step_completed : 1 ≤ c.0 → {n : ℕ} {w : Word} {y : Task} → EndStep g k s c x n w y → completed_by y ≡ completed_by x + n
  end_step_completed low stays = omega arith
  end_step_completed low (begins a) =
      let l = a.low in
      omega (arith, completed_ready x a.ready, completed_on side (advanced (with_state x s)) (begun x s))
  end_step_completed low (passes w a) =
      let l = a.low in
      omega (arith, completed_ready x a.ready, completed_ready (advanced (with_word (readied x) w)) refl)
  end_step_completed low (ends w o) =
      omega (arith, on_place side g c x low o, completed_on side x (on_in side g c x o), completed_ready (with_word (readied x) w) refl)

  -- it is on no other channel, and uses none
  other_on : {k' : ℕ} {s' : TaskState} → Side k' s' → (d : ChannelId) → d.0 ≢ c.0 → {n : ℕ} {w : Word} {y : Task} → EndStep g k s c x n w y
      → is_on s' g d y ≡ is_on s' g d x
  other_on side' d ne stays = refl
  other_on {k'} {s'} side' d ne (begins a) =
      let y = advanced (with_state x s) in
      let operand = ap (λ (i : Instruction). i.operand) (last_after g x y a.low refl) ∙ next_operand g k c x a.next in
      off_operand s' g d y (λ e. ne (sym e ∙ operand)) ∙ sym (ready_off side' g d x a.ready)
  other_on side' d ne (passes w a) = ready_off side' g d (advanced (with_word (readied x) w)) refl ∙ sym (ready_off side' g d x a.ready)
  other_on {k'} {s'} side' d ne (ends w o) =
      ready_off side' g d (with_word (readied x) w) refl ∙ sym (off_operand s' g d x (λ e. ne (sym e ∙ on_operand side g c x o)))

  -- what it completes is an instruction on the channel
  completes : 1 ≤ c.0 → {n : ℕ} {w : Word} {y : Task} → EndStep g k s c x n w y
      → (n ≡ 0) ⊎ ((n ≡ 1) × ((instruction_at g (completed_by x)).operand ≡ c.0))
  completes low stays = inl refl
  completes low (begins a) = inl refl
  completes low (passes w a) = inr (refl, rw (← next_completed g x a.ready) (next_operand g k c x a.next))
  completes low (ends w o) =
      inr (refl, rw (← last_completed g x (on_place side g c x low o) (side_blocked side x (on_in side g c x o))) (on_operand side g c x o))

  other_uses : 1 ≤ c.0 → (k' : ℕ) (d : ChannelId) → d.0 ≢ c.0 → {n : ℕ} {w : Word} {y : Task} → EndStep g k s c x n w y
      → use_number k' g d (completed_by y) ≡ use_number k' g d (completed_by x)
  other_uses low k' d ne {n} {w} {y} t =
      ⊎_elim
      (λ (e : n ≡ 0). ap (use_number k' g d) (omega (arith, end_step_completed low t)))
      (λ q.
      let (e, operand) = q in
      let i = instruction_at g (completed_by x) in
      let more : completed_by y ≡ suc (completed_by x) = omega (arith, end_step_completed low t) in
      let unused : is_use k' d.0 i ≡ false = rw (ne_eqb i.operand d.0 (λ z. ne (sym z ∙ operand))) (and_false (eqb i.opcode k')) in
      rw (more, use_more k' g d (completed_by x), unused) (omega arith))
      (completes low t)

  -- on another channel it is seen as before, at either end
  module _ (low : 1 ≤ c.0) {n : ℕ} {w : Word} {y : Task} (t : EndStep g k s c x n w y) (d : ChannelId) (ne : d.0 ≢ c.0) where
    pub end_step_other_sender : sender_view g d y ≡ sender_view g d x
    unfolding sender_view
    end_step_other_sender = rw (other_on sends d ne t, other_uses low op_send d ne t, (end_step_steady t).processor) refl

    pub end_step_other_receiver : (history : ℕ → ℕ) → receiver_view g d history y ≡ receiver_view g d history x
    unfolding receiver_view
    end_step_other_receiver history =
        rw (other_on receives d ne t, other_uses low op_receive d ne t, (end_step_steady t).processor, (end_step_steady t).moves) refl

-- what it uses of its own channel
module _ {k : ℕ} {s : TaskState} (side : Side k s) (g : Program) (c : ChannelId) (x : Task) where
  used : (n : ℕ) → n ≡ suc (completed_by x) → is_use k c.0 (instruction_at g (completed_by x)) ≡ true
      → use_number k g c n ≡ suc (use_number k g c (completed_by x))
  used n more e = rw (more, use_more k g c (completed_by x), e) (omega arith)

  begins_uses : AtUse g k c x → use_number k g c (completed_by (advanced (with_state x s))) ≡ use_number k g c (completed_by x)
  begins_uses a =
      let l = a.low in
      ap (use_number k g c) (omega (arith, completed_ready x a.ready, completed_on side (advanced (with_state x s)) (begun x s)))

  passes_uses : (w : Word) → AtUse g k c x → use_number k g c (completed_by (advanced (with_word (readied x) w))) ≡ suc (use_number k g c (completed_by x))
  passes_uses w a =
      let l = a.low in
      let y = advanced (with_word (readied x) w) in
      used (completed_by y) (omega (arith, completed_ready x a.ready, completed_ready y refl)) (rw (← next_completed g x a.ready) a.next)

  ends_use : 1 ≤ c.0 → is_on s g c x ≡ true → (last_in g x).opcode ≡ k → is_use k c.0 (instruction_at g (completed_by x)) ≡ true
  ends_use low o kind =
      rw (← last_completed g x (on_place side g c x low o) (side_blocked side x (on_in side g c x o))) (on_use side g c x o kind)

  ends_uses : (w : Word) → 1 ≤ c.0 → is_on s g c x ≡ true → (last_in g x).opcode ≡ k
      → use_number k g c (completed_by (with_word (readied x) w)) ≡ suc (use_number k g c (completed_by x))
  ends_uses w low o kind =
      let y = with_word (readied x) w in
      let place = on_place side g c x low o in
      used (completed_by y) (omega (arith, completed_on side x (on_in side g c x o), completed_ready y refl)) (ends_use low o kind)

-- .. and so a turn that completes an instruction completes a use of the channel
pub end_step_uses : {k : ℕ} {s : TaskState} → Side k s → {g : Program} {c : ChannelId} {x : Task} → 1 ≤ c.0 → (is_in s x ≡ true → (last_in g x).opcode ≡ k)
    → {n : ℕ} {w : Word} {y : Task} → EndStep g k s c x n w y → n ≡ 1 → is_use k c.0 (instruction_at g (completed_by x)) ≡ true
end_step_uses side low kind stays z = absurd (omega arith)
end_step_uses side low kind (begins a) z = absurd (omega arith)
end_step_uses side {g} {c} {x} low kind (passes w a) z = rw (← next_completed g x a.ready) a.next
end_step_uses side {g} {c} {x} low kind (ends w o) z = ends_use side g c x low o (kind (on_in side g c x o))

pub end_step_word : {g : Program} {k : ℕ} {s : TaskState} {c : ChannelId} {x : Task} {n : ℕ} {w : Word} {y : Task} → EndStep g k s c x n w y → y.word ≡ w
end_step_word stays = refl
end_step_word (begins a) = refl
end_step_word (passes w a) = refl
end_step_word (ends w o) = refl

pub end_step_overflow : {g : Program} {k : ℕ} {s : TaskState} {c : ChannelId} {x : Task} {n : ℕ} {w : Word} {y : Task} → EndStep g k s c x n w y
    → y.overflow ≡ x.overflow
end_step_overflow stays = refl
end_step_overflow (begins a) = refl
end_step_overflow (passes w a) = refl
end_step_overflow (ends w o) = refl

-- on its own channel: a ready task is not sending; the four turns of a sender
module _ (g : Program) (c : ChannelId) (x : Task) where
  pub sender_ready : is_in Ready x ≡ true → (sender_view g c x).sending ≡ 0
  unfolding sender_view
  sender_ready e = rw (ready_off sends g c x e) refl

  pub sender_begins : AtUse g op_send c x
      → sender_view g c (advanced (with_state x Sending)) ≡ record { at = x.processor.0; sending = 1; sent = (sender_view g c x).sent }
  unfolding sender_view
  sender_begins a = rw (begins_on sends g c x a, begins_uses sends g c x a) refl

  pub sender_passes : (w : Word) → AtUse g op_send c x
      → sender_view g c (advanced (with_word (readied x) w))
      ≡ record { at = x.processor.0; sending = (sender_view g c x).sending; sent = suc (sender_view g c x).sent }
  unfolding sender_view
  sender_passes w a =
      let y = advanced (with_word (readied x) w) in
      rw (ready_off sends g c y refl, passes_uses sends g c x w a, ready_off sends g c x a.ready) refl

  pub sender_ends : (w : Word) → 1 ≤ c.0 → is_on Sending g c x ≡ true → (last_in g x).opcode ≡ op_send
      → sender_view g c (with_word (readied x) w) ≡ record { at = x.processor.0; sending = 0; sent = suc (sender_view g c x).sent }
  unfolding sender_view
  sender_ends w low o kind = rw (ready_off sends g c (with_word (readied x) w) refl, ends_uses sends g c x w low o kind) refl

  -- the number of the send that it executes next, and of the one that it waits in
  pub send_next : AtUse g op_send c x → send_number g c x.pc ≡ suc (sender_view g c x).sent
  unfolding sender_view
  send_next a =
      let l = a.low in
      let e = rw (next_completed g x a.ready) at a.next in
      send_uses g c x.pc ∙ used sends g c x x.pc (omega (arith, completed_ready x a.ready)) e

  pub send_last : 1 ≤ c.0 → is_on Sending g c x ≡ true → (last_in g x).opcode ≡ op_send → send_number g c (x.pc - 1) ≡ suc (sender_view g c x).sent
  unfolding sender_view
  send_last low o kind =
      let place = on_place sends g c x low o in
      let more : x.pc - 1 ≡ suc (completed_by x) = omega (arith, completed_on sends x (on_in sends g c x o)) in
      send_uses g c (x.pc - 1) ∙ used sends g c x (x.pc - 1) more (ends_use sends g c x low o kind)

  -- the same of a receiver
  module _ (history : ℕ → ℕ) where
    pub receiver_ready : is_in Ready x ≡ true → (receiver_view g c history x).receiving ≡ 0
    unfolding receiver_view
    receiver_ready e = rw (ready_off receives g c x e) refl

    pub receiver_begins : AtUse g op_receive c x
        → receiver_view g c history (advanced (with_state x Receiving))
        ≡ record { at = x.processor.0; receiving = 1; received = (receiver_view g c history x).received; moves = x.moves; history = history }
    unfolding receiver_view
    receiver_begins a = rw (begins_on receives g c x a, begins_uses receives g c x a) refl

    pub receiver_passes : (w : Word) → AtUse g op_receive c x
        → receiver_view g c history (advanced (with_word (readied x) w))
        ≡ record {
          at = x.processor.0;
          receiving = (receiver_view g c history x).receiving;
          received = suc (receiver_view g c history x).received;
          moves = x.moves;
          history = history;
        }
    unfolding receiver_view
    receiver_passes w a =
        let y = advanced (with_word (readied x) w) in
        rw (ready_off receives g c y refl, passes_uses receives g c x w a, ready_off receives g c x a.ready) refl

    pub receiver_ends : (w : Word) → 1 ≤ c.0 → is_on Receiving g c x ≡ true → (last_in g x).opcode ≡ op_receive
        → receiver_view g c history (with_word (readied x) w)
        ≡ record { at = x.processor.0; receiving = 0; received = suc (receiver_view g c history x).received; moves = x.moves; history = history }
    unfolding receiver_view
    receiver_ends w low o kind = rw (ready_off receives g c (with_word (readied x) w) refl, ends_uses receives g c x w low o kind) refl
