-- Who takes part in a label that may be taken: each is at an instruction that waits for this label and no other.
use mathlib.Core.Path.{◌≡◌, refl, sym, ap, ◌∙◌}
use mathlib.Core.Bool.{true, false, not, ◌||◌, or-true}
use mathlib.Core.Logic.{◌≢◌, ◌⊎◌, inl, inr, ⊎_elim}
use Prim.Native.Nat.{ℕ}
use native.Mathlib.Omega.{arith}
use lib.Dec.{eqb}
use borrow.Author.Tests.{eqb-true, eqb-false, eq-eqb, not-true}
use Rattle.base.specs.Choice.{pick}
use Rattle.base.proofs.Tests.{and_left, and_right, or_cases, or_neither, is_false}
use Rattle.plan.specs.declared.TaskId.{TaskId}
use Rattle.plan.specs.declared.ChannelId.{ChannelId}
use Rattle.plan.specs.declared.Instruction.{Instruction}
use Rattle.plan.specs.Numbers.{task_id, channel_id, same_task}
use Rattle.plan.specs.Kinds.{op_send, op_receive, is_use}
use Rattle.plan.specs.Programs.{Programs}
use Rattle.plan.specs.Users.{sender_of, receiver_of}
use Rattle.net.specs.States.{Net}
use Rattle.net.specs.Labels.{Label, own, pass, is_join, is_transfer, takes_part}
use Rattle.net.specs.Guards.{is_active, next_of, stands_at, children_complete, is_free, enabled}

-- tasks of one number are one task
pub same_task_lem : (t u : TaskId) → t.0 ≡ u.0 → t ≡ u
same_task_lem t u e = ap task_id e

module _ (m : Programs) (t : TaskId) where
  pub part_own : (u : TaskId) → takes_part m t (own u) ≡ true → t.0 ≡ u.0
  unfolding takes_part
  part_own u h = eqb-true t.0 u.0 h

  pub no_part_own : (u : TaskId) → takes_part m t (own u) ≡ false → t.0 ≢ u.0
  unfolding takes_part
  no_part_own u h = eqb-false t.0 u.0 h

  pub part_pass : (c : ChannelId) → takes_part m t (pass c) ≡ true → (t.0 ≡ (sender_of m c).0) ⊎ (t.0 ≡ (receiver_of m c).0)
  unfolding takes_part
  part_pass c h =
      or_cases (same_task t (sender_of m c)) (same_task t (receiver_of m c)) h
      (λ e. inl (eqb-true t.0 (sender_of m c).0 e))
      (λ e. inr (eqb-true t.0 (receiver_of m c).0 e))

  pub no_part_pass : (c : ChannelId) → takes_part m t (pass c) ≡ false → (t.0 ≢ (sender_of m c).0) × (t.0 ≢ (receiver_of m c).0)
  unfolding takes_part
  no_part_pass c h =
      let (s, r) = or_neither (same_task t (sender_of m c)) (same_task t (receiver_of m c)) h in
      (eqb-false t.0 (sender_of m c).0 s, eqb-false t.0 (receiver_of m c).0 r)

-- each end of a channel takes part in a pass
module _ (m : Programs) (c : ChannelId) where
  pub sender_part : takes_part m (sender_of m c) (pass c) ≡ true
  unfolding takes_part
  sender_part = rw (eq-eqb (sender_of m c).0 (sender_of m c).0 refl) refl

  pub receiver_part : takes_part m (receiver_of m c) (pass c) ≡ true
  unfolding takes_part
  receiver_part = rw (eq-eqb (receiver_of m c).0 (receiver_of m c).0 refl) (or-true (same_task (receiver_of m c) (sender_of m c)))

pub own_part : (m : Programs) (t : TaskId) → takes_part m t (own t) ≡ true
unfolding takes_part
own_part m t = eq-eqb t.0 t.0 refl

-- the two parts of a label's guard
module _ (m : Programs) (s : Net) where
  pub own_active : (t : TaskId) → enabled m s (own t) ≡ true → is_active m s t ≡ true
  unfolding enabled
  own_active t h = and_left (is_active m s t) (is_free m s t (next_of m s t)) h

  pub own_free : (t : TaskId) → enabled m s (own t) ≡ true → is_free m s t (next_of m s t) ≡ true
  unfolding enabled
  own_free t h = and_right (is_active m s t) (is_free m s t (next_of m s t)) h

  pub sender_stands : (c : ChannelId) → enabled m s (pass c) ≡ true → stands_at m s (sender_of m c) op_send c ≡ true
  unfolding enabled
  sender_stands c h = and_left (stands_at m s (sender_of m c) op_send c) _ h

  pub receiver_stands : (c : ChannelId) → enabled m s (pass c) ≡ true → stands_at m s (receiver_of m c) op_receive c ≡ true
  unfolding enabled
  receiver_stands c h = and_right (stands_at m s (sender_of m c) op_send c) _ h

-- what it is to stand at an instruction on a channel
module _ (m : Programs) (s : Net) (t : TaskId) (k : ℕ) (c : ChannelId) (h : stands_at m s t k c ≡ true) where
  pub stands_active : is_active m s t ≡ true
  unfolding stands_at
  stands_active = and_left (is_active m s t) _ h

  uses : is_use k c.0 (next_of m s t) ≡ true
  unfolding stands_at
  uses = and_right (is_active m s t) _ h

  pub stands_opcode : (next_of m s t).opcode ≡ k
  stands_opcode = eqb-true _ k (and_left (eqb (next_of m s t).opcode k) _ uses)

  pub stands_operand : (next_of m s t).operand ≡ c.0
  stands_operand = eqb-true _ c.0 (and_right (eqb (next_of m s t).opcode k) _ uses)

-- the label by which task t does instruction i
unfoldable pub label_of : TaskId → Instruction → Label
label_of t i = pick (is_transfer i) (pass (channel_id i.operand)) (own t)

-- t may do its next instruction, and does it by label l
pub record Acting (m : Programs) (s : Net) (t : TaskId) (l : Label) : Type 0 where
  pub active : is_active m s t ≡ true
  pub label : label_of t (next_of m s t) ≡ l

-- .. who stands at a send or a receive, by a pass
pub stands_acting : (m : Programs) (s : Net) (t : TaskId) (k : ℕ) (c : ChannelId) → stands_at m s t k c ≡ true
    → eqb k op_send || eqb k op_receive ≡ true → Acting m s t (pass c)
unfolding label_of
stands_acting m s t k c h e =
    record { active = stands_active m s t k c h; label = rw (stands_opcode m s t k c h, e, stands_operand m s t k c h) refl }

module _ (m : Programs) (s : Net) where
  own_acting : (t : TaskId) → enabled m s (own t) ≡ true → Acting m s t (own t)
  unfolding is_free label_of
  own_acting t h =
      let i = next_of m s t in
      let alone = not-true (is_transfer i) (and_left (not (is_transfer i)) (not (is_join i) || children_complete m s t) (own_free m s t h)) in
      record { active = own_active m s t h; label = rw alone refl }

  pub acting : (l : Label) (t : TaskId) → enabled m s l ≡ true → takes_part m t l ≡ true → Acting m s t l
  acting (own u) t h p = rw (same_task_lem t u (part_own m t u p)) (own_acting u h)
  acting (pass c) t h p =
      ⊎_elim (λ e. rw (same_task_lem t (sender_of m c) e) (stands_acting m s (sender_of m c) op_send c (sender_stands m s c h) refl))
      (λ e. rw (same_task_lem t (receiver_of m c) e) (stands_acting m s (receiver_of m c) op_receive c (receiver_stands m s c h) refl))
      (part_pass m t c p)

  -- nobody takes part in two labels that may be taken
  pub apart : (k l : Label) → k ≢ l → enabled m s k ≡ true → enabled m s l ≡ true → (t : TaskId) → takes_part m t k ≡ true
      → takes_part m t l ≡ false
  apart k l ne hk hl t p = is_false (takes_part m t l) (λ e. ne (sym (acting k t hk p).label ∙ (acting l t hl e).label))

  -- the two ends of a pass are two tasks
  pub ends_apart : (c : ChannelId) → enabled m s (pass c) ≡ true → (sender_of m c).0 ≢ (receiver_of m c).0
  ends_apart c h e =
      let a = stands_opcode m s (sender_of m c) op_send c (sender_stands m s c h) in
      let b = stands_opcode m s (receiver_of m c) op_receive c (receiver_stands m s c h) in
      let f = same_task_lem (sender_of m c) (receiver_of m c) e in
      let z : ◌≡◌ {A = ℕ} op_send op_receive = cc in
      omega arith
