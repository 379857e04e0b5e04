-- The two ends of a channel in an accepted plan: its sender and its receiver, which are two tasks. A channel has both or is not used.
use mathlib.Core.Path.{◌≡◌, refl, ap}
use mathlib.Core.Bool.{true, false, not}
use mathlib.Core.List.{List, [], ◌∷◌}
use mathlib.Core.Logic.{◌≢◌}
use Prim.Native.Nat.{ℕ, suc, ◌≤◌, ◌<◌}
use native.Mathlib.Omega.{arith}
use lib.ListN.{length}
use lib.Dec.{eqb}
use borrow.Author.Tests.{eq-eqb, not-true}
use Rattle.std.specs.Prelude.{Ok}
use Rattle.base.specs.Choice.{within}
use Rattle.base.specs.Lists.{every, any}
use Rattle.base.proofs.Tests.{and_left, tests_differ, within_low, within_high, up_to_at}
use Rattle.plan.specs.declared.ChannelId.{ChannelId}
use Rattle.plan.specs.Numbers.{task_id, channel_id}
use Rattle.plan.specs.Kinds.{op_send, op_receive, is_use}
use Rattle.plan.specs.Programs.{Programs, program_at, instruction_at}
use Rattle.plan.specs.Users.{users, first_of, one_task, share, one_end, sender_of, receiver_of}
use Rattle.plan.specs.Refusals.{channel_ok, channels_ok, plan_answer}
use Rattle.plan_laws.specs.BothEnds.{BothEnds}
use Rattle.plan_laws.proofs.Answers.{and_parts}
use Rattle.plan_laws.proofs.Programs.{send_operand, receive_operand, users_within, user_few}
use Rattle.plan_laws.proofs.Users.{first_any, found_within, no_user, used_by, structure_passed}

-- of two lists of task numbers, neither or both have a first
first_other : (b : ℕ) (ss rs : List ℕ) → every (within 1 b) rs ≡ true → not (one_end ss rs) ≡ true → 1 ≤ first_of ss → 1 ≤ first_of rs
unfolding every
first_other b [] rs h e s = absurd (omega arith)
first_other b (t ∷ ss) [] h e s = absurd (tests_differ e refl)
first_other b (t ∷ ss) (r ∷ rs) h e s = within_low 1 b r (and_left (within 1 b r) _ h)

one_swap : (ss rs : List ℕ) → one_end ss rs ≡ one_end rs ss
one_swap [] [] = refl
one_swap [] (r ∷ rs) = refl
one_swap (s ∷ ss) [] = refl
one_swap (s ∷ ss) (r ∷ rs) = refl

module _ (m : Programs) (a : plan_answer m ≡ Ok tt) where
  -- the sender and the receiver of a channel
  ends : (c : ℕ) → within 1 128 c ≡ true
      → (one_task (users m op_send c) ≡ true) × (one_task (users m op_receive c) ≡ true)
      × (not (share (users m op_send c) (users m op_receive c)) ≡ true) × (not (one_end (users m op_send c) (users m op_receive c)) ≡ true)
  unfolding channels_ok
  ends c w =
      let all = up_to_at (channel_ok m) 128 c (within_low 1 128 c w) (within_high 1 128 c w) (structure_passed m a).1 in
      let (s, rest) = and_parts (one_task (users m op_send c)) _ all in
      let (r, more) = and_parts (one_task (users m op_receive c)) _ rest in
      let (apart, both) = and_parts (not (share (users m op_send c) (users m op_receive c))) _ more in
      (s, r, apart, both)

  pub sends_on_lem : (c k i : ℕ) → k < length m → i < length (program_at m k) → is_use op_send c (instruction_at (program_at m k) i) ≡ true
      → sender_of m (channel_id c) ≡ task_id (suc k)
  sends_on_lem c k i l q e = ap task_id (used_by m a op_send 1 128 (send_operand (length m)) (λ c w. (ends c w).0) c k i l q e)

  pub receives_on_lem : (c k i : ℕ) → k < length m → i < length (program_at m k) → is_use op_receive c (instruction_at (program_at m k) i) ≡ true
      → receiver_of m (channel_id c) ≡ task_id (suc k)
  receives_on_lem c k i l q e = ap task_id (used_by m a op_receive 1 128 (receive_operand (length m)) (λ c w. (ends c w).1) c k i l q e)

  -- a number outside 1 .. 128 has neither
  pub no_ends : (c : ChannelId) → within 1 128 c.0 ≡ false → ((sender_of m c).0 ≡ 0) × ((receiver_of m c).0 ≡ 0)
  no_ends c e = (no_user m a op_send 1 128 (send_operand (length m)) c.0 e, no_user m a op_receive 1 128 (receive_operand (length m)) c.0 e)

  -- nobody is at both ends
  pub ends_differ : (c : ChannelId) → 1 ≤ (sender_of m c).0 → (sender_of m c).0 ≢ (receiver_of m c).0
  ends_differ c h e =
      let ss = users m op_send c.0 in
      let rs = users m op_receive c.0 in
      let apart = (ends c.0 (found_within m a op_send 1 128 (send_operand (length m)) c.0 h)).2 in
      let there : any (eqb (first_of ss)) rs ≡ true = first_any (eqb (first_of ss)) rs (omega arith) (eq-eqb (first_of ss) (first_of rs) e) in
      let both : share ss rs ≡ true = first_any (λ s. any (eqb s) rs) ss h there in
      let z : ◌≡◌ {A = ℕ} 0 1 = cc (not-true (share ss rs) apart) in
      omega arith

  -- where there is one end, there are both
  pub sender_both : (c : ChannelId) → 1 ≤ (sender_of m c).0 → BothEnds m c
  sender_both c h =
      let both = (ends c.0 (found_within m a op_send 1 128 (send_operand (length m)) c.0 h)).3 in
      record {
        sender = h;
        sender_few = user_few m op_send c.0;
        receiver = first_other (length m) (users m op_send c.0) (users m op_receive c.0) (users_within m op_receive c.0) both h;
        receiver_few = user_few m op_receive c.0;
        differ = ends_differ c h;
      }

  pub receiver_both : (c : ChannelId) → 1 ≤ (receiver_of m c).0 → BothEnds m c
  receiver_both c h =
      let ss = users m op_send c.0 in
      let rs = users m op_receive c.0 in
      let both = (ends c.0 (found_within m a op_receive 1 128 (receive_operand (length m)) c.0 h)).3 in
      sender_both c (first_other (length m) rs ss (users_within m op_send c.0) (rw (one_swap ss rs) at both) h)
