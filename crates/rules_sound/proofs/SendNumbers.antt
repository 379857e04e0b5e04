-- The number of a send: at most the instructions that it counts, and at least one where the last of them is a send on the channel.
use mathlib.Core.Path.{◌≡◌}
use mathlib.Core.Bool.{Bool, true}
use Prim.Native.Nat.{ℕ, suc, ◌≤◌}
use native.Mathlib.Omega.{arith}
use Rattle.base.specs.Choice.{pick}
use Rattle.base.specs.Range.{fold}
use Rattle.base.proofs.Choices.{pick_either}
use Rattle.plan.specs.declared.ChannelId.{ChannelId}
use Rattle.plan.specs.Kinds.{op_send, is_use}
use Rattle.plan.specs.Programs.{Program, instruction_at}
use Rattle.base.proofs.Sums.{sum_at_most}
use Rattle.rules.specs.Places.{send_number}

module _ (g : Program) (c : ChannelId) where
  pub send_few : (n : ℕ) → send_number g c n ≤ n
  unfolding send_number
  send_few n =
      let sends : ℕ → Bool = λ i. is_use op_send c.0 (instruction_at g i) in
      omega (arith, sum_at_most 1 n (λ i. pick (sends i) 1 0) (λ i h. pick_either (λ w. w ≤ 1) (sends i) 1 0 (omega arith) (omega arith)))

  pub send_some : (n : ℕ) → is_use op_send c.0 (instruction_at g n) ≡ true → 1 ≤ send_number g c (suc n)
  unfolding send_number fold
  send_some n e = rw e (omega arith)
