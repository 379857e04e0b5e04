-- How many adverts a rule posts: one for every other desk.
use mathlib.Core.Path.{◌≡◌, refl}
use mathlib.Core.List.{List}
use mathlib.Core.Logic.{by_cases}
use Prim.Native.Nat.{ℕ, zero, suc, ◌+◌, ◌-◌, ◌<◌, ◌≤◌}
use native.Mathlib.Decide.{ℕ_discrete}
use native.Mathlib.Numerals.{add-one}
use native.Mathlib.Omega.{arith}
use lib.ListN.{length, length-append}
use borrow.Author.Tests.{eq-eqb, ne_eqb}
use Rattle.base.specs.Choice.{within}
use Rattle.base.specs.Range.{fold}
use Rattle.base.proofs.Choices.{pick_cases}
use Rattle.base.proofs.Tests.{within_low, within_high, within_both, tests_differ}
use Rattle.plan.specs.declared.ChannelId.{ChannelId}
use Rattle.plan.specs.declared.ProcessorId.{ProcessorId}
use Rattle.rules.specs.declared.message.Message.{Message}
use Rattle.rules.specs.declared.rule.Posting.TheVariants.{Adverts}
use Rattle.rules.specs.Networks.{messages_of}
use Rattle.network.specs.Rounds.{posted_at, other_processors}

module _ (c : ChannelId) (d : ProcessorId) where
  -- those of channel c from desk d in a rig of n desks
  abbrev adverts : ℕ → List Message
  adverts n = messages_of n (Adverts c d)

  -- the last desk's, behind those of the others
  length_suc : (n : ℕ) → length (adverts (suc n)) ≡ length (adverts n) + length (posted_at (Adverts c d) n)
  unfolding messages_of fold
  length_suc n = length-append (adverts n) (posted_at (Adverts c d) n)

  -- the desk itself gets none, another desk one
  no_more : (n : ℕ) → n + 1 ≡ d.0 → length (adverts (suc n)) ≡ length (adverts n)
  no_more n e = rw (length_suc n, eq-eqb (suc n) d.0 (omega arith)) (omega arith)

  one_more_lem : (n : ℕ) → (n + 1 ≡ d.0 → ⊥) → length (adverts (suc n)) ≡ suc (length (adverts n))
  one_more_lem n e = rw (length_suc n, ne_eqb (suc n) d.0 (rw (add-one n) at e)) (omega arith)

  length_without : (n : ℕ) → ((k : ℕ) → k < n → k + 1 ≡ d.0 → ⊥) → length (adverts n) ≡ n
  unfolding messages_of fold
  length_without zero h = refl
  length_without (suc n) h = omega (arith, one_more_lem n (h n (omega arith)), length_without n (λ k l. h k (omega arith)))

  length_with : (n : ℕ) → 1 ≤ d.0 → d.0 ≤ n → length (adverts n) ≡ n - 1
  length_with zero l h = absurd (omega arith)
  length_with (suc n) l h =
      by_cases
      (ℕ_discrete (n + 1) d.0)
      (λ (e : n + 1 ≡ d.0). omega (arith, no_more n e, length_without n (λ k q (s : k + 1 ≡ d.0). omega arith)))
      (λ e. omega (arith, one_more_lem n e, length_with n l (omega arith)))

  pub length_adverts : (n : ℕ) → length (adverts n) ≡ other_processors n d
  length_adverts n =
      pick_cases (λ (x : ℕ). length (adverts n) ≡ x) (within 1 n d.0) (n - 1) n
      (λ e. length_with n (within_low 1 n d.0 e) (within_high 1 n d.0 e))
      (λ e. length_without n (λ k l (s : k + 1 ≡ d.0). tests_differ (within_both 1 n d.0 (omega arith) (omega arith)) e))
