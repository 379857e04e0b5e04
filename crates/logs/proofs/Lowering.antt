-- The lowest channel, where one channel more fails, and where none changes.
use mathlib.Core.Path.{◌≡◌, ◌∙◌}
use mathlib.Core.Bool.{Bool, false}
use mathlib.Core.Logic.{◌≢◌, by_cases}
use Prim.Native.Nat.{ℕ, ◌-◌, ◌≤◌}
use native.Mathlib.Decide.{ℕ_discrete}
use native.Mathlib.Omega.{arith}
use borrow.Author.Tests.{eq-eqb, ne_eqb, lt-ltb, le-ltb}
use Rattle.plan.specs.declared.ChannelId.{ChannelId}
use Rattle.plan.specs.Numbers.{channel_id}
use Rattle.rules_laws.proofs.Logs.{Lowest}
use Rattle.logs.specs.Following.{lower_of}

module _ (n : ℕ) (old then : ChannelId → Bool) (k : ℕ) (lowest : Lowest n old k) where
  pub lowest_same : ((c : ℕ) → 1 ≤ c → c ≤ n → then (channel_id c) ≡ old (channel_id c)) → Lowest n then k
  lowest_same same =
      record {
        holds = λ c l u h. same c l u ∙ lowest.holds c l u h;
        few = lowest.few;
        fails = λ l. same k l lowest.few ∙ lowest.fails l;
      }

  pub lowest_lower : (c : ℕ) → 1 ≤ c → c ≤ n → then (channel_id c) ≡ false
      → ((d : ℕ) → 1 ≤ d → d ≤ n → d ≢ c → then (channel_id d) ≡ old (channel_id d)) → Lowest n then (lower_of k c)
  unfolding lower_of
  lowest_lower c low high differs same =
      by_cases
      (ℕ_discrete k 0)
      (λ (e : k ≡ 0). rw (eq-eqb k 0 e)
      (record {
        holds = λ d l u h. same d l u (λ z. omega (arith, h low)) ∙ lowest.holds d l u (λ z. absurd (omega arith));
        few = high;
        fails = λ l. differs;
      }))
      (λ ne. rw (ne_eqb k 0 ne)
      (by_cases
      (ℕ_discrete (k - c) 0)
      (λ (e : k - c ≡ 0). rw (le-ltb c k (omega arith))
      (record {
        holds = λ d l u h. same d l u (λ z. omega (arith, h (omega arith))) ∙ lowest.holds d l u h;
        few = lowest.few;
        fails = λ l. by_cases (ℕ_discrete k c) (λ (q : k ≡ c). rw q differs) (λ q. same k l lowest.few q ∙ lowest.fails l);
      }))
      (λ z. rw (lt-ltb c k (omega arith))
      (record {
        holds = λ d l u h. same d l u (λ q. omega (arith, h low)) ∙ lowest.holds d l u (λ q. omega (arith, h low));
        few = high;
        fails = λ l. differs;
      }))))
