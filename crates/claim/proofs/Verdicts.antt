-- What the answers of the check of two logs mean.
use mathlib.Core.Path.{◌≡◌, sym, ap}
use mathlib.Core.Bool.{Bool, true, false, ◌&&◌}
use mathlib.Core.List.{List}
use mathlib.Core.Logic.{◌≢◌, by_cases}
use Prim.Native.Nat.{ℕ, ◌≤◌, ◌<◌}
use native.Mathlib.Decide.{ℕ_discrete}
use native.Mathlib.Omega.{arith}
use borrow.Author.Tests.{eq-eqb, ne_eqb}
use Rattle.base.specs.Beginnings.{Beginning}
use Rattle.base.specs.Choice.{unless}
use Rattle.base.proofs.Tests.{tests_differ}
use Rattle.plan.specs.declared.ChannelId.{ChannelId}
use Rattle.plan.specs.Numbers.{channel_id}
use Rattle.rules.specs.declared.log.LogsAnswer.{LogsAnswer}
use Rattle.rules.specs.declared.log.LogsAnswer.TheVariants.{Yes, No, BadLength, BadRecord}
use Rattle.rules.specs.LogFiles.{logged_on, log_length_ok, log_channels_ok, channel_agrees, lowest_failing, verdict_of, logs_answer}
use Rattle.rules_laws.proofs.Logs.{begins_is, is_begins, Lowest as LowestOf, lowest_is}
use Rattle.claim.specs.Logs.{YesMeans, NoMeans}

-- an answer that is no refusal is the verdict
not_refused : (lengths channels : Bool) (v x : LogsAnswer) → unless lengths BadLength (unless channels BadRecord v) ≡ x → x ≢ BadLength → x ≢ BadRecord → v ≡ x
not_refused true true v x e p q = e
not_refused true false v x e p q = absurd (q (sym e))
not_refused false channels v x e p q = absurd (p (sym e))

module _ (s r : List ℕ) where
  abbrev lowest : ℕ
  lowest = lowest_failing 128 (channel_agrees s r)

  facts : LowestOf 128 (channel_agrees s r) lowest
  facts = lowest_is 128 (channel_agrees s r)

  verdict : (x : LogsAnswer) → logs_answer s r ≡ x → x ≢ BadLength → x ≢ BadRecord → verdict_of lowest ≡ x
  unfolding logs_answer
  verdict x e = not_refused (log_length_ok s && log_length_ok r) (log_channels_ok s && log_channels_ok r) (verdict_of lowest) x e

  says_yes : verdict_of lowest ≡ Yes → lowest ≡ 0
  says_yes e =
      by_cases
      (ℕ_discrete lowest 0)
      (λ z. z)
      (λ ne. let z : No (channel_id lowest) ≡ Yes = rw (ne_eqb lowest 0 ne) at e in let q : ◌≡◌ {A = ℕ} 0 1 = cc in absurd (omega arith))

  says_no : (c : ChannelId) → verdict_of lowest ≡ No c → (1 ≤ lowest) × (channel_id lowest ≡ c)
  says_no c e =
      by_cases
      (ℕ_discrete lowest 0)
      (λ (z : lowest ≡ 0). let f : Yes ≡ No c = rw (eq-eqb lowest 0 z) at e in let q : ◌≡◌ {A = ℕ} 0 1 = cc in absurd (omega arith))
      (λ ne. let z : No (channel_id lowest) ≡ No c = rw (ne_eqb lowest 0 ne) at e in (omega arith, cc))

  begins_at : (c : ℕ) → 1 ≤ c → c ≤ 128 → (1 ≤ lowest → c < lowest) → Beginning (logged_on (channel_id c) r) (logged_on (channel_id c) s)
  begins_at c l u h = begins_is (logged_on (channel_id c) r) (logged_on (channel_id c) s) (facts.holds c l u h)

pub yes_means : YesMeans
yes_means s r e c low high =
    let none = says_yes s r (verdict s r Yes e (λ z. let q : ◌≡◌ {A = ℕ} 0 1 = cc in omega arith) (λ z. let q : ◌≡◌ {A = ℕ} 0 1 = cc in omega arith)) in
    begins_at s r c.0 low high (λ z. absurd (omega arith))

pub no_means : NoMeans
no_means s r c e =
    let (some, is) = says_no s r c (verdict s r (No c) e (λ z. let q : ◌≡◌ {A = ℕ} 0 1 = cc in omega arith) (λ z. let q : ◌≡◌ {A = ℕ} 0 1 = cc in omega arith)) in
    let same : lowest s r ≡ c.0 = ap (λ (d : ChannelId). d.0) is in
    record {
      low = omega (arith, some, same);
      high = omega (arith, (facts s r).few, same);
      fails = λ b. tests_differ (is_begins (logged_on c r) (logged_on c s) b) (rw is at ((facts s r).fails some));
      lower = λ d l u. begins_at s r d.0 l (omega (arith, (facts s r).few, same)) (λ z. omega (arith, same));
    }
