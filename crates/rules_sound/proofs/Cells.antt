-- Pointers, offers and cells such as 9 does not refuse, and that the small changes leave them so.
use mathlib.Core.Path.{◌≡◌}
use mathlib.Core.Bool.{Bool, true, false}
use Prim.Native.Nat.{ℕ, ◌+◌, ◌≤◌, ◌<◌}
use native.Mathlib.Omega.{arith}
use lib.Dec.{eqb, ltb}
use borrow.Author.Tests.{eqb-true, ne_eqb, ltb-true, ltb-false}
use Rattle.base.specs.Choice.{pick, within}
use Rattle.base.proofs.Tests.{and_left, and_right, within_low, within_high}
use Rattle.plan.specs.declared.ProcessorId.{ProcessorId}
use Rattle.rules.specs.Numbers.{processor_ok}
use Rattle.rules.specs.declared.channel.Hint.{Hint}
use Rattle.rules.specs.declared.channel.Offer.{Offer}
use Rattle.rules.specs.declared.channel.Cell.{Cell}
use Rattle.rules.specs.Cells.{is_unknown, newer, larger, first_noted, counts, none_called, with_hint, with_held, with_noted, with_granted, with_carried, with_travelling, carrying, holding, noting, granting, cleared, passing}
use Rattle.rules.specs.Sound.{moves_ok, known_ok, made_ok, hint_ok, offer_ok}
use Rattle.rules_sound.specs.Fine.{FineCell}
use Rattle.base.proofs.Choices.{pick_cases}
use Rattle.rules.specs.Hints.{newer}

module _ (n : ℕ) where
  -- a pointer that is known is fine, and one that is fine is known where it names a desk
  pub known_fine : (h : Hint) → known_ok n h ≡ true → hint_ok n h ≡ true
  known_fine h k =
      let p = within_low 1 n h.processor.0 (and_left (processor_ok n h.processor) (moves_ok h.moves) k) in
      rw (ne_eqb h.processor.0 0 (λ e. omega arith)) k

  pub fine_known : (h : Hint) → hint_ok n h ≡ true → is_unknown h ≡ false → known_ok n h ≡ true
  fine_known h f u = rw u at f

  pub counted_known : (h : Hint) → hint_ok n h ≡ true → 1 ≤ h.moves → known_ok n h ≡ true
  counted_known h f l = go (is_unknown h) f
    where
      go : (b : Bool) → pick b (eqb h.moves 0) (known_ok n h) ≡ true → known_ok n h ≡ true
      go true e = absurd (omega (arith, eqb-true h.moves 0 e))
      go false e = e

  -- the same of offers: one that is fine is made where its number is not 0
  pub made_fine : (o : Offer) → made_ok n o ≡ true → offer_ok n o ≡ true
  made_fine o k =
      let p = within_low 1 n o.processor.0 (and_left (processor_ok n o.processor) (within 1 64 o.number) k) in
      rw (ne_eqb o.processor.0 0 (λ e. omega arith)) k

  pub fine_made : (o : Offer) → offer_ok n o ≡ true → 1 ≤ o.number → made_ok n o ≡ true
  fine_made o f w = go (eqb o.processor.0 0) f
    where
      go : (b : Bool) → pick b (eqb o.number 0) (made_ok n o) ≡ true → made_ok n o ≡ true
      go true e = absurd (omega (arith, eqb-true o.number 0 e))
      go false e = e

  pub newer_fine : (own other : Hint) → hint_ok n own ≡ true → hint_ok n other ≡ true → hint_ok n (newer own other) ≡ true
  unfolding newer
  newer_fine own other p q = pick_cases (λ h. hint_ok n h ≡ true) (ltb own.moves other.moves) other own (λ e. q) (λ e. p)

  -- the newer of a pointer and a known one is known
  pub newer_known : (own other : Hint) → hint_ok n own ≡ true → known_ok n other ≡ true → known_ok n (newer own other) ≡ true
  unfolding newer
  newer_known own other p q =
      let l = within_low 1 9999 other.moves (and_right (processor_ok n other.processor) (moves_ok other.moves) q) in
      pick_cases (λ h. known_ok n h ≡ true) (ltb own.moves other.moves) other own (λ e. q)
      (λ e. counted_known own p (omega (arith, ltb-false own.moves other.moves e)))

  pub larger_fine : (first later : Offer) → offer_ok n first ≡ true → offer_ok n later ≡ true → offer_ok n (larger first later) ≡ true
  unfolding larger
  larger_fine first later p q = pick_cases (λ o. offer_ok n o ≡ true) (ltb first.number later.number) later first (λ e. q) (λ e. p)

  pub earlier_fine : (first later : ProcessorId) → first.0 ≤ n → later.0 ≤ n → (first_noted first later).0 ≤ n
  unfolding first_noted
  earlier_fine first later p q = pick_cases (λ d. d.0 ≤ n) (eqb first.0 0) later first (λ e. q) (λ e. p)

  module _ (x : Cell) (f : FineCell n x) where
    pub with_hint_fine : (h : Hint) → hint_ok n h ≡ true → FineCell n (with_hint x h)
    with_hint_fine h p = search

    pub with_held_fine : (o : Offer) → offer_ok n o ≡ true → FineCell n (with_held x o)
    with_held_fine o p = search

    pub with_noted_fine : (d : ProcessorId) → d.0 ≤ n → FineCell n (with_noted x d)
    with_noted_fine d p = search

    pub with_granted_fine : (w : ℕ) → w ≤ 64 → FineCell n (with_granted x w)
    with_granted_fine w p = search

    pub with_carried_fine : (o : Offer) → offer_ok n o ≡ true → FineCell n (with_carried x o)
    with_carried_fine o p = search

    pub with_travelling_fine : (h : Hint) → hint_ok n h ≡ true → FineCell n (with_travelling x h)
    with_travelling_fine h p = search

    pub carrying_fine : (o : Offer) → offer_ok n o ≡ true → FineCell n (carrying x o)
    carrying_fine o p = with_carried_fine (larger x.channel.carried o) (larger_fine x.channel.carried o f.channel.carried p)

    pub holding_fine : (o : Offer) → offer_ok n o ≡ true → FineCell n (holding x o)
    holding_fine o p = with_held_fine (larger x.entry.held o) (larger_fine x.entry.held o f.entry.held p)

    pub noting_fine : (d : ProcessorId) → d.0 ≤ n → FineCell n (noting x d)
    noting_fine d p = with_noted_fine (first_noted x.entry.noted d) (earlier_fine x.entry.noted d f.entry.noted p)

    pub granting_fine : x.channel.granted < 64 → FineCell n (granting x)
    granting_fine p = let q : x.channel.granted + 1 ≤ 64 = omega arith in search

    pub cleared_fine : FineCell n (cleared x)
    cleared_fine = search

    pub passing_fine : (w : ℕ) → w ≤ 64 → FineCell n (passing x w)
    passing_fine w p = search

    -- an offer that counts is made, and one more can be called
    pub counts_made : (o : Offer) → offer_ok n o ≡ true → counts x o ≡ true → made_ok n o ≡ true
    counts_made o p c = fine_made o p (omega (arith, ltb-true x.channel.granted o.number c))

    pub counts_more : (o : Offer) → offer_ok n o ≡ true → counts x o ≡ true → x.channel.granted < 64
    counts_more o p c =
        let h = within_high 1 64 o.number (and_right (processor_ok n o.processor) (within 1 64 o.number) (counts_made o p c)) in
        omega (arith, ltb-true x.channel.granted o.number c)

    pub none_more : none_called x ≡ true → x.channel.granted < 64
    none_more e = omega (arith, eqb-true x.channel.granted 0 e)
