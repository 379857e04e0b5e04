-- What is posted, round by round.
use mathlib.Core.Path.{◌≡◌, refl, sym, ◌∙◌, ap}
use mathlib.Core.Bool.{Bool, true, false}
use mathlib.Core.List.{List, [], ◌∷◌, ◌++◌}
use Prim.Native.Nat.{ℕ, suc, ◌+◌, ◌≤◌, ◌<◌}
use native.Mathlib.Numerals.{add-one}
use native.Mathlib.Omega.{arith}
use lib.ListN.{length}
use Rattle.base.specs.Choice.{pick}
use Rattle.base.specs.Range.{fold, joined}
use Rattle.base.proofs.Joins.{length_joined, part_of_sum}
use Rattle.base.proofs.Tests.{tests_differ}
use Rattle.rules.specs.declared.message.Message.{Message}
use Rattle.rules.specs.declared.message.Network.{Network}
use Rattle.rules.specs.declared.rule.Posting.{Posting}
use Rattle.rules.specs.declared.rule.Posting.TheVariants.{Nothing, Single, Adverts}
use Rattle.rules.specs.Networks.{enqueued, enqueued_all, messages_of}
use Rattle.rules_laws.proofs.Messages.{enqueued_all_used}
use Rattle.network.specs.Rounds.{is_message, rounds_of, skips_at, message_of, posted_at}

-- letters that join after others
enqueued_all_append : (k : Network) (xs ys : List Message) → enqueued_all k (xs ++ ys) ≡ enqueued_all (enqueued_all k xs) ys
unfolding enqueued_all
enqueued_all_append k [] ys = refl
enqueued_all_append k (x ∷ xs) ys = enqueued_all_append (enqueued k x) xs ys

-- all rounds post the letters
pub rounds_all : (n : ℕ) (x : Posting) → joined (rounds_of n x) (posted_at x) ≡ messages_of n x
unfolding messages_of fold
rounds_all n Nothing = refl
rounds_all n (Single m) = refl
rounds_all n (Adverts c d) = refl

-- not adverts: a letter at most
abbrev pub AtMostOne : Posting → Type 0
AtMostOne Nothing = Unit {0}
AtMostOne (Single m) = Unit {0}
AtMostOne (Adverts c d) = ⊥

-- such a posting puts its letter behind the others, if it has one
module _ (n : ℕ) (k : Network) where
  pub posted_one : (x : Posting) → is_message x ≡ true → enqueued_all k (messages_of n x) ≡ enqueued k (message_of x 0)
  unfolding messages_of enqueued_all
  posted_one Nothing h = absurd (tests_differ h refl)
  posted_one (Single m) h = refl
  posted_one (Adverts c d) h = absurd (tests_differ h refl)

  pub posted_none : (x : Posting) → AtMostOne x → is_message x ≡ false → enqueued_all k (messages_of n x) ≡ k
  unfolding messages_of enqueued_all
  posted_none Nothing one h = refl
  posted_none (Single m) one h = absurd (tests_differ refl h)
  posted_none (Adverts c d) one h = absurd one

-- up to six desks are gone by
pub few_rounds : (n : ℕ) (x : Posting) → n ≤ 6 → rounds_of n x ≤ 6
few_rounds n Nothing h = omega arith
few_rounds n (Single m) h = omega arith
few_rounds n (Adverts c d) h = h

module _ (x : Posting) (k : Network) where
  -- the mail after the first j rounds
  abbrev pub after : ℕ → Network
  after j = enqueued_all k (joined j (posted_at x))

  pub after_none : after 0 ≡ k
  unfolding fold enqueued_all
  after_none = refl

  joined_suc : (j : ℕ) → joined (suc j) (posted_at x) ≡ joined j (posted_at x) ++ posted_at x j
  unfolding fold
  joined_suc j = refl

  after_more : (j : ℕ) → after (j + 1) ≡ enqueued_all (after j) (posted_at x j)
  after_more j = ap (λ i. enqueued_all k (joined i (posted_at x))) (add-one j) ∙ ap (enqueued_all k) (joined_suc j) ∙ enqueued_all_append k (joined j (posted_at x)) (posted_at x j)

  -- a round that posts nothing, and one that posts a letter
  pub after_skipped : (j : ℕ) → skips_at x j ≡ true → after (j + 1) ≡ after j
  after_skipped j e = after_more j ∙ ap (λ (b : Bool). enqueued_all (after j) (pick b [] (message_of x j ∷ []))) e ∙ unfold enqueued_all in refl

  pub after_posted : (j : ℕ) → skips_at x j ≡ false → after (j + 1) ≡ enqueued (after j) (message_of x j)
  after_posted j e = after_more j ∙ ap (λ (b : Bool). enqueued_all (after j) (pick b [] (message_of x j ∷ []))) e ∙ unfold enqueued_all in refl

  -- there is room for it
  pub after_room : (n j : ℕ) → j < rounds_of n x → skips_at x j ≡ false → k.used + length (messages_of n x) ≤ 256 → (after j).used < 256
  after_room n j l e h =
      let one : length (posted_at x j) ≡ 1 = ap (λ (b : Bool). length (pick b [] (message_of x j ∷ []))) e in
      let part = part_of_sum (rounds_of n x) (λ i. length (posted_at x i)) j l in
      let sum = ap length (sym (rounds_all n x)) ∙ length_joined (rounds_of n x) (posted_at x) in
      let so_far = length_joined j (posted_at x) in
      omega (arith, one, part, sum, so_far, h, enqueued_all_used k (joined j (posted_at x)))
