-- Laws of sorted mail: what is appended and what is taken out, the letters about a task, and the words of a channel.
use mathlib.Core.Path.{◌≡◌, refl, sym, ap, ◌∙◌}
use mathlib.Core.List.{List, [], ◌∷◌, ◌++◌, append_assoc, append-nil}
use mathlib.Core.Option.{some}
use mathlib.Core.Logic.{◌≢◌}
use Prim.Native.Nat.{ℕ, zero, suc, ◌+◌, ◌≤◌}
use native.Mathlib.Omega.{arith}
use lib.ListN.{length, get_elem?}
use borrow.Author.Tests.{eq-eqb, ne_eqb}
use Rattle.plan.specs.declared.Word.{Word}
use Rattle.plan.specs.declared.TaskId.{TaskId}
use Rattle.plan.specs.declared.ProcessorId.{ProcessorId}
use Rattle.rules.specs.declared.message.Message.TheVariants.{Terminated, Migration}
use Rattle.channel.specs.Bags.{one, without, total}
use Rattle.channel.specs.Messages.{words, is_word, ChannelMessage, offer, advert, call, word}
use Rattle.transitions.specs.Messages.{flat, word_in, words_in, ended_to, mover_to}
use Rattle.rules.specs.declared.channel.Hint.{Hint}

-- behind a list, places are counted from its end
behind_at : {A : Type 0} (xs ys : List A) (k : ℕ) → get_elem? (xs ++ ys) (length xs + k) ≡ get_elem? ys k
behind_at [] ys k = let e : 0 + k ≡ k = omega arith in rw e refl
behind_at (x ∷ xs) ys k = let e : suc (length xs) + k ≡ suc (length xs + k) = omega arith in rw e (behind_at xs ys k)

behind_without : {A : Type 0} (xs ys : List A) (k : ℕ) → without (xs ++ ys) (length xs + k) ≡ xs ++ without ys k
unfolding without
behind_without [] ys k = let e : 0 + k ≡ k = omega arith in rw e refl
behind_without (x ∷ xs) ys k = let e : suc (length xs) + k ≡ suc (length xs + k) = omega arith in rw e (ap (x ∷◌) (behind_without xs ys k))

module _ {A : Type 0} {B : Type 0} (f : A → List B) where
  pub flat_append : (xs ys : List A) → flat f (xs ++ ys) ≡ flat f xs ++ flat f ys
  unfolding flat
  flat_append [] ys = refl
  flat_append (x ∷ xs) ys = ap (f x ++◌) (flat_append xs ys) ∙ sym (append_assoc (f x) (flat f xs) (flat f ys))

  pub flat_one : (x : A) → flat f (one x) ≡ f x
  unfolding flat
  flat_one x = append-nil (f x)

  -- one more at the end, and what it gives
  pub flat_post : (xs : List A) (x : A) (ys : List B) → f x ≡ ys → flat f (xs ++ one x) ≡ flat f xs ++ ys
  flat_post xs x ys e = flat_append xs (one x) ∙ ap (flat f xs ++◌) (flat_one x ∙ e)

  pub flat_post_nothing : (xs : List A) (x : A) → f x ≡ [] → flat f (xs ++ one x) ≡ flat f xs
  flat_post_nothing xs x e = flat_post xs x [] e ∙ append-nil (flat f xs)

  -- what stands at place p, and gives nothing, is taken out
  pub flat_without : (xs : List A) (p : ℕ) {x : A} → get_elem? xs p ≡ some x → f x ≡ [] → flat f (without xs p) ≡ flat f xs
  unfolding flat without
  flat_without [] p {x} e n = absurd (let z : ◌≡◌ {A = ℕ} 0 1 = cc in omega arith)
  flat_without (y ∷ ys) zero {x} e n = let q : y ≡ x = cc in rw (q, n) refl
  flat_without (y ∷ ys) (suc p) {x} e n = ap (f y ++◌) (flat_without ys p e n)

  -- what stands at place p gives just one: its place among what is kept
  pub record Sorted (xs : List A) (p : ℕ) (b : B) : Type 0 where
    pub place : ℕ
    pub at : get_elem? (flat f xs) place ≡ some b
    pub taken : flat f (without xs p) ≡ without (flat f xs) place

  pub flat_place : (xs : List A) (p : ℕ) {x : A} (b : B) → get_elem? xs p ≡ some x → f x ≡ one b → Sorted xs p b
  unfolding flat without
  flat_place [] p {x} b e n = absurd (let z : ◌≡◌ {A = ℕ} 0 1 = cc in omega arith)
  flat_place (y ∷ ys) zero {x} b e n = let q : y ≡ x = cc in record { place = 0; at = rw (q, n) refl; taken = rw (q, n) refl }
  flat_place (y ∷ ys) (suc p) {x} b e n =
      let k = flat_place ys p b e n in
      record {
        place = length (f y) + k.place;
        at = behind_at (f y) (flat f ys) k.place ∙ k.at;
        taken = ap (f y ++◌) k.taken ∙ sym (behind_without (f y) (flat f ys) k.place);
      }

-- Ended and mover letters: each is one of its own task, of no other, and not of the other kind.
module _ (t : TaskId) (h : Hint) where
  pub own_ended : ended_to t (Terminated h t) ≡ one h
  unfolding ended_to
  own_ended = rw (eq-eqb t.0 t.0 refl) refl

  module _ (u : TaskId) where
    pub other_ended : u.0 ≢ t.0 → ended_to t (Terminated h u) ≡ []
    unfolding ended_to
    other_ended ne = rw (ne_eqb u.0 t.0 ne) refl

    pub no_mover : mover_to t (Terminated h u) ≡ []
    unfolding mover_to
    no_mover = refl

module _ (t : TaskId) (d : ProcessorId) where
  pub own_mover : mover_to t (Migration d t) ≡ one d.0
  unfolding mover_to
  own_mover = rw (eq-eqb t.0 t.0 refl) refl

  module _ (u : TaskId) where
    pub other_mover : u.0 ≢ t.0 → mover_to t (Migration d u) ≡ []
    unfolding mover_to
    other_mover ne = rw (ne_eqb u.0 t.0 ne) refl

    pub no_ended : ended_to t (Migration d u) ≡ []
    unfolding ended_to
    no_ended = refl

-- The words among the letters of a channel.

pub none_of : {A : Type 0} (xs : List A) → length xs ≡ 0 → xs ≡ []
none_of [] e = refl
none_of (x ∷ xs) e = absurd (omega arith)

pub words_length : (ls : List ChannelMessage) → length (words_in ls) ≡ words ls
unfolding flat word_in total is_word
words_length [] = refl
words_length (offer to d w k ∷ ls) = omega (arith, words_length ls)
words_length (advert to d ∷ ls) = omega (arith, words_length ls)
words_length (call to d k ∷ ls) = omega (arith, words_length ls)
words_length (word to x ∷ ls) = omega (arith, words_length ls)

pub no_words : (ls : List ChannelMessage) → words ls ≡ 0 → words_in ls ≡ []
no_words ls e = none_of (words_in ls) (words_length ls ∙ e)

-- a list of at most one element in which something stands
only_one : {A : Type 0} (xs : List A) (i : ℕ) {a : A} → get_elem? xs i ≡ some a → length xs ≤ 1 → (xs ≡ one a) × (without xs i ≡ [])
unfolding without
only_one [] i e few = absurd (let z : ◌≡◌ {A = ℕ} 0 1 = cc in omega arith)
only_one (x ∷ []) zero {a} e few = let q : x ≡ a = cc in (ap one q, refl)
only_one (x ∷ []) (suc i) e few = absurd (let z : ◌≡◌ {A = ℕ} 0 1 = cc in omega arith)
only_one (x ∷ y ∷ xs) i e few = absurd (omega arith)

-- the word at place q, where at most one is under way: the words before and after it is taken
pub one_word : (ls : List ChannelMessage) (q to : ℕ) (w : Word) → get_elem? ls q ≡ some (word to w) → words ls ≤ 1
    → (words_in ls ≡ one w) × (words_in (without ls q) ≡ [])
unfolding word_in
one_word ls q to w e few =
    let k = flat_place word_in ls q w e refl in
    let (before, then) = only_one (words_in ls) k.place k.at (omega (arith, words_length ls)) in
    (before, k.taken ∙ then)
