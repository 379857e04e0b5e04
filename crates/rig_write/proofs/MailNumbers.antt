-- The mail as numbers: a letter has two, an unused slot two zeros, and zeros behind the letters are those of the unused slots.
use mathlib.Core.Path.{◌≡◌, refl, sym, ap, ◌∙◌}
use mathlib.Core.List.{List, [], ◌∷◌, ◌++◌, append_assoc, append-nil}
use Prim.Native.Nat.{ℕ, zero, suc, ◌+◌, ◌*◌, ◌-◌, ◌<◌, ◌≤◌}
use native.Mathlib.Omega.{arith}
use lib.ListN.{get_or, replicate, replicate-append-replicate}
use borrow.Author.Tests.{le-ltb}
use Rattle.base.specs.Range.{fold, joined}
use Rattle.base.proofs.Folds.{fold_add}
use Rattle.rules.specs.declared.message.Message.{Message}
use Rattle.rules.specs.declared.message.Message.TheVariants.{Empty, Offered, Advert, ReadyToReceive, Data, Terminated, Migration}
use Rattle.rules.specs.declared.message.Network.{Network}
use Rattle.image.specs.Numbers.{number_bytes, numbers_bytes}
use Rattle.image.specs.Letters.{letter_numbers, mail_numbers}
use Rattle.image_laws.proofs.Numbers.{numbers_append}
use Rattle.rig_write.specs.Sections.{slot_at}

pub two_numbers : (m : Message) → letter_numbers m ≡ get_or (letter_numbers m) 0 0 ∷ get_or (letter_numbers m) 1 0 ∷ []
unfolding letter_numbers
two_numbers Empty = refl
two_numbers (Offered c o h) = refl
two_numbers (Advert c d e) = refl
two_numbers (ReadyToReceive c d h) = refl
two_numbers (Data c d w) = refl
two_numbers (Terminated h t) = refl
two_numbers (Migration d t) = refl

-- zeros
zero_pairs : (f : ℕ → List ℕ) (j : ℕ) → ((i : ℕ) → i < j → f i ≡ 0 ∷ 0 ∷ []) → numbers_bytes 8 (joined j f) ≡ replicate (16 * j) 0
unfolding fold
zero_pairs f zero h = unfold numbers_bytes in refl
zero_pairs f (suc j) h =
    let e : 16 * suc j ≡ 16 * j + 16 = omega arith in
    let z : numbers_bytes 8 (0 ∷ 0 ∷ []) ≡ replicate 16 0 = unfold numbers_bytes number_bytes in refl in
    rw (numbers_append 8 (joined j f) (f j), zero_pairs f j (λ i l. h i (omega arith)), h j (omega arith), z, e) (replicate-append-replicate (16 * j) 16 0)

module _ (n : Network) (m : ℕ) (few : m ≤ 256) (last : m < 256 → m ≡ n.used) where
  pub mail_rest : numbers_bytes 8 (mail_numbers n) ≡ numbers_bytes 8 (joined m (slot_at n)) ++ replicate (4096 - 16 * m) 0
  unfolding mail_numbers
  mail_rest =
      let all : m + (256 - m) ≡ 256 = omega arith in
      let count : 16 * (256 - m) ≡ 4096 - 16 * m = omega arith in
      let split : joined (m + (256 - m)) (slot_at n) ≡ joined m (slot_at n) ++ joined (256 - m) (λ i. slot_at n (m + i)) =
      fold_add ◌++◌ [] append_assoc append-nil m (256 - m) (slot_at n) in
      let whole : joined 256 (slot_at n) ≡ joined m (slot_at n) ++ joined (256 - m) (λ i. slot_at n (m + i)) =
      ap (λ (k : ℕ). joined k (slot_at n)) (sym all) ∙ split in
      let zeros : numbers_bytes 8 (joined (256 - m) (λ i. slot_at n (m + i))) ≡ replicate (4096 - 16 * m) 0 =
      zero_pairs (λ i. slot_at n (m + i)) (256 - m) (λ i l. let e = last (omega arith) in rw (le-ltb (m + i) n.used (omega arith)) refl)
      ∙ ap (λ (k : ℕ). replicate k 0) count in
      ap (numbers_bytes 8) whole ∙ numbers_append 8 (joined m (slot_at n)) (joined (256 - m) (λ i. slot_at n (m + i)))
      ∙ ap (λ (l : List ℕ). numbers_bytes 8 (joined m (slot_at n)) ++ l) zeros

-- a mail without letters
pub mail_none : (n : Network) → n.used ≡ 0 → numbers_bytes 8 (mail_numbers n) ≡ replicate 4096 0
mail_none n e = mail_rest n 0 (omega arith) (λ l. sym e) ∙ unfold fold numbers_bytes in refl
