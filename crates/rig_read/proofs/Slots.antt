-- The two numbers of a slot in use, by the kind of the letter: the letter's first number is the slot's where what the kind does not have is 0.
use mathlib.Core.Path.{◌≡◌, refl, sym}
use mathlib.Core.Bool.{Bool, true, false}
use mathlib.Core.List.{[], ◌∷◌}
use Prim.Native.Nat.{ℕ, ◌+◌, ◌*◌, ◌/◌, ◌%◌, ◌<◌}
use native.Mathlib.Omega.{arith}
use lib.Dec.{eqb, ltb}
use borrow.Author.Tests.{eqb-true, eq-eqb, ne_eqb, ltb-true, lt-ltb}
use Rattle.base.proofs.Tests.{and_true, and_false, is_false, tests_differ}
use Rattle.rules.specs.declared.message.Message.TheVariants.{Empty}
use Rattle.rules.specs.Sound.{message_ok}
use Rattle.board.specs.packing.Packed.{byte2, byte3, byte4, byte5, word_of, word_number}
use Rattle.image.specs.Numbers.{same_bytes}
use Rattle.image.specs.Letters.{letter_word, letter_numbers, byte1, high16, letter_of}
use Rattle.image_laws.specs.Held.{top64}
use Rattle.image_laws.proofs.Letters.{number_again}
use Rattle.rig_read.proofs.Fields.{fields}
use Rattle.rig_read.specs.Passing.{slot_passes}
use Rattle.rig_read.specs.Slots.{offered_passes, advert_passes, call_passes, word_passes, ended_passes, mover_passes}

-- two tests that follow from each other
alike : (a b : Bool) → (a ≡ true → b ≡ true) → (b ≡ true → a ≡ true) → a ≡ b
alike true b p q = sym (p refl)
alike false b p q = sym (is_false b (λ h. tests_differ (q h) refl))

same_zero : (a x b y : ℕ) → (a ≡ x → b ≡ y) → (b ≡ y → a ≡ x) → eqb b y ≡ eqb a x
same_zero a x b y p q = alike (eqb b y) (eqb a x) (λ h. eq-eqb a x (q (eqb-true b y h))) (λ h. eq-eqb b y (p (eqb-true a x h)))

same_below : (a x b y : ℕ) → (a ≡ x → b < y) → (b < y → a ≡ x) → ltb b y ≡ eqb a x
same_below a x b y p q = alike (ltb b y) (eqb a x) (λ h. eq-eqb a x (q (ltb-true b y h))) (λ h. lt-ltb b y (p (eqb-true a x h)))

-- the two bytes of the number of an offer, and three bytes
two_bytes : (v : ℕ) → v / 4294967296 % 65536 ≡ byte4 v + 256 * byte5 v
two_bytes v = omega arith

three_bytes : (v : ℕ) → v / 16777216 % 16777216 ≡ byte3 v + 256 * (v / 4294967296 % 65536)
three_bytes v = omega arith

-- where a field is 0
offer_zero : (v k r s t o x y u : ℕ) → letter_word k r s t o u ≡ v → o ≡ x + 256 * y → letter_word k r s t x u ≡ v → y ≡ 0
offer_zero v k r s t o x y u p q h = omega arith

zero_offer : (v k r s t o x y u : ℕ) → letter_word k r s t o u ≡ v → o ≡ x + 256 * y → y ≡ 0 → letter_word k r s t x u ≡ v
zero_offer v k r s t o x y u p q h = omega arith

seconds_zero : (v k r s t o x u : ℕ) → letter_word k r s t o u ≡ v → x ≡ t + 256 * o → letter_word k r s 0 0 u ≡ v → x ≡ 0
seconds_zero v k r s t o x u p q h = omega arith

zero_seconds : (v k r s t o x u : ℕ) → letter_word k r s t o u ≡ v → x ≡ t + 256 * o → x ≡ 0 → letter_word k r s 0 0 u ≡ v
zero_seconds v k r s t o x u p q h = omega arith

-- a number of four bytes, and one of three
four_below : (v k r s t : ℕ) → k < 256 → r < 256 → s < 256 → t < 256 → letter_word k r s t 0 0 ≡ v → v < 4294967296
four_below v k r s t a b c d h = omega arith

below_four : (v k : ℕ) → v < top64 → v % 256 ≡ k → v < 4294967296 → letter_word k (byte1 v) (byte2 v) (byte3 v) 0 0 ≡ v
below_four v k l e h =
    let o : v / 4294967296 % 65536 ≡ 0 = omega arith in
    let u : high16 v ≡ 0 = omega arith in
    rw (e, o, u) at (fields v l)

three_below : (v k r s : ℕ) → k < 256 → r < 256 → s < 256 → letter_word k r s 0 0 0 ≡ v → v < 16777216
three_below v k r s a b c h = omega arith

below_three : (v k : ℕ) → v < top64 → v % 256 ≡ k → v < 16777216 → letter_word k (byte1 v) (byte2 v) 0 0 0 ≡ v
below_three v k l e h = let t : byte3 v ≡ 0 = omega arith in rw t at (below_four v k l e (omega arith))

module _ (n m v w : ℕ) (l : v < top64) where
  pub offered_slot : v % 256 ≡ 1 → offered_passes n v w ≡ slot_passes n m v w
  unfolding letter_of letter_numbers message_ok same_bytes
  offered_slot k =
      let e : eqb (byte5 v) 0 ≡ eqb (letter_word 1 (byte1 v) (byte2 v) (byte3 v) (byte4 v) (high16 v)) v =
      same_zero _ v (byte5 v) 0 (λ h. offer_zero v 1 (byte1 v) (byte2 v) (byte3 v) (v / 4294967296 % 65536) (byte4 v) (byte5 v) (high16 v) (rw k at (fields v l)) (two_bytes v) h) (λ h. zero_offer v 1 (byte1 v) (byte2 v) (byte3 v) (v / 4294967296 % 65536) (byte4 v) (byte5 v) (high16 v) (rw k at (fields v l)) (two_bytes v) h) in
      rw (k, e, and_true (eqb 0 w)) refl

  pub advert_slot : v % 256 ≡ 2 → advert_passes n v w ≡ slot_passes n m v w
  unfolding letter_of letter_numbers message_ok same_bytes
  advert_slot k =
      let e : ltb v 4294967296 ≡ eqb (letter_word 2 (byte1 v) (byte2 v) (byte3 v) 0 0) v =
      same_below _ v v 4294967296 (four_below v 2 (byte1 v) (byte2 v) (byte3 v) (omega arith) (omega arith) (omega arith) (omega arith)) (below_four v 2 l k) in
      rw (k, e, and_true (eqb 0 w)) refl

  pub call_slot : v % 256 ≡ 3 → call_passes n v w ≡ slot_passes n m v w
  unfolding letter_of letter_numbers message_ok same_bytes
  call_slot k =
      let e : eqb (v / 4294967296 % 65536) 0 ≡ eqb (letter_word 3 (byte1 v) (byte2 v) (byte3 v) 0 (high16 v)) v =
      same_zero _ v (v / 4294967296 % 65536) 0 (λ h. let f = rw k at (fields v l) in omega (arith, f, h)) (λ h. let f = rw k at (fields v l) in omega (arith, f, h)) in
      rw (k, e, and_true (eqb 0 w)) refl

  pub word_slot : w < top64 → v % 256 ≡ 4 → word_passes n v ≡ slot_passes n m v w
  unfolding letter_of letter_numbers message_ok same_bytes
  word_slot b k =
      let e : ltb v 16777216 ≡ eqb (letter_word 4 (byte1 v) (byte2 v) 0 0 0) v =
      same_below _ v v 16777216 (three_below v 4 (byte1 v) (byte2 v) (omega arith) (omega arith) (omega arith)) (below_three v 4 l k) in
      rw (k, e, eq-eqb (word_number (word_of w)) w (number_again w b), and_true (eqb (letter_word 4 (byte1 v) (byte2 v) 0 0 0) v)) refl

  pub ended_slot : v % 256 ≡ 5 → ended_passes n m v w ≡ slot_passes n m v w
  unfolding letter_of letter_numbers message_ok same_bytes
  ended_slot k =
      let e : eqb (v / 16777216 % 16777216) 0 ≡ eqb (letter_word 5 (byte1 v) (byte2 v) 0 0 (high16 v)) v =
      same_zero _ v (v / 16777216 % 16777216) 0 (λ h. seconds_zero v 5 (byte1 v) (byte2 v) (byte3 v) (v / 4294967296 % 65536) (v / 16777216 % 16777216) (high16 v) (rw k at (fields v l)) (three_bytes v) h) (λ h. zero_seconds v 5 (byte1 v) (byte2 v) (byte3 v) (v / 4294967296 % 65536) (v / 16777216 % 16777216) (high16 v) (rw k at (fields v l)) (three_bytes v) h) in
      rw (k, e, and_true (eqb 0 w)) refl

  pub mover_slot : v % 256 ≡ 6 → mover_passes n m v w ≡ slot_passes n m v w
  unfolding letter_of letter_numbers message_ok same_bytes
  mover_slot k =
      let e : ltb v 16777216 ≡ eqb (letter_word 6 (byte1 v) (byte2 v) 0 0 0) v =
      same_below _ v v 16777216 (three_below v 6 (byte1 v) (byte2 v) (omega arith) (omega arith) (omega arith)) (below_three v 6 l k) in
      rw (k, e, and_true (eqb 0 w)) refl

  -- no letter
  pub empty_slot : (v % 256 ≡ 1 → ⊥) → (v % 256 ≡ 2 → ⊥) → (v % 256 ≡ 3 → ⊥) → (v % 256 ≡ 4 → ⊥) → (v % 256 ≡ 5 → ⊥) → (v % 256 ≡ 6 → ⊥)
      → false ≡ slot_passes n m v w
  unfolding letter_of message_ok
  empty_slot p1 p2 p3 p4 p5 p6 =
      let k = v % 256 in
      rw (ne_eqb k 1 p1, ne_eqb k 2 p2, ne_eqb k 3 p3, ne_eqb k 4 p4, ne_eqb k 5 p5, ne_eqb k 6 p6) (sym (and_false (same_bytes (letter_numbers Empty) (v ∷ w ∷ []))))
