-- A number that is read in parts is the number that the whole text says, or 501 where that is more.
use mathlib.Core.Path.{◌≡◌, refl, sym, ap, ◌∙◌}
use mathlib.Core.Bool.{Bool, true, false}
use mathlib.Core.List.{List, [], ◌∷◌, ◌++◌}
use Prim.Native.Nat.{ℕ, ◌+◌, ◌*◌, ◌-◌, ◌≤◌, ◌<◌}
use native.Mathlib.Numerals.{add-one}
use native.Mathlib.Omega.{arith}
use lib.Dec.{leb}
use lib.ListN.{length, get_or, drop, drop_of_length-le}
use lib.Seq.{drop-cons}
use borrow.Author.Tests.{leb-false, le-leb, lt-leb}
use Rattle.base.proofs.Tests.{and_false}
use Rattle.chase.specs.declared.number.Number.{Number}
use Rattle.chase.specs.Numbers.{is_digit, decimal_from, decimal, at_most501, read_byte, read_on, unread}

-- in parts
pub read_parts : (x : Number) (a b : List ℕ) → read_on x (a ++ b) ≡ read_on (read_on x a) b
unfolding read_on
read_parts x [] b = refl
read_parts x (c ∷ cs) b = read_parts (read_byte x c) cs b

-- behind another byte nothing is read
read_closed : (n : ℕ) (b : List ℕ) → (read_on (record { value = n; more = false }) b).value ≡ n
unfolding read_on read_byte
read_closed n [] = refl
read_closed n (c ∷ cs) = read_closed n cs

-- one byte: a digit or not
abbrev going : ℕ → Number
going n = record { value = n; more = true }

abbrev closed : ℕ → Number
closed n = record { value = n; more = false }

digit_read : (n c : ℕ) → is_digit c ≡ true → read_byte (going n) c ≡ going (at_most501 (10 * n + (c - 48)))
unfolding read_byte
digit_read n c e = rw e refl

other_read : (n c : ℕ) → is_digit c ≡ false → read_byte (going n) c ≡ closed n
unfolding read_byte
other_read n c e = rw e refl

-- a digit more of a number that was cut
cut_more : (n d : ℕ) → at_most501 (10 * at_most501 n + d) ≡ at_most501 (10 * n + d)
cut_more n d = go (leb n 501) refl
  where
    go : (b : Bool) → leb n 501 ≡ b → at_most501 (10 * at_most501 n + d) ≡ at_most501 (10 * n + d)
    go true e = rw e refl
    go false e =
        let more = leb-false n 501 e in
        rw (e, lt-leb (10 * 501 + d) 501 (omega arith), lt-leb (10 * n + d) 501 (omega arith)) refl

abbrev FromRead : ℕ → List ℕ → Type 0
FromRead n b = (read_on (going (at_most501 n)) b).value ≡ at_most501 (decimal_from n b)

read_cons : (x : Number) (c : ℕ) (cs : List ℕ) → read_on x (c ∷ cs) ≡ read_on (read_byte x c) cs
unfolding read_on
read_cons x c cs = refl

digit_said : (n c : ℕ) (cs : List ℕ) → is_digit c ≡ true → decimal_from n (c ∷ cs) ≡ decimal_from (10 * n + (c - 48)) cs
unfolding decimal_from
digit_said n c cs e = rw e refl

other_said : (n c : ℕ) (cs : List ℕ) → is_digit c ≡ false → decimal_from n (c ∷ cs) ≡ n
unfolding decimal_from
other_said n c cs e = rw e refl

read_more : (n c : ℕ) (cs : List ℕ) → FromRead (10 * n + (c - 48)) cs → FromRead n (c ∷ cs)
read_more n c cs h = go (is_digit c) refl
  where
    go : (b : Bool) → is_digit c ≡ b → FromRead n (c ∷ cs)
    go true e =
        ap (λ (x : Number). x.value) (read_cons (going (at_most501 n)) c cs ∙ ap (λ (x : Number). read_on x cs) (digit_read (at_most501 n) c e))
        ∙ ap (λ (v : ℕ). (read_on (going v) cs).value) (cut_more n (c - 48))
        ∙ h
        ∙ ap (λ (v : ℕ). at_most501 v) (sym (digit_said n c cs e))
    go false e =
        ap (λ (x : Number). x.value) (read_cons (going (at_most501 n)) c cs ∙ ap (λ (x : Number). read_on x cs) (other_read (at_most501 n) c e))
        ∙ read_closed (at_most501 n) cs
        ∙ ap (λ (v : ℕ). at_most501 v) (sym (other_said n c cs e))

read_from : (n : ℕ) (b : List ℕ) → FromRead n b
read_from n [] = unfold read_on decimal_from in refl
read_from n (c ∷ cs) = read_more n c cs (read_from (10 * n + (c - 48)) cs)

pub number_read : (b : List ℕ) → (read_on unread b).value ≡ at_most501 (decimal b)
number_read b = read_from 0 b

-- what the code does with one byte: nothing where the number is ended, it ends at another byte, a digit is read
module _ (x : Number) (b : ℕ) where
  pub ended_read : x.more ≡ false → closed x.value ≡ read_byte x b
  unfolding read_byte
  ended_read h = rw h refl

  pub low_read : b < 48 → closed x.value ≡ read_byte x b
  unfolding read_byte
  low_read h = rw (lt-leb 48 b h, and_false x.more) refl

  pub high_read : 57 < b → closed x.value ≡ read_byte x b
  unfolding read_byte
  high_read h = rw (lt-leb b 57 h, and_false (leb 48 b), and_false x.more) refl

  pub more_read : (v : ℕ) → x.more ≡ true → 48 ≤ b → b ≤ 57 → v ≡ at_most501 (10 * x.value + (b - 48)) → going v ≡ read_byte x b
  unfolding read_byte
  more_read v h low high e = rw (h, le-leb 48 b low, le-leb b 57 high, e) refl

-- byte i, and the bytes behind the last
pub read_next : (x y whole : Number) (bytes : List ℕ) (i : ℕ) → i < length bytes → read_on x (drop i bytes) ≡ whole → y ≡ read_byte x (get_or bytes i 0)
    → read_on y (drop (i + 1) bytes) ≡ whole
unfolding read_on
read_next x y whole bytes i h e f = rw (f, add-one i) (rw (drop-cons bytes i 0 h) at e)

pub read_end : (x whole : Number) (bytes : List ℕ) (i : ℕ) → length bytes ≤ i → read_on x (drop i bytes) ≡ whole → x ≡ whole
unfolding read_on
read_end x whole bytes i h e = rw (drop_of_length-le bytes {i = i} h) at e
