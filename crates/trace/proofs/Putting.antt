-- Texts written into the output one behind another, and numbers digit by digit.
use mathlib.Core.Path.{◌≡◌, refl, sym, ◌∙◌}
use mathlib.Core.List.{List, [], ◌∷◌, ◌++◌, append_assoc}
use Prim.Native.Nat.{ℕ, zero, suc, ◌+◌, ◌^◌, ◌/◌, ◌%◌, ◌≤◌, ◌<◌}
use native.Mathlib.Nat.{pow-succ'}
use native.Mathlib.Numerals.{add-one}
use native.Mathlib.Omega.{arith}
use lib.ListN.{length, set, take, drop, length-append, length-drop}
use lib.Seq.{set_split, length-take-le, take_at, drop-append-add, drop-drop}
use Rattle.std.specs.Prelude.{None, Some}
use Rattle.plan.specs.declared.ChannelId.{ChannelId}
use Rattle.plan.specs.declared.Word.{Word as WordOf}
use Rattle.plan.specs.Words.{word_numbers}
use Rattle.rules.specs.declared.step.Report.{Report}
use Rattle.rules.specs.Answers.{step_number}
use Rattle.rules.specs.Trace.{decimal, fields, step_line}
use Rattle.trace.proofs.Decimals.{decimal_one, decimal_more, length_more, five_digits}
use Rattle.trace.specs.Lines.{level_fields}
use Rattle.trace.specs.Output.{Emitted, Put, PutTo}
use Rattle.trace.proofs.Emitting.{fits}

-- a number of k + 2 digits
pub digits_are : (k n : ℕ) → 10 ^ suc k ≤ n → n < 10 ^ suc (suc k) → length (decimal n) ≡ suc (suc k)
digits_are zero n h l = length_more n h ∙ rw (decimal_one (n / 10) (omega arith)) refl
digits_are (suc k) n h l =
    let p = pow-succ' 10 (suc k) in
    let q = pow-succ' 10 (suc (suc k)) in
    omega (arith, length_more n (omega (arith, p, q)), digits_are k (n / 10) (omega (arith, p, q)) (omega (arith, p, q)))

-- a byte
pub put_byte : (o : List ℕ) (at b : ℕ) → at < length o → Put o at (b ∷ []) (set o at b)
put_byte o at b h = record { bytes = rw add-one (set_split o at b h); room = omega arith }

module _ {o : List ℕ} {at : ℕ} {t p : List ℕ} (x : Put o at t p) where
  -- what stands before and behind t
  before_end : length (take at o ++ t) ≡ at + length t
  before_end = simp length-append (omega (arith, length-take-le at o (omega (arith, x.room))))

  whole : p ≡ (take at o ++ t) ++ drop (at + length t) o
  whole = x.bytes ∙ sym (append_assoc (take at o) t (drop (at + length t) o))

  -- the output stays as long
  pub put_length : length p ≡ length o
  put_length = rw whole (simp (length-append, length-drop) (omega (arith, simp length-append at before_end, x.room)))

  -- u behind t
  pub put_more : {u q : List ℕ} → Put p (at + length t) u q → Put o at (t ++ u) q
  put_more {u} {q} y =
      let e : take (at + length t) p ≡ take at o ++ t = rw whole (take_at (take at o ++ t) (drop (at + length t) o) (at + length t) before_end) in
      let f : drop (at + length t + length u) p ≡ drop (at + length t + length u) o =
      rw (whole, ← before_end, drop-append-add (take at o ++ t) (drop (length (take at o ++ t)) o) (length u)) (drop-drop (length u) (length (take at o ++ t)) o) in
      let l : at + length t + length u ≡ at + length (t ++ u) = omega (arith, length-append t u) in
      let d : drop (at + length t + length u) p ≡ drop (at + length (t ++ u)) o = f ∙ rw l refl in
      record {
        bytes = y.bytes ∙ rw (e, d) (simp append_assoc);
        room = omega (arith, y.room, put_length, length-append t u);
      }

pub one_digit : (n : ℕ) → n < 10 → length (decimal n) ≡ 1
one_digit n h = rw (decimal_one n h) refl

-- a number of one digit; a digit d more behind w of them
pub put_one : (o : List ℕ) (at n d : ℕ) → n < 10 → at < length o → d ≡ 48 + n → Put o at (decimal n) (set o at d)
put_one o at n d h l e = rw (decimal_one n h, ← e) (put_byte o at d l)

pub put_digit : {o : List ℕ} {at n : ℕ} {p : List ℕ} → Put o at (decimal (n / 10)) p → (w d : ℕ) → 10 ≤ n → length (decimal (n / 10)) ≡ w
    → at + w < length o → d ≡ 48 + n % 10 → Put o at (decimal n) (set p (at + w) d)
put_digit {at = at} {n = n} {p = p} x w d h e l q =
    rw (decimal_more n h, ← q) (put_more x (rw e (put_byte p (at + w) d (omega (arith, put_length x)))))

-- the same, with where each text ends
pub put_to_more : {o : List ℕ} {at : ℕ} {t : List ℕ} {r : ℕ} {p u : List ℕ} {e : ℕ} {q : List ℕ}
    → PutTo o at t r p → PutTo p r u e q → PutTo o at (t ++ u) e q
put_to_more {t = t} {u = u} x y =
    record { put = put_more x.put (rw x.end at y.put); end = omega (arith, x.end, y.end, length-append t u) }

-- a byte, with where it ends
pub put_to_byte : (o : List ℕ) (at b : ℕ) → at < length o → PutTo o at (b ∷ []) (at + 1) (set o at b)
put_to_byte o at b h = record { put = put_byte o at b h; end = refl }

-- a space and what is put behind it
pub put_space : {o : List ℕ} {at : ℕ} {t : List ℕ} {r : ℕ} {p : List ℕ} → at < length o → PutTo (set o at 32) (at + 1) t r p → PutTo o at (32 ∷ t) r p
put_space {o} {at} h x = put_to_more (put_to_byte o at 32 h) x

-- a line feed behind t is the line s
pub line_end : {o : List ℕ} {f : ℕ} {t : List ℕ} {r : ℕ} {p : List ℕ} → PutTo o f t r p → (s : List ℕ) (n : ℕ) → t ++ (10 ∷ []) ≡ s → r < length o → n ≡ length s
    → Emitted o f s n (set p r 10)
line_end {r = r} {p = p} x s n e h l =
    let y = put_to_more x (put_to_byte p r 10 (omega (arith, put_length x.put))) in
    let z = rw e at y.put in
    fits z.room l z.bytes

pub head_length : (k a : ℕ) → length (decimal k ++ (32 ∷ decimal a)) ≡ length (decimal k) + length (decimal a) + 1
head_length k a = omega (arith, length-append (decimal k) (32 ∷ decimal a))

-- a line of two numbers, and of two numbers, a channel and a word
pub two_text : (k a : ℕ) → (decimal k ++ (32 ∷ decimal a)) ++ (10 ∷ []) ≡ decimal k ++ fields (a ∷ [])
unfolding fields
two_text k a = simp append_assoc

pub two_length : (k a : ℕ) → length (decimal k ++ fields (a ∷ [])) ≡ length (decimal k) + length (decimal a) + 2
two_length k a = rw (← two_text k a) (omega (arith, length-append (decimal k ++ (32 ∷ decimal a)) (10 ∷ []), head_length k a))

pub levels_length : (w : WordOf) → length (level_fields w) ≡ length (decimal w.0) + length (decimal w.1) + length (decimal w.2) + length (decimal w.3) + 4
unfolding level_fields
levels_length w = simp length-append (omega arith)

pub levels_short : (w : WordOf) → w.0 < 65536 → w.1 < 65536 → w.2 < 65536 → w.3 < 65536 → length (level_fields w) ≤ 24
levels_short w p q r s =
    let a = five_digits w.0 (omega arith) in
    let b = five_digits w.1 (omega arith) in
    let c = five_digits w.2 (omega arith) in
    let d = five_digits w.3 (omega arith) in
    omega (arith, levels_length w)

module _ (k a c : ℕ) (w : WordOf) where
  pub word_text : (((decimal k ++ (32 ∷ decimal a)) ++ (32 ∷ decimal c)) ++ level_fields w) ++ (10 ∷ []) ≡ decimal k ++ fields (a ∷ c ∷ word_numbers w)
  unfolding fields level_fields
  word_text = simp append_assoc

  pub word_length : length (decimal k ++ fields (a ∷ c ∷ word_numbers w))
      ≡ length (decimal k) + length (decimal a) + length (decimal c) + length (level_fields w) + 3
  word_length = rw (← word_text) (simp length-append (omega arith))

-- the line of a step that received nothing, and of one that received the word w on channel c
module _ (k : ℕ) (q : Report) (a : ℕ) (e : a ≡ step_number q.answer) where
  pub step_none : q.received ≡ None → decimal k ++ fields (a ∷ []) ≡ step_line k q
  unfolding step_line
  step_none n = rw (n, e) refl

  pub step_word : (c : ChannelId) (w : WordOf) → q.received ≡ Some (c, w) → (x : ℕ) → x ≡ c.0 → decimal k ++ fields (a ∷ x ∷ word_numbers w) ≡ step_line k q
  unfolding step_line
  step_word c w n x ex = rw (n, e, ex) refl
