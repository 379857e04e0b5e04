-- Numbers as bytes: written and read again, read and written again.
use mathlib.Core.Path.{◌≡◌, refl, sym, ◌∙◌, ap}
use mathlib.Core.List.{List, [], ◌∷◌, ◌++◌, append_assoc, append-nil}
use Prim.Native.Nat.{ℕ, zero, suc, ◌+◌, ◌*◌, ◌/◌, ◌%◌, ◌^◌, ◌<◌, ◌≤◌}
use native.Mathlib.Nat.{add-zero, mul-zero, mul-suc, pow-succ'}
use native.Mathlib.Numerals.{add-one}
use native.Mathlib.Omega.{arith}
use lib.ListN.{length, get_or, take, drop, length-append, length-take, length-drop}
use lib.Seq.{drop-cons, take-add, drop-drop, ext_get_or, get_or-take, get_or-drop}
use Rattle.base.specs.Lists.{table, table_before}
use Rattle.base.proofs.Tables.{length_table, get_d_table, table_more}
use Rattle.plan_laws.specs.Bytes.{Bytes}
use Rattle.plan_laws.proofs.Pieces.{whole}
use Rattle.plan_laws.proofs.Held.{Held, held_left, held_right, held_all}
use Rattle.image.specs.Numbers.{number_bytes, numbers_bytes, number_at, numbers_at}

-- lengths
pub length_number : (w v : ℕ) → length (number_bytes w v) ≡ w
unfolding number_bytes
length_number zero v = refl
length_number (suc w) v = ap suc (length_number w (v / 256))

pub length_numbers : (w : ℕ) (vs : List ℕ) → length (numbers_bytes w vs) ≡ w * length vs
unfolding numbers_bytes
length_numbers w [] = sym (mul-zero w)
length_numbers w (v ∷ vs) =
    rw (length-append (number_bytes w v) (numbers_bytes w vs), length_number w v, length_numbers w vs, mul-suc w (length vs)) (omega arith)

pub length_numbers_at : (w n : ℕ) (b : List ℕ) (at : ℕ) → length (numbers_at w n b at) ≡ n
unfolding numbers_at
length_numbers_at w n b at = length_table n _

-- numbers behind numbers
pub numbers_append : (w : ℕ) (xs ys : List ℕ) → numbers_bytes w (xs ++ ys) ≡ numbers_bytes w xs ++ numbers_bytes w ys
unfolding numbers_bytes
numbers_append w [] ys = refl
numbers_append w (x ∷ xs) ys =
    rw (numbers_append w xs ys) (sym (append_assoc (number_bytes w x) (numbers_bytes w xs) (numbers_bytes w ys)))

-- what is held behind the first byte
held_tail : (b : List ℕ) (at x : ℕ) (xs : List ℕ) → Held b at (x ∷ xs) → Held b (suc at) xs
held_tail b at x xs h j q =
    let e : suc at + j ≡ at + suc j = omega arith in
    rw e (h (suc j) (omega arith))

held_head : (b : List ℕ) (at x : ℕ) (xs : List ℕ) → Held b at (x ∷ xs) → get_or b at 0 ≡ x
held_head b at x xs h = rw (add-zero at) at (h 0 (omega arith))

-- a number that was written is read
pub held_number_lem : (w v : ℕ) (b : List ℕ) (at : ℕ) → Held b at (number_bytes w v) → v < 256 ^ w → number_at w b at ≡ v
unfolding number_bytes number_at
held_number_lem zero v b at h l = omega arith
held_number_lem (suc w) v b at h l =
    let p = pow-succ' 256 w in
    let rest : number_at w b (suc at) ≡ v / 256 =
    held_number_lem w (v / 256) b (suc at) (held_tail b at (v % 256) (number_bytes w (v / 256)) h) (omega arith) in
    let first : get_or b at 0 ≡ v % 256 = held_head b at (v % 256) (number_bytes w (v / 256)) h in
    omega arith

-- and the numbers of a list
pub held_numbers_at : (w : ℕ) (vs b : List ℕ) (at i : ℕ) → Held b at (numbers_bytes w vs) → i < length vs → Held b (at + w * i) (number_bytes w (get_or vs i 0))
unfolding numbers_bytes
held_numbers_at w [] b at i h l = absurd (omega arith)
held_numbers_at w (v ∷ vs) b at zero h l = rw (mul-zero w, add-zero at) (held_left b at (number_bytes w v) (numbers_bytes w vs) h)
held_numbers_at w (v ∷ vs) b at (suc i) h l =
    let e : at + w * suc i ≡ at + w + w * i = rw (mul-suc w i) (omega arith) in
    rw e
    (held_numbers_at w vs b (at + w) i (rw (length_number w v) at (held_right b at (number_bytes w v) (numbers_bytes w vs) h)) (omega arith))

-- numbers below a bound
abbrev pub Below : ℕ → List ℕ → Type 0
Below m vs = (i : ℕ) → i < length vs → get_or vs i 0 < m

pub held_numbers : (w : ℕ) (vs b : List ℕ) (at : ℕ) → Held b at (numbers_bytes w vs) → Below (256 ^ w) vs → numbers_at w (length vs) b at ≡ vs
unfolding numbers_at
held_numbers w vs b at h small =
    whole vs 0 (length vs) refl (λ k. number_at w b (at + w * k))
    (λ i l. held_number_lem w (get_or vs i 0) b (at + w * i) (held_numbers_at w vs b at i h l) (small i l))

-- two lists of numbers with the same bytes
pub same_numbers : (w : ℕ) (xs ys : List ℕ) → length xs ≡ length ys → Below (256 ^ w) xs → Below (256 ^ w) ys
    → numbers_bytes w xs ≡ numbers_bytes w ys → xs ≡ ys
same_numbers w xs ys e p q same =
    let h : Held (numbers_bytes w ys) 0 (numbers_bytes w xs) = rw same (held_all (numbers_bytes w ys)) in
    sym (held_numbers w xs (numbers_bytes w ys) 0 h p)
    ∙ ap (λ (n : ℕ). numbers_at w n (numbers_bytes w ys) 0) e
    ∙ held_numbers w ys (numbers_bytes w ys) 0 (held_all (numbers_bytes w ys)) q

-- what is read fits
pub number_below : (w : ℕ) (b : List ℕ) (at : ℕ) → Bytes b → number_at w b at < 256 ^ w
unfolding number_at
number_below zero b at bytes = omega arith
number_below (suc w) b at bytes = omega (arith, pow-succ' 256 w, bytes at, number_below w b (suc at) bytes)

pub numbers_below : (w n : ℕ) (b : List ℕ) (at : ℕ) → Bytes b → Below (256 ^ w) (numbers_at w n b at)
unfolding numbers_at
numbers_below w n b at bytes i l =
    let q : i < n = rw (length_table n (λ k. number_at w b (at + w * k))) at l in
    rw (get_d_table n (λ k. number_at w b (at + w * k)) i 0 q) (number_below w b (at + w * i) bytes)

-- a number that was read is written
pub number_piece : (w : ℕ) (b : List ℕ) (at : ℕ) → Bytes b → at + w ≤ length b → number_bytes w (number_at w b at) ≡ take w (drop at b)
unfolding number_at number_bytes
number_piece zero b at bytes l = refl
number_piece (suc w) b at bytes l =
    let n = number_at w b (suc at) in
    let low : (get_or b at 0 + 256 * n) % 256 ≡ get_or b at 0 = omega (arith, bytes at) in
    let high : (get_or b at 0 + 256 * n) / 256 ≡ n = omega (arith, bytes at) in
    rw (low, high, drop-cons b at 0 (omega arith), number_piece w b (suc at) bytes (omega arith)) refl

pub numbers_piece : (w n : ℕ) (b : List ℕ) (at : ℕ) → Bytes b → at + w * n ≤ length b → numbers_bytes w (numbers_at w n b at) ≡ take (w * n) (drop at b)
unfolding numbers_at
numbers_piece w zero b at bytes l = rw (mul-zero w) (unfold table table_before numbers_bytes in refl)
numbers_piece w (suc n) b at bytes l =
    let f : ℕ → ℕ = λ k. number_at w b (at + w * k) in
    let m = mul-suc w n in
    let last : numbers_bytes w (f n ∷ []) ≡ take w (drop (at + w * n) b) =
    unfold numbers_bytes in append-nil (number_bytes w (f n)) ∙ number_piece w b (at + w * n) bytes (omega arith) in
    rw (← add-one n, table_more n f, numbers_append w (table n f) (f n ∷ []), last, numbers_piece w n b at bytes (omega arith), add-one n, m, take-add (w * n) w (drop at b), drop-drop (w * n) at b) refl

-- bytes are numbers of one byte
pub held_bytes : (xs b : List ℕ) (at : ℕ) → Held b at xs → numbers_at 1 (length xs) b at ≡ xs
unfolding numbers_at number_at
held_bytes xs b at h =
    whole xs 0 (length xs) refl (λ k. get_or b (at + 1 * k) 0 + 256 * 0)
    (λ i l. let e : at + 1 * i ≡ at + i = omega arith in rw e (omega (arith, h i l)))

pub bytes_piece : (n : ℕ) (b : List ℕ) (at : ℕ) → at + n ≤ length b → numbers_at 1 n b at ≡ take n (drop at b)
bytes_piece n b at l =
    let s : length (take n (drop at b)) ≡ n = omega (arith, length-take n (drop at b), length-drop at b) in
    let h : Held b at (take n (drop at b)) = λ i q. sym (get_or-take n (drop at b) i 0 (omega arith) ∙ get_or-drop at b i 0) in
    rw s at (held_bytes (take n (drop at b)) b at h)

-- what a list holds is a piece of it
pub held_piece : (xs b : List ℕ) (at : ℕ) → Held b at xs → at + length xs ≤ length b → take (length xs) (drop at b) ≡ xs
held_piece xs b at h l =
    let s : length (take (length xs) (drop at b)) ≡ length xs = omega (arith, length-take (length xs) (drop at b), length-drop at b) in
    ext_get_or 0 (take (length xs) (drop at b)) xs s
    (λ i q. let m : i < length xs = omega arith in get_or-take (length xs) (drop at b) i 0 m ∙ get_or-drop at b i 0 ∙ h i m)
