-- A line that fits and one that does not, and what the result tells of it; a line put at the front of what is left.
use mathlib.Core.Path.{◌≡◌, refl}
use mathlib.Core.Logic.{by_cases}
use mathlib.Core.List.{List, [], ◌++◌, append_assoc, append-nil}
use Prim.Native.Nat.{ℕ, ◌+◌, ◌-◌, ◌≤◌, ◌<◌}
use native.Mathlib.Decide.{dec_le}
use native.Mathlib.Nat.{zero-add}
use native.Mathlib.Omega.{arith}
use lib.ListN.{length, take, drop, length-append, length-drop, drop_of_length-le}
use lib.Seq.{take_all, drop-drop, length-take-le}
use borrow.Author.Tests.{le-leb, lt-leb}
use borrow.Rule.Slice.PartMut.{mid_of, put_mid, put_same, mid_len}
use Rattle.trace.specs.Output.{Emitted}

-- f is where the filled part of o ends, t the line
module _ {o : List ℕ} {f : ℕ} {t : List ℕ} {r : ℕ} {p : List ℕ} where
  pub fits : f + length t ≤ length o → r ≡ length t → p ≡ take f o ++ (t ++ drop (f + length t) o) → Emitted o f t r p
  fits h er ep = let e = le-leb (f + length t) (length o) h in record { count = rw e er; bytes = rw e ep }

  pub fits_not : length o < f + length t → r ≡ 0 → p ≡ o → Emitted o f t r p
  fits_not h er ep = let e = lt-leb (f + length t) (length o) h in record { count = rw e er; bytes = rw e ep }

  module _ (e : Emitted o f t r p) where
    pub count_fits_lem : f + length t ≤ length o → r ≡ length t
    count_fits_lem h = rw (le-leb (f + length t) (length o) h) at e.count

    pub bytes_fit : f + length t ≤ length o → p ≡ take f o ++ (t ++ drop (f + length t) o)
    bytes_fit h = rw (le-leb (f + length t) (length o) h) at e.bytes

    pub count_none : length o < f + length t → r ≡ 0
    count_none h = rw (lt-leb (f + length t) (length o) h) at e.count

    pub bytes_same : length o < f + length t → p ≡ o
    bytes_same h = rw (lt-leb (f + length t) (length o) h) at e.bytes

    -- what the result tells
    pub fitted : 1 ≤ r → f + length t ≤ length o
    fitted h = by_cases (dec_le (f + length t) (length o)) (λ (l : f + length t ≤ length o). l) (λ n. absurd (omega (arith, count_none (omega arith))))

    pub fitted_not : 1 ≤ length t → r ≡ 0 → length o < f + length t
    fitted_not h z =
        by_cases (dec_le (f + length t) (length o)) (λ (l : f + length t ≤ length o). absurd (omega (arith, count_fits_lem l))) (λ n. omega arith)

    -- the output stays as long
    pub emitted_length : f ≤ length o → length p ≡ length o
    emitted_length h =
        by_cases (dec_le (f + length t) (length o))
        (λ (l : f + length t ≤ length o). rw (bytes_fit l) (simp (length-append, length-drop) (omega (arith, length-take-le f o h))))
        (λ n. rw (bytes_same (omega arith)) refl)

-- the part from f on, with the line put at its front, is put back
pub put_back : (o : List ℕ) (f : ℕ) (t : List ℕ) (r : ℕ) (p : List ℕ) → f ≤ length o → Emitted (mid_of f (length o - f) o) 0 t r p
    → Emitted o f t r (put_mid f (length o - f) o p)
put_back o f t r p h e =
    let k = length o - f in
    let long : length (mid_of f k o) ≡ k = mid_len f (length o) o (omega arith) in
    let mid : mid_of f k o ≡ drop f o = take_all k (drop f o) (simp length-drop (omega arith)) in
    let behind : drop k (drop f o) ≡ [] = drop_of_length-le (drop f o) {i = k} (simp length-drop (omega arith)) in
    by_cases (dec_le (f + length t) (length o))
    (λ (l : f + length t ≤ length o).
    fits l (count_fits_lem e (omega arith)) (rw (bytes_fit e (omega arith), mid, behind) (simp (append_assoc, append-nil, zero-add, drop-drop))))
    (λ n. fits_not (omega arith) (count_none e (omega arith)) (rw (bytes_same e (omega arith)) (put_same f k o)))
