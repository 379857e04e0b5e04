-- Closing a gap in the front of a list by moving each element behind it down: a copy of a part of the list over the part one place before it.
use mathlib.Core.Path.{◌≡◌, refl, sym, ◌∙◌, ap}
use mathlib.Core.List.{List, ◌∷◌, ◌++◌, append_assoc}
use Prim.Native.Nat.{ℕ, suc, ◌+◌, ◌-◌, ◌<◌, ◌≤◌}
use native.Mathlib.Numerals.{add-one}
use native.Mathlib.Omega.{arith}
use lib.ListN.{length, get_or, set, take, drop, length-drop}
use lib.Seq.{paste, paste-suc, length_paste_head, length-take-le, get_or-append-add, get_or-drop, drop-cons, set_at, drop_at, take-add}

-- the k elements from n on are the rest of the first n + k
drop_take : {A : Type 0} (n k : ℕ) (l : List A) → n ≤ length l → drop n (take (n + k) l) ≡ take k (drop n l)
drop_take n k l h = rw (take-add n k l) (drop_at (take n l) (take k (drop n l)) n (length-take-le n l h))

module _ {A : Type 0} (l : List A) (at : ℕ) where
  -- up to the elements that are moved: k of those behind place `at`
  abbrev head : ℕ → List A
  head k = take at l ++ take k (drop (at + 1) l)

  abbrev pub shifted : ℕ → List A
  shifted k = paste l at (drop (at + 1) l) k

  length_head : (k : ℕ) → at + k < length l → length (head k) ≡ at + k
  length_head k h = length_paste_head l at (drop (at + 1) l) k (omega arith) (simp length-drop (omega arith))

  module _ (z : A) where
    -- what is read is still the old list's
    ahead : (k : ℕ) → at + k + 1 < length l → get_or (shifted k) (at + k + 1) z ≡ get_or (drop (at + 1) l) k z
    ahead k h =
        let i : at + k + 1 ≡ length (head k) + 1 = omega (arith, length_head k (omega arith)) in
        let j : at + k + 1 ≡ at + 1 + k = omega arith in
        rw (i, get_or-append-add, get_or-drop (at + k) l 1 z, get_or-drop (at + 1) l k z, ← j) refl

    pub shift_more : (k : ℕ) → at + k + 1 < length l → set (shifted k) (at + k) (get_or (shifted k) (at + k + 1) z) ≡ shifted (k + 1)
    shift_more k h =
        rw (ahead k h)
        (paste-suc l at (drop (at + 1) l) k z (omega arith) (simp length-drop (omega arith)) ∙ ap shifted (sym (add-one k)))

    -- all of the first n moved, and the last place of these freed: they are without the p-th
    pub shift_closed : (k p n : ℕ) → at + 1 ≡ p → p + k ≡ n → n ≤ length l
        → set (shifted k) (n - 1) z ≡ take at l ++ (drop p (take n l) ++ (z ∷ drop n l))
    shift_closed k p n first last h =
        let i : at + 1 + k - 1 ≡ at + k = omega arith in
        let j : suc (at + k) ≡ at + 1 + k = omega arith in
        rw (← last, ← first, i, drop-cons l (at + k) z (omega arith))
        (rw (set_at (head k) (get_or l (at + k) z) (drop (suc (at + k)) l) z (at + k) (length_head k (omega arith)), append_assoc, j)
        (rw (drop_take (at + 1) k l (omega arith)) refl))
