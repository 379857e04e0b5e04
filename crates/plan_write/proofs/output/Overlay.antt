-- Bytes put at a place: none, at the front, one run behind another, and two bytes stored one after the other.
use mathlib.Core.Path.{◌≡◌, refl, sym, ◌∙◌, ap}
use mathlib.Core.List.{List, [], ◌∷◌, ◌++◌, append_assoc}
use Prim.Native.Nat.{ℕ, ◌+◌, ◌≤◌}
use native.Mathlib.Nat.{add-zero, zero-add, add_assoc}
use native.Mathlib.Numerals.{add-one}
use native.Mathlib.Omega.{arith}
use lib.ListN.{length, take, drop, set, length-append, length-drop, take-append-drop}
use lib.Seq.{length-take-le, take_at, drop-append-add, drop-drop, sets-eq}
use Rattle.plan_write.specs.output.Output.{overlay, Put}

module _ (out : List ℕ) where
  pub overlay_none : (at : ℕ) → overlay out at [] ≡ out
  unfolding overlay
  overlay_none at = rw (add-zero at) (take-append-drop at out)

  pub overlay_front : (xs : List ℕ) → overlay out 0 xs ≡ xs ++ drop (length xs) out
  unfolding overlay
  overlay_front xs = rw (zero-add (length xs)) refl

  pub length_overlay : (at : ℕ) (xs : List ℕ) → at + length xs ≤ length out → length (overlay out at xs) ≡ length out
  unfolding overlay
  length_overlay at xs h =
      let t : length (take at out) ≡ at = length-take-le at out (omega arith) in
      simp (length-append, length-drop, t) (omega arith)

  -- ys behind xs
  pub overlay_more : (at : ℕ) (xs ys : List ℕ) → at ≤ length out
      → overlay (overlay out at xs) (at + length xs) ys ≡ overlay out at (xs ++ ys)
  unfolding overlay
  overlay_more at xs ys h =
      let front = take at out ++ xs in
      let n = at + length xs in
      let long : length front ≡ n = length-append (take at out) xs ∙ ap (λ (k : ℕ). k + length xs) (length-take-le at out h) in
      let whole : take at out ++ (xs ++ drop n out) ≡ front ++ drop n out = sym (append_assoc (take at out) xs (drop n out)) in
      let rest : drop (n + length ys) (front ++ drop n out) ≡ drop (at + length (xs ++ ys)) out =
      ap (λ (k : ℕ). drop (k + length ys) (front ++ drop n out)) (sym long)
      ∙ drop-append-add front (drop n out) (length ys)
      ∙ drop-drop (length ys) n out
      ∙ ap (λ (k : ℕ). drop k out) (add_assoc at (length xs) (length ys) ∙ ap (λ (k : ℕ). at + k) (sym (length-append xs ys))) in
      rw (whole, take_at front (drop n out) n long, rest) (simp append_assoc)

  pub two_stores : (at x y : ℕ) → at + 2 ≤ length out → set (set out at x) (at + 1) y ≡ overlay out at (x ∷ y ∷ [])
  unfolding overlay
  two_stores at x y h = rw (add-one at) (sets-eq (x ∷ y ∷ []) out at h ∙ append_assoc (take at out) (x ∷ y ∷ []) (drop (at + 2) out))

  -- the same, with the place behind
  pub put_none : (at : ℕ) → Put out at [] at out
  put_none at = record { next = omega arith; bytes = sym (overlay_none at) }

  pub put_more : (at : ℕ) (xs ys : List ℕ) (mid : List ℕ) (r s : ℕ) (after : List ℕ) → at ≤ length out → Put out at xs r mid → Put mid r ys s after
      → Put out at (xs ++ ys) s after
  put_more at xs ys mid r s after h p q =
      record {
        next = omega (arith, p.next, q.next, length-append xs ys);
        bytes = q.bytes ∙ rw (p.bytes, p.next) (overlay_more at xs ys h);
      }
