-- Bytes put one behind the other.
use mathlib.Core.Path.{◌≡◌, sym, ap, ◌∙◌}
use mathlib.Core.List.{List, [], ◌∷◌, ◌++◌, append_assoc}
use Prim.Native.Nat.{ℕ, suc, ◌+◌, ◌<◌}
use native.Mathlib.Numerals.{add-one}
use native.Mathlib.Omega.{arith}
use lib.ListN.{length, take, drop, get_or, set}
use lib.Seq.{length-take-le, drop-cons, take-suc, set-append_seam}

-- the first k numbers of d are those of s, and one more is put
pub put_next : (d s : List ℕ) (k : ℕ) → k < length d → k < length s → set (take k s ++ drop k d) k (get_or s k 0) ≡ take (k + 1) s ++ drop (k + 1) d
put_next d s k room more =
    let a = get_or s k 0 in
    let y = get_or d k 0 in
    let ys = drop (suc k) d in
    let long : length (take k s) ≡ k = length-take-le k s (omega arith) in
    ap (λ (t : List ℕ). set (take k s ++ t) k a) (drop-cons d k 0 room)
    ∙ ap (λ (i : ℕ). set (take k s ++ (y ∷ ys)) i a) (sym long)
    ∙ set-append_seam (take k s) y ys a
    ∙ sym (append_assoc (take k s) (a ∷ []) ys)
    ∙ ap (λ (t : List ℕ). t ++ ys) (sym (take-suc s k 0 more))
    ∙ ap (λ (j : ℕ). take j s ++ drop j d) (sym (add-one k))
