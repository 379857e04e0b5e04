-- Bytes moved down by a gap, and zeros put behind them: a piece as long as the gap is cut out.
use mathlib.Core.Path.{◌≡◌, refl, sym, ◌∙◌, ap}
use mathlib.Core.List.{List, ◌++◌, append_assoc}
use Prim.Native.Nat.{ℕ, ◌+◌}
use native.Mathlib.Omega.{arith}
use lib.ListN.{length, take, drop, length-append, replicate, length-replicate}
use lib.Seq.{paste, take_at, drop_at, drop-drop}
use Rattle.plan_write.specs.output.Output.{overlay}

-- k bytes moved down by g to the place `at`
module _ (l : List ℕ) (at g : ℕ) where
  abbrev pub shifted : ℕ → List ℕ
  shifted k = paste l at (drop (at + g) l) k

-- of a front, a piece, n bytes and the rest, the piece is cut out, and as many zeros are behind the n bytes
module _ (a m d z : List ℕ) (at g n : ℕ) (la : length a ≡ at) (lm : length m ≡ g) (ld : length d ≡ n) where
  abbrev whole : List ℕ
  whole = a ++ (m ++ (d ++ z))

  behind : drop (at + g) whole ≡ d ++ z
  behind =
      ap (drop (at + g)) (sym (append_assoc a m (d ++ z))) ∙ drop_at (a ++ m) (d ++ z) (at + g) (length-append a m ∙ omega arith)

  moved : shifted whole at g n ≡ (a ++ d) ++ drop (at + n) whole
  moved = rw (take_at a (m ++ (d ++ z)) at la, behind, take_at d z n ld) refl

  front_long : length (a ++ d) ≡ at + n
  front_long = length-append a d ∙ omega arith

  rest : drop (at + n + g) (shifted whole at g n) ≡ z
  rest =
      let e : at + n + g ≡ at + g + n = omega arith in
      sym (drop-drop g (at + n) (shifted whole at g n))
      ∙ ap (λ (l : List ℕ). drop g (drop (at + n) l)) moved
      ∙ ap (drop g) (drop_at (a ++ d) (drop (at + n) whole) (at + n) front_long)
      ∙ drop-drop g (at + n) whole
      ∙ ap (λ (i : ℕ). drop i whole) e
      ∙ sym (drop-drop n (at + g) whole)
      ∙ ap (drop n) behind
      ∙ drop_at d z n ld

  abbrev zeros : List ℕ
  zeros = replicate g 0

  pub cut_out : overlay (shifted whole at g n) (at + n) (replicate g 0) ≡ a ++ (d ++ (replicate g 0 ++ z))
  unfolding overlay
  cut_out =
      let front : take (at + n) (shifted whole at g n) ≡ a ++ d =
      ap (take (at + n)) moved ∙ take_at (a ++ d) (drop (at + n) whole) (at + n) front_long in
      let back : drop (at + n + length zeros) (shifted whole at g n) ≡ z =
      ap (λ (i : ℕ). drop (at + n + i) (shifted whole at g n)) (length-replicate g 0) ∙ rest in
      rw (front, back) (append_assoc a d (zeros ++ z))
