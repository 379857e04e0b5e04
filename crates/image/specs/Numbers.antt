-- Numbers as bytes, "little-endian": the lowest byte first.
use Rattle.std.specs.Prelude.{Bool, true, false, ◌&&◌, List, [], ◌∷◌, ◌++◌, ℕ, zero, suc, ◌+◌, ◌*◌, ◌/◌, ◌%◌, eqb, get_or}
use Rattle.base.specs.Lists.{table}

-- a number as w bytes
unfoldable pub number_bytes : ℕ → ℕ → List ℕ
number_bytes zero v = []
number_bytes (suc w) v = v % 256 ∷ number_bytes w (v / 256)

-- numbers one behind the other, of w bytes each
unfoldable pub numbers_bytes : ℕ → List ℕ → List ℕ
numbers_bytes w [] = []
numbers_bytes w (v ∷ vs) = number_bytes w v ++ numbers_bytes w vs

-- the number in the w bytes at a place; a byte behind the end is 0
unfoldable pub number_at : ℕ → List ℕ → ℕ → ℕ
number_at zero b at = 0
number_at (suc w) b at = get_or b at 0 + 256 * number_at w b (suc at)

-- so many numbers of w bytes each, from a place on
unfoldable pub numbers_at : ℕ → ℕ → List ℕ → ℕ → List ℕ
numbers_at w count b at = table count (λ k. number_at w b (at + w * k))

-- two lists of bytes are the same
unfoldable pub same_bytes : List ℕ → List ℕ → Bool
same_bytes [] [] = true
same_bytes [] (y ∷ ys) = false
same_bytes (x ∷ xs) [] = false
same_bytes (x ∷ xs) (y ∷ ys) = eqb x y && same_bytes xs ys
