-- What a file holds from a place on, taken apart: a list of two parts, lists joined, a 16-bit field, an instruction.
use mathlib.Core.Path.{◌≡◌, refl, ◌∙◌}
use mathlib.Core.List.{List, [], ◌∷◌, ◌++◌}
use Prim.Native.Nat.{ℕ, ◌+◌, ◌<◌}
use native.Mathlib.Nat.{add-zero, zero-add, add_assoc}
use native.Mathlib.Omega.{arith}
use lib.ListN.{length, get_or, length-append, get_or-append}
use lib.Seq.{get_or-append-add}
use Rattle.base.specs.Range.{joined, sum_below}
use Rattle.base.proofs.Joins.{part_of_sum, length_joined, get_d_joined}
use Rattle.plan.specs.declared.Instruction.{Instruction}
use Rattle.plan.specs.Layout.{bytes16, instruction_bytes}
use Rattle.plan.specs.Files.{byte_at, word16, file_instruction}

-- b holds xs from place at on
abbrev pub Held : List ℕ → ℕ → List ℕ → Type 0
Held b at xs = (j : ℕ) → j < length xs → get_or b (at + j) 0 ≡ get_or xs j 0

pub held_all : (b : List ℕ) → Held b 0 b
held_all b j h = rw (zero-add j) refl

module _ (b : List ℕ) (at : ℕ) where
  held_first : (xs : List ℕ) → 0 < length xs → Held b at xs → byte_at b at ≡ get_or xs 0 0
  held_first xs q h = rw (add-zero at) at (h 0 q)

  pub held_left : (xs ys : List ℕ) → Held b at (xs ++ ys) → Held b at xs
  held_left xs ys h j q = h j (rw (length-append xs ys) (omega arith)) ∙ get_or-append xs ys 0 j q

  pub held_right : (xs ys : List ℕ) → Held b at (xs ++ ys) → Held b (at + length xs) ys
  held_right xs ys h j q = rw (add_assoc at (length xs) j) (h (length xs + j) (rw (length-append xs ys) (omega arith)) ∙ get_or-append-add xs ys j 0)

  pub held_joined : (n : ℕ) (f : ℕ → List ℕ) (k : ℕ) → k < n → Held b at (joined n f) → Held b (at + sum_below k (λ i. length (f i))) (f k)
  held_joined n f k l h j q =
      let w : ℕ → ℕ = λ i. length (f i) in
      rw (add_assoc at (sum_below k w) j)
      (h (sum_below k w + j) (rw (length_joined n f) (omega (arith, part_of_sum n w k l))) ∙ get_d_joined n f k j 0 l q)

-- a 16-bit field
pub held_word : (b : List ℕ) (at n : ℕ) → Held b at (bytes16 n) → word16 b at ≡ n
held_word b at n h = omega (arith, held_first b at (bytes16 n) (omega arith) h, h 1 (omega arith))

-- an instruction
pub held_instruction : (b : List ℕ) (at : ℕ) (i : Instruction) → Held b at (instruction_bytes i) → file_instruction b at ≡ i
held_instruction b at i h =
    let operand : word16 b (at + 2) ≡ i.operand =
    held_word b (at + 2) i.operand (held_right b at (i.opcode ∷ i.level ∷ []) (bytes16 i.operand) h) in
    rw (held_first b at (instruction_bytes i) (omega arith) h, h 1 (omega arith), operand) refl
