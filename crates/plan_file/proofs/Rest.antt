-- What stands in the rest of a file stands in the file.
use mathlib.Core.Path.{◌≡◌, refl, sym, ◌∙◌, ap}
use mathlib.Core.List.{List, [], ◌∷◌}
use Prim.Native.Nat.{ℕ, zero, suc, ◌+◌}
use native.Mathlib.Nat.{zero-add, suc-add, add_assoc}
use lib.ListN.{drop, get_or}
use Rattle.plan.specs.Files.{byte_at, word16, file_instruction}

byte_rest : (z : ℕ) (b : List ℕ) (at : ℕ) → get_or (drop z b) at 0 ≡ get_or b (z + at) 0
byte_rest zero b at = rw (zero-add at) refl
byte_rest (suc z) [] at = refl
byte_rest (suc z) (x ∷ b) at = rw (suc-add z at) (byte_rest z b at)

word_rest : (z : ℕ) (b : List ℕ) (at : ℕ) → word16 (drop z b) at ≡ word16 b (z + at)
word_rest z b at = rw (byte_rest z b at, byte_rest z b (at + 1), add_assoc) refl

pub instruction_rest : (z : ℕ) (b : List ℕ) (at : ℕ) → file_instruction (drop z b) at ≡ file_instruction b (z + at)
instruction_rest z b at =
    let o = byte_rest z b at in
    let l = byte_rest z b (at + 1) ∙ ap (byte_at b) (sym (add_assoc z at 1)) in
    let a = word_rest z b (at + 2) ∙ ap (word16 b) (sym (add_assoc z at 2)) in
    λ i. record { opcode = o i; level = l i; operand = a i }
