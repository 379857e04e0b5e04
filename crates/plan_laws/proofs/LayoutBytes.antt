-- Each entry of the layout of an accepted plan is a byte.
use mathlib.Core.Path.{◌≡◌}
use mathlib.Core.Bool.{Bool, true}
use mathlib.Core.List.{List, [], ◌∷◌, ◌++◌}
use Prim.Native.Nat.{ℕ, zero, suc, ◌+◌, ◌*◌, ◌/◌, ◌%◌, ◌<◌}
use native.Mathlib.Omega.{arith}
use lib.ListN.{length}
use Rattle.std.specs.Prelude.{Ok}
use Rattle.base.specs.Range.{fold, joined}
use Rattle.base.specs.Lists.{every}
use Rattle.base.proofs.Joins.{part_of_sum}
use Rattle.base.proofs.Tests.{every_at}
use Rattle.plan.specs.declared.Instruction.{Instruction}
use Rattle.plan.specs.Kinds.{no_instruction}
use Rattle.plan.specs.Programs.{Programs, program_at, instruction_at}
use Rattle.plan.specs.Layout.{bytes16, offset_due, count_of, total_of, head_bytes, instruction_bytes, code_bytes, layout}
use Rattle.plan.specs.Refusals.{instruction_ok, instructions_ok, plan_answer}
use Rattle.plan_laws.specs.Bytes.{Bytes}
use Rattle.base.proofs.Sums.{sum_at_most}
use Rattle.plan_laws.proofs.Codes.{Small, instruction_small}
use Rattle.plan_laws.proofs.ReadLayout.{start, heads, codes}
use Rattle.plan_laws.proofs.Answers.{PlanPassed, plan_passed, sized}

-- lists of bytes
bytes_none : Bytes []
bytes_none i = omega arith

bytes_cons : (x : ℕ) (xs : List ℕ) → x < 256 → Bytes xs → Bytes (x ∷ xs)
bytes_cons x xs h hs zero = h
bytes_cons x xs h hs (suc i) = hs i

bytes_append : (xs ys : List ℕ) → Bytes xs → Bytes ys → Bytes (xs ++ ys)
bytes_append [] ys h q i = q i
bytes_append (x ∷ xs) ys h q zero = h 0
bytes_append (x ∷ xs) ys h q (suc i) = bytes_append xs ys (λ j. h (suc j)) q i

bytes_joined : (n : ℕ) (f : ℕ → List ℕ) → ((k : ℕ) → k < n → Bytes (f k)) → Bytes (joined n f)
unfolding fold
bytes_joined zero f h = bytes_none
bytes_joined (suc n) f h = bytes_append (joined n f) (f n) (bytes_joined n f (λ k l. h k (omega arith))) (h n (omega arith))

bytes_two : (x y : ℕ) (xs : List ℕ) → x < 256 → y < 256 → Bytes xs → Bytes (x ∷ y ∷ xs)
bytes_two x y xs h q hs = bytes_cons x (y ∷ xs) h (bytes_cons y xs q hs)

bytes_word : (n : ℕ) → n < 65536 → Bytes (bytes16 n)
bytes_word n h = bytes_two (n % 256) (n / 256) [] (omega arith) (omega arith) bytes_none

bytes_instruction : (i : Instruction) → Small i → Bytes (instruction_bytes i)
bytes_instruction i h =
    bytes_two i.opcode i.level (bytes16 i.operand) h.opcode_small h.level_small (bytes_word i.operand h.operand_small)

-- the parts of the layout
module _ (m : Programs) (p : PlanPassed m) where
  size_small : 4 + 4 * length m + 4 * total_of m < 65536
  size_small =
      let s = sized m p.sizes in
      omega (arith, s.tasks.few, sum_at_most 64 (length m) (count_of m) (λ k l. (s.counts k l).few))

  head_bytes_lem : (k : ℕ) → k < length m → Bytes (head_bytes m k)
  head_bytes_lem k l =
      let part = part_of_sum (length m) (count_of m) k l in
      let small = size_small in
      bytes_append (bytes16 (offset_due (length m) (count_of m) k)) (bytes16 (count_of m k)) (bytes_word _ (omega arith)) (bytes_word _ (omega arith))

  code_bytes_lem : (k : ℕ) → k < length m → Bytes (code_bytes (program_at m k))
  unfolding instructions_ok
  code_bytes_lem k l =
      let g = program_at m k in
      let ok : Instruction → Bool = instruction_ok (length m) in
      let all : every ok g ≡ true = every_at (every ok) m k [] l p.instructions in
      let few = (sized m p.sizes).tasks.few in
      bytes_joined (length g) (λ i. instruction_bytes (instruction_at g i))
      (λ i q. bytes_instruction (instruction_at g i) (instruction_small (length m) few (instruction_at g i) (every_at ok g i no_instruction q all)))

pub layout_bytes : (m : Programs) → plan_answer m ≡ Ok tt → Bytes (layout m)
unfolding layout
layout_bytes m h =
    let p = plan_passed m h in
    let small = size_small m p in
    bytes_append (start m) (heads m ++ codes m)
    (bytes_append (bytes16 (length m)) (bytes16 (total_of m)) (bytes_word (length m) (omega arith)) (bytes_word (total_of m) (omega arith)))
    (bytes_append (heads m) (codes m)
    (bytes_joined (length m) (head_bytes m) (head_bytes_lem m p))
    (bytes_joined (length m) (λ k. code_bytes (program_at m k)) (code_bytes_lem m p)))
