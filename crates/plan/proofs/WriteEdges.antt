-- Plans written into an output: what is answered, and what the output then holds.
use Rattle.std.proofs.Common.{ℕ, Bool, true, false, ◌&&◌, eqb, List, [], ◌∷◌}
use Rattle.plan.specs.declared.Instruction.{Instruction}
use Rattle.plan.specs.Kinds.{op_sync, op_finish, op_set}
use Rattle.plan.specs.Programs.{Programs}
use Rattle.plan.specs.Answers.{write_number, write_size}
use Rattle.plan.specs.Outcomes.{write_answer, write_output}

-- a plan and an output, the number that is answered, how many bytes are written, and the output then
pub record WriteEdge : Type 0 where
  pub plan : Programs
  pub before : List ℕ
  pub number : ℕ
  pub size : ℕ
  pub after : List ℕ

unfoldable pub same_bytes : List ℕ → List ℕ → Bool
same_bytes [] [] = true
same_bytes [] (y ∷ ys) = false
same_bytes (x ∷ xs) [] = false
same_bytes (x ∷ xs) (y ∷ ys) = eqb x y && same_bytes xs ys

abbrev pub write_holds : WriteEdge → Bool
write_holds e =
    eqb (write_number (write_answer e.plan e.before)) e.number
    && (eqb (write_size (write_answer e.plan e.before)) e.size && same_bytes (write_output e.plan e.before) e.after)

abbrev end : Instruction
end = record { opcode = op_finish; level = 0; operand = 0 }

-- one task that sets its word to 258 and ends: 16 bytes
abbrev setting : Programs
setting = (record { opcode = op_set; level = 0; operand = 258 } ∷ end ∷ []) ∷ []

-- fifteen bytes to write into
abbrev nines : List ℕ
nines = 9 ∷ 9 ∷ 9 ∷ 9 ∷ 9 ∷ 9 ∷ 9 ∷ 9 ∷ 9 ∷ 9 ∷ 9 ∷ 9 ∷ 9 ∷ 9 ∷ 9 ∷ []

-- one byte short; just room; bytes behind, which stay; a refused plan, which leaves all as it was
unfoldable pub write_edges : List WriteEdge
write_edges =
    record { plan = setting; before = nines; number = 20; size = 0; after = nines }
    ∷ record {
      plan = setting;
      before = 9 ∷ nines;
      number = 0;
      size = 16;
      after = 1 ∷ 0 ∷ 2 ∷ 0 ∷ 8 ∷ 0 ∷ 2 ∷ 0 ∷ 6 ∷ 0 ∷ 2 ∷ 1 ∷ 3 ∷ 0 ∷ 0 ∷ 0 ∷ [];
    }
    ∷ record {
      plan = setting;
      before = 9 ∷ 9 ∷ 9 ∷ nines;
      number = 0;
      size = 16;
      after = 1 ∷ 0 ∷ 2 ∷ 0 ∷ 8 ∷ 0 ∷ 2 ∷ 0 ∷ 6 ∷ 0 ∷ 2 ∷ 1 ∷ 3 ∷ 0 ∷ 0 ∷ 0 ∷ 9 ∷ 9 ∷ [];
    }
    ∷ record { plan = []; before = nines; number = 2; size = 0; after = nines }
    ∷ record { plan = (record { opcode = op_sync; level = 0; operand = 0 } ∷ []) ∷ []; before = nines; number = 4; size = 0; after = nines }
    ∷ []
