-- Each edition's test of an instruction is the paper's.
use mathlib.Core.Path.{◌≡◌, refl}
use mathlib.Core.Logic.{by_cases}
use Prim.Native.Nat.{ℕ, ◌<◌}
use native.Mathlib.Decide.{dec_lt}
use native.Mathlib.Omega.{arith}
use borrow.Author.Tests.{le-leb, lt-leb}
use Rattle.plan.specs.declared.Instruction.{Instruction}
use Rattle.plan.specs.Refusals.{instruction_ok}
use Rattle.plan.specs.RepeatRefusals.{new_instruction_ok}
use Rattle.plan_value.specs.Editions.{present_edition, new_edition, allowed}
use Rattle.plan_value.proofs.ByKind.{ok_unknown, new_old, new_unknown}

pub allowed_present : (n : ℕ) (x : Instruction) → allowed present_edition n x ≡ instruction_ok n x
allowed_present n x =
    by_cases
    (dec_lt 7 x.opcode)
    (λ (h : 7 < x.opcode). rw (lt-leb x.opcode 7 h, ok_unknown n x (λ k p q e. omega arith)) refl)
    (λ h. rw (le-leb x.opcode 7 (omega arith), new_old n x (omega arith)) refl)

pub allowed_new : (n : ℕ) (x : Instruction) → allowed new_edition n x ≡ new_instruction_ok n x
allowed_new n x =
    by_cases
    (dec_lt 9 x.opcode)
    (λ (h : 9 < x.opcode). rw (lt-leb x.opcode 9 h, new_unknown n x h) refl)
    (λ h. rw (le-leb x.opcode 9 (omega arith)) refl)
