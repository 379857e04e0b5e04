-- One of seven by the kind of an instruction, and what a plan's instruction is where it is of none of the first six.
use mathlib.Core.Path.{◌≡◌, refl}
use mathlib.Core.Bool.{Bool, true, false}
use mathlib.Core.List.{[]}
use Prim.Native.Nat.{ℕ}
use lib.Dec.{eqb}
use lib.ListN.{length}
use borrow.Author.Tests.{eqb-true, eq-eqb}
use Rattle.std.specs.Prelude.{Ok}
use Rattle.base.specs.Choice.{pick, within}
use Rattle.base.specs.Lists.{every}
use Rattle.base.proofs.Pairs.{every_any}
use Rattle.base.proofs.Tests.{and_right}
use Rattle.plan.specs.declared.Instruction.{Instruction}
use Rattle.plan.specs.Kinds.{op_create, op_sync, op_finish, op_send, op_receive, op_set, op_add, no_instruction}
use Rattle.plan.specs.Programs.{Programs, program_at, instruction_at}
use Rattle.plan.specs.Refusals.{level_ok, operand_ok, instruction_ok, instructions_ok, plan_answer}
use Rattle.plan_laws.proofs.Answers.{plan_passed}
use Rattle.rules.specs.Runs.{by_opcode}
use Rattle.rules.specs.Erasures.{erased_instruction}
use Rattle.erasure.proofs.Lists.{every_follows}
use Rattle.erasure.proofs.Programs.{kind_erased, add_erased}

-- a function of one of seven, branch by branch; the last where all six tests fail, and there b holds
seven_map : {A B : Type 0} (f : A → B) (b t u v w x y : Bool) {a₁ a₂ a₃ a₄ a₅ a₆ a₇ : A} {b₁ b₂ b₃ b₄ b₅ b₆ b₇ : B}
    → pick t true (pick u true (pick v true (pick w true (pick x true (pick y true b))))) ≡ true
    → (t ≡ true → b₁ ≡ f a₁) → (u ≡ true → b₂ ≡ f a₂) → (v ≡ true → b₃ ≡ f a₃) → (w ≡ true → b₄ ≡ f a₄) → (x ≡ true → b₅ ≡ f a₅)
    → (y ≡ true → b₆ ≡ f a₆) → (b ≡ true → b₇ ≡ f a₇)
    → pick t b₁ (pick u b₂ (pick v b₃ (pick w b₄ (pick x b₅ (pick y b₆ b₇))))) ≡ f (pick t a₁ (pick u a₂ (pick v a₃ (pick w a₄ (pick x a₅ (pick y a₆ a₇))))))
seven_map f b true u v w x y h p₁ p₂ p₃ p₄ p₅ p₆ p₇ = p₁ refl
seven_map f b false true v w x y h p₁ p₂ p₃ p₄ p₅ p₆ p₇ = p₂ refl
seven_map f b false false true w x y h p₁ p₂ p₃ p₄ p₅ p₆ p₇ = p₃ refl
seven_map f b false false false true x y h p₁ p₂ p₃ p₄ p₅ p₆ p₇ = p₄ refl
seven_map f b false false false false true y h p₁ p₂ p₃ p₄ p₅ p₆ p₇ = p₅ refl
seven_map f b false false false false false true h p₁ p₂ p₃ p₄ p₅ p₆ p₇ = p₆ refl
seven_map f b false false false false false false h p₁ p₂ p₃ p₄ p₅ p₆ p₇ = p₇ h

-- what is not of the first six kinds has no argument then
abbrev pub bare : Instruction → Bool
bare i = by_opcode i true true true true true true (eqb (erased_instruction i).operand 0)

-- by the kind of an instruction that is so, which is its kind without an argument
pub opcode_map : {A B : Type 0} (f : A → B) (i : Instruction) {a₁ a₂ a₃ a₄ a₅ a₆ a₇ : A} {b₁ b₂ b₃ b₄ b₅ b₆ b₇ : B} → bare i ≡ true
    → (i.opcode ≡ op_create → b₁ ≡ f a₁) → b₂ ≡ f a₂ → b₃ ≡ f a₃ → (i.opcode ≡ op_send → b₄ ≡ f a₄) → (i.opcode ≡ op_receive → b₅ ≡ f a₅)
    → (i.opcode ≡ op_set → b₆ ≡ f a₆) → ((erased_instruction i).operand ≡ 0 → b₇ ≡ f a₇)
    → by_opcode (erased_instruction i) b₁ b₂ b₃ b₄ b₅ b₆ b₇ ≡ f (by_opcode i a₁ a₂ a₃ a₄ a₅ a₆ a₇)
opcode_map f i h create sync finish send receive set add =
    let is : (k : ℕ) → eqb i.opcode k ≡ true → i.opcode ≡ k = λ k. eqb-true i.opcode k in
    rw (kind_erased i)
    (seven_map f (eqb (erased_instruction i).operand 0) (eqb i.opcode op_create) (eqb i.opcode op_sync) (eqb i.opcode op_finish) (eqb i.opcode op_send)
    (eqb i.opcode op_receive) (eqb i.opcode op_set) h (λ e. create (is op_create e)) (λ e. sync) (λ e. finish) (λ e. send (is op_send e))
    (λ e. receive (is op_receive e)) (λ e. set (is op_set e)) (λ e. add (eqb-true (erased_instruction i).operand 0 e)))

-- so is each instruction that 3 does not refuse
seven_kinds : (b t u v w x y z : Bool) (a₁ a₂ a₃ a₄ a₅ a₆ a₇ : Bool) → (z ≡ true → b ≡ true)
    → pick t a₁ (pick u a₂ (pick v a₃ (pick w a₄ (pick x a₅ (pick y a₆ (pick z a₇ false)))))) ≡ true
    → pick t true (pick u true (pick v true (pick w true (pick x true (pick y true b))))) ≡ true
seven_kinds b true u v w x y z a₁ a₂ a₃ a₄ a₅ a₆ a₇ k h = refl
seven_kinds b false true v w x y z a₁ a₂ a₃ a₄ a₅ a₆ a₇ k h = refl
seven_kinds b false false true w x y z a₁ a₂ a₃ a₄ a₅ a₆ a₇ k h = refl
seven_kinds b false false false true x y z a₁ a₂ a₃ a₄ a₅ a₆ a₇ k h = refl
seven_kinds b false false false false true y z a₁ a₂ a₃ a₄ a₅ a₆ a₇ k h = refl
seven_kinds b false false false false false true z a₁ a₂ a₃ a₄ a₅ a₆ a₇ k h = refl
seven_kinds b false false false false false false true a₁ a₂ a₃ a₄ a₅ a₆ a₇ k h = k refl
seven_kinds b false false false false false false false a₁ a₂ a₃ a₄ a₅ a₆ a₇ k h = cc

bare_ok : (n : ℕ) (i : Instruction) → instruction_ok n i ≡ true → bare i ≡ true
unfolding operand_ok
bare_ok n i h =
    let k = i.opcode in
    let w = i.operand in
    seven_kinds (eqb (erased_instruction i).operand 0) (eqb k op_create) (eqb k op_sync) (eqb k op_finish) (eqb k op_send) (eqb k op_receive) (eqb k op_set)
    (eqb k op_add) (within 2 n w) (eqb w 0) (eqb w 0) (within 1 128 w) (within 1 128 w) (within 0 65535 w) (within 0 65535 w)
    (λ e. eq-eqb _ 0 (add_erased i (eqb-true i.opcode op_add e))) (and_right (level_ok i) (operand_ok n i) h)

-- and each of an accepted plan; where there is none, `no_instruction` is
pub bare_at : (m : Programs) → plan_answer m ≡ Ok tt → (k i : ℕ) → bare (instruction_at (program_at m k) i) ≡ true
unfolding instructions_ok every erased_instruction
bare_at m a k i =
    every_any bare (program_at m k) i no_instruction refl
    (every_any (every bare) m k [] refl
    (every_follows (every (instruction_ok (length m))) (every bare) m (λ g. every_follows (instruction_ok (length m)) bare g (bare_ok (length m)))
    (plan_passed m a).instructions))
