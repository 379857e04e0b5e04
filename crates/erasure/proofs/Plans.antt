-- An accepted plan is accepted without the arguments of sets and adds, which are all that it loses.
use mathlib.Core.Path.{◌≡◌, refl, ap, ◌∙◌}
use mathlib.Core.Bool.{Bool, true, false, ◌||◌}
use mathlib.Core.List.{[], ◌∷◌, map}
use Prim.Native.Nat.{ℕ, suc}
use native.Mathlib.Omega.{arith}
use lib.Dec.{eqb, leb}
use lib.ListN.{length, length-map}
use borrow.Author.Tests.{eqb-true}
use Rattle.std.specs.Prelude.{Ok}
use Rattle.base.specs.Lists.{every}
use Rattle.base.proofs.Folds.{fold_same}
use Rattle.base.proofs.Tests.{and_left, and_right, and_both}
use Rattle.plan.specs.declared.Instruction.{Instruction}
use Rattle.plan.specs.declared.Plan.{Plan}
use Rattle.plan.specs.Kinds.{op_create, op_send, op_receive, op_set, op_add}
use Rattle.plan.specs.Programs.{Program, Programs, programs, canonical}
use Rattle.plan.specs.Users.{only_lower}
use Rattle.plan.specs.Refusals.{size_ok, sizes_ok, level_ok, operand_ok, instruction_ok, instructions_ok, finish_ok, finishes_ok, creates_ok, channels_ok, structure_answer, plan_answer}
use Rattle.plan.proofs.Parts.{tasks_of_lem}
use Rattle.plan_laws.proofs.Answers.{plan_passed, plan_accepted}
use Rattle.plan_laws.proofs.Canonical.{meaning_canonical}
use Rattle.rules.specs.Erasures.{erased_instruction, erased_programs, erased_plan}
use Rattle.erasure.proofs.Lists.{every_map, every_map_follows}
use Rattle.erasure.proofs.Programs.{kind_erased, level_erased, neither_erased, set_erased, add_erased, finish_erased, length_erased, users_erased}

-- 2
sizes_erased : (m : Programs) → sizes_ok (erased_programs m) ≡ sizes_ok m
unfolding sizes_ok erased_programs
sizes_erased m =
    rw (length-map m (map erased_instruction), every_map (map erased_instruction) (λ g. size_ok (length g)) (λ g. size_ok (length g)) m (λ g. rw (length-map g erased_instruction) refl)) refl

-- 3: the argument of a set or an add is 0 then, which is in range
operand_set : (n : ℕ) (i : Instruction) → i.opcode ≡ op_set → operand_ok n (erased_instruction i) ≡ true
unfolding operand_ok
operand_set n i e = rw (set_erased i e, kind_erased i, e) refl

operand_add : (n : ℕ) (i : Instruction) → i.opcode ≡ op_add → operand_ok n (erased_instruction i) ≡ true
unfolding operand_ok
operand_add n i e = rw (add_erased i e, kind_erased i, e) refl

operand_erased : (n : ℕ) (i : Instruction) → operand_ok n i ≡ true → operand_ok n (erased_instruction i) ≡ true
operand_erased n i h = go (eqb i.opcode op_set) (eqb i.opcode op_add) refl refl
  where
    go : (s a : Bool) → eqb i.opcode op_set ≡ s → eqb i.opcode op_add ≡ a → operand_ok n (erased_instruction i) ≡ true
    go true a e f = operand_set n i (eqb-true i.opcode op_set e)
    go false true e f = operand_add n i (eqb-true i.opcode op_add f)
    go false false e f = rw (neither_erased i e f) h

instruction_ok_lem : (n : ℕ) (i : Instruction) → instruction_ok n i ≡ true → instruction_ok n (erased_instruction i) ≡ true
instruction_ok_lem n i h =
    and_both (level_ok (erased_instruction i)) _ (rw (kind_erased i, level_erased i) (and_left (level_ok i) _ h)) (operand_erased n i (and_right (level_ok i) _ h))

instructions_erased : (m : Programs) → instructions_ok m ≡ true → instructions_ok (erased_programs m) ≡ true
unfolding instructions_ok erased_programs
instructions_erased m h =
    rw (length-map m (map erased_instruction))
    (every_map_follows (map erased_instruction) (every (instruction_ok (length m))) (every (instruction_ok (length m))) m
    (λ g. every_map_follows erased_instruction (instruction_ok (length m)) (instruction_ok (length m)) g (instruction_ok_lem (length m))) h)

-- 4 to 6
last_erased : (g : Program) → finish_ok (map erased_instruction g) ≡ finish_ok g
unfolding finish_ok
last_erased [] = refl
last_erased (i ∷ []) = finish_erased i
last_erased (i ∷ j ∷ g) = rw (finish_erased i, last_erased (j ∷ g)) refl

finishes_erased : (m : Programs) → finishes_ok (erased_programs m) ≡ finishes_ok m
unfolding finishes_ok erased_programs
finishes_erased m = every_map (map erased_instruction) finish_ok finish_ok m last_erased

creates_erased : (m : Programs) → creates_ok (erased_programs m) ≡ creates_ok m
unfolding creates_ok
creates_erased m =
    rw (length_erased m) (fold_same _ _ (length m) _ _ (λ u l. ap (λ us. leb (suc u) 1 || only_lower (suc u) us) (users_erased op_create (suc u) (omega arith) m)))

channels_erased : (m : Programs) → channels_ok (erased_programs m) ≡ channels_ok m
unfolding channels_ok
channels_erased m =
    fold_same _ _ 128 _ _ (λ c l. rw (users_erased op_send (suc c) (omega arith) m, users_erased op_receive (suc c) (omega arith) m) refl)

structure_erased : (m : Programs) → structure_answer (erased_programs m) ≡ structure_answer m
unfolding structure_answer
structure_erased m = rw (finishes_erased m, creates_erased m, channels_erased m) refl

pub plan_erased : (m : Programs) → plan_answer m ≡ Ok tt → plan_answer (erased_programs m) ≡ Ok tt
plan_erased m a =
    let b = plan_passed m a in
    plan_accepted (erased_programs m)
    (record { sizes = sizes_erased m ∙ b.sizes; instructions = instructions_erased m b.instructions; structure = structure_erased m ∙ b.structure })

-- what the plan without them means, and how many tasks it has
pub meaning_erased : (p : Plan) → plan_answer (programs p) ≡ Ok tt → programs (erased_plan p) ≡ erased_programs (programs p)
unfolding erased_plan
meaning_erased p a = meaning_canonical (erased_programs (programs p)) (plan_erased (programs p) a)

pub tasks_erased : (p : Plan) → (erased_plan p).tasks ≡ p.tasks
unfolding erased_plan canonical
tasks_erased p = length_erased (programs p) ∙ tasks_of_lem p
