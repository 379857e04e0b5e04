-- A ready task of the parts of a rig that 9 does not refuse: its place, its desk, its move count, and the argument of its next instruction.
use mathlib.Core.Path.{◌≡◌, refl, sym, subst}
use mathlib.Core.Bool.{true, ◌||◌}
use Prim.Native.Nat.{ℕ, ◌≤◌}
use native.Mathlib.Omega.{arith}
use lib.Dec.{eqb}
use lib.ListN.{length}
use borrow.Author.Tests.{eqb-true}
use Rattle.base.specs.Choice.{within}
use Rattle.base.proofs.Choices.{pick_cases}
use Rattle.base.proofs.Tests.{or_cases, within_low, within_high, within_both}
use Rattle.plan.specs.declared.TaskId.{TaskId}
use Rattle.plan.specs.declared.Instruction.{Instruction}
use Rattle.plan.specs.Kinds.{op_create, op_send, op_receive}
use Rattle.plan.specs.Refusals.{instruction_ok}
use Rattle.plan_laws.proofs.Programs.{create_operand, send_operand, receive_operand}
use Rattle.rules.specs.declared.task.TaskState.TheVariants.{Ready}
use Rattle.rules.specs.declared.system.TaskTable.{TaskTable}
use Rattle.rules.specs.Tasks.{is_in}
use Rattle.rules.specs.Systems.{task_at, task_in}
use Rattle.rules_sound.specs.Settled.{Settled}
use Rattle.rules_sound.specs.Sound.{program_in}
use Rattle.rules_sound.proofs.Settled.{settled}
use Rattle.rules_sound.proofs.Frames.{program_in_lem}
use Rattle.rig_parts.specs.declared.kept.Kept.{Kept}
use Rattle.rig_parts.specs.Facts.{Facts, PartsOf}
use Rattle.rig_parts.specs.Fetches.{instruction_in}
use Rattle.rig_parts.specs.Scopes.{argument_ok}
use Rattle.rig_parts.specs.MoveVerdicts.{ready_counts}
use Rattle.rig_parts.proofs.Fetching.{next_read}
use Rattle.rig_parts.proofs.Runs.{next_fine}
use Rattle.rig_parts.proofs.BoundsParts.{rig_sound, count_few, processors_few}

-- an instruction of a plan of n tasks
argument_fine : (n : ℕ) → n ≤ 64 → (i : Instruction) → instruction_ok n i ≡ true → argument_ok i ≡ true
argument_fine n few i h =
    pick_cases (λ b. b ≡ true) (eqb i.opcode op_create || (eqb i.opcode op_send || eqb i.opcode op_receive)) (within 1 128 i.operand) true
    (λ e.
    or_cases (eqb i.opcode op_create) _ e
    (λ k.
    let w = create_operand n i h (eqb-true i.opcode op_create k) in
    let low = within_low 2 n i.operand w in
    let high = within_high 2 n i.operand w in
    within_both 1 128 i.operand (omega arith) (omega arith))
    (λ q.
    or_cases (eqb i.opcode op_send) (eqb i.opcode op_receive) q
    (λ k. send_operand n i h (eqb-true i.opcode op_send k))
    (λ k. receive_operand n i h (eqb-true i.opcode op_receive k))))
    (λ e. refl)

-- the next instruction of task t
abbrev pub next_at : Facts → TaskTable → TaskId → Instruction
next_at f ts t = instruction_in f.codes t (task_in ts t).pc

module _ {f : Facts} {n : ℕ} {ts : TaskTable} {s : Kept} {used : ℕ} (p : PartsOf f n ts s used) (t : TaskId) where
  module _ (w : within 1 f.tasks t.0 ≡ true) (ready : is_in Ready (task_in ts t) ≡ true) where
    -- in the rig
    low : 1 ≤ t.0
    low = within_low 1 f.tasks t.0 w

    high : t.0 ≤ p.system.plan.tasks
    high = rw p.facts_of_lem at (within_high 1 f.tasks t.0 w)

    ready_in_lem : is_in Ready (task_at p.system t) ≡ true
    ready_in_lem = rw p.tasks at ready

    ready_settled : Settled n f.tasks (length (program_in p.system.plan t)) (task_in ts t)
    ready_settled =
        let r = p.system in
        rw (p.processors, p.facts_of_lem, p.tasks)
        (settled r.processors r.plan.tasks (program_in r.plan t) (task_at r t) Ready refl ready_in_lem ((rig_sound p).rig.tasks t low high))

    pub place_some : 1 ≤ (task_in ts t).pc
    place_some = ready_settled.place

    pub place_last : (task_in ts t).pc ≤ 64
    place_last = omega (arith, ready_settled.place_few, (program_in_lem p.system.processors p.system.plan (rig_sound p).frame t low high).few)

    pub processor_in : within 1 6 (task_in ts t).processor.0 ≡ true
    processor_in = within_both 1 6 _ ready_settled.processor (omega (arith, ready_settled.processor_few, processors_few p))

    pub instruction_ok_lem : instruction_ok f.tasks (next_at f ts t) ≡ true
    instruction_ok_lem =
        let r = p.system in
        let o = rig_sound p in
        rw (p.facts_of_lem, p.tasks)
        (subst (λ (i : Instruction). instruction_ok r.plan.tasks i ≡ true) (sym (next_read r o.rig t low high ready_in_lem)) (next_fine r o t low high ready_in_lem))

    pub argument_ok_lem : argument_ok (next_at f ts t) ≡ true
    argument_ok_lem = argument_fine f.tasks (count_few p) (next_at f ts t) instruction_ok_lem

    -- the child of a create
    pub child_few : eqb (next_at f ts t).opcode op_create ≡ true → (next_at f ts t).operand ≤ f.tasks
    child_few k =
        let i = next_at f ts t in
        within_high 2 f.tasks i.operand (create_operand f.tasks i instruction_ok_lem (eqb-true i.opcode op_create k))

  pub ready_counts_lem : ready_counts f.tasks ts t
  ready_counts_lem w ready = (ready_settled w ready).moves_few
