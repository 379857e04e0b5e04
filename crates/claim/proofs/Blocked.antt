-- A task that sends or receives has executed an instruction, on a channel that has both ends.
use mathlib.Core.Path.{◌≡◌, refl}
use mathlib.Core.Bool.{true, ◌||◌, or-true}
use mathlib.Core.List.{List}
use Prim.Native.Nat.{ℕ, ◌-◌, ◌≤◌}
use native.Mathlib.Omega.{arith}
use lib.ListN.{length}
use borrow.Author.Tests.{eq-eqb}
use Rattle.std.specs.Prelude.{Ok}
use Rattle.base.specs.Choice.{within}
use Rattle.base.proofs.Tests.{and_both, or_cases, is_true, within_low, within_high}
use Rattle.plan.specs.declared.Plan.{Plan}
use Rattle.plan.specs.declared.TaskId.{TaskId}
use Rattle.plan.specs.declared.ChannelId.{ChannelId}
use Rattle.plan.specs.declared.Instruction.{Instruction}
use Rattle.plan.specs.declared.Word.{Word}
use Rattle.plan.specs.Kinds.{op_send, op_receive, is_use}
use Rattle.plan.specs.Numbers.{channel_id}
use Rattle.plan.specs.Programs.{Program, programs}
use Rattle.plan.specs.Refusals.{plan_answer}
use Rattle.plan.proofs.Parts.{tasks_of_lem}
use Rattle.plan_laws.proofs.BothEnds.{used_has_both_ends}
use Rattle.plan_laws.specs.BothEnds.{BothEnds}
use Rattle.plan_laws.proofs.Canonical.{fits}
use Rattle.plan_laws.proofs.Ends.{no_ends}
use Rattle.rules.specs.declared.task.TaskState.{TaskState}
use Rattle.rules.specs.declared.task.TaskState.TheVariants.{Sending, Receiving}
use Rattle.rules.specs.declared.task.Task.{Task}
use Rattle.rules.specs.declared.step.Step.{Step}
use Rattle.rules.specs.declared.system.System.{System}
use Rattle.rules.specs.Tasks.{is_in}
use Rattle.rules.specs.Places.{last_in}
use Rattle.rules.specs.Systems.{task_at, task_program}
use Rattle.net.proofs.Consistent.{consistent}
use Rattle.transitions.specs.Readings.{reading}
use Rattle.transitions.specs.Progress.{program_of}
use Rattle.transitions.proofs.Tasks.{Side, sends, receives, side_some, last_is, last_some}
use Rattle.rules_sound.proofs.Born.{place_few}
use Rattle.invariant.proofs.NetSteps.{last_kind_lem}
use Rattle.invariant.proofs.Next.{Kept}
use Rattle.claim.specs.Statement.{from}
use Rattle.claim.proofs.Whole.{list_kept}

-- an instruction of either kind is a send or a receive
either_use : {kind : ℕ} {s : TaskState} → Side kind s → (c : ℕ) (i : Instruction) → is_use kind c i ≡ true → is_use op_send c i || is_use op_receive c i ≡ true
either_use sends c i e = rw e refl
either_use receives c i e = rw e (or-true (is_use op_send c i))

-- a task has executed an instruction, on a channel
pub record Blocked (r : System) (t : TaskId) : Type 0 where
  pub place_low : 2 ≤ (task_at r t).pc
  pub place : (task_at r t).pc ≤ 65
  pub channel : within 1 128 (last_in (task_program r t) (task_at r t)).operand ≡ true

-- a task of a rig that a run reaches
module _ (p : Plan) (a : plan_answer (programs p) ≡ Ok tt) {r : System} {w : ChannelId → List Word} (k : Kept p r w) (t : TaskId)
    (number : within 1 (length (programs p)) t.0 ≡ true) where
  abbrev z : Task
  z = task_at r t

  abbrev g : Program
  g = program_of (programs p) t

  -- the channel that it sends or receives on has both ends
  pub both_ends : {kind : ℕ} {s : TaskState} → Side kind s → is_in s z ≡ true → BothEnds (programs p) (channel_id (last_in g z).operand)
  unfolding reading
  both_ends {kind} side e =
      let is = last_kind_lem (programs p) a k.state (consistent (programs p) a k.reached) k.running t side e in
      let l = last_some g z (omega (arith, is, side_some side)) in
      let few = place_few r.processors (length (programs p)) g z (k.running.tasks t number) in
      let c = (last_in g z).operand in
      let used : is_use kind c (last_in g z) ≡ true = and_both _ _ (eq-eqb (last_in g z).opcode kind is) (eq-eqb c c refl) in
      used_has_both_ends (programs p) a c (t.0 - 1) (z.pc - 2)
      (omega (arith, within_low 1 (length (programs p)) t.0 number, within_high 1 (length (programs p)) t.0 number))
      (omega arith)
      (rw (← last_is g z l) (either_use side c (last_in g z) used))

  -- it has executed an instruction
  blocked : {kind : ℕ} {s : TaskState} → Side kind s → is_in s z ≡ true → Blocked r t
  unfolding reading
  blocked side e =
      let is = last_kind_lem (programs p) a k.state (consistent (programs p) a k.reached) k.running t side e in
      let few = place_few r.processors (length (programs p)) g z (k.running.tasks t number) in
      let short = (fits (programs p) a).short (t.0 - 1) in
      let c = channel_id (last_in g z).operand in
      let ends = both_ends side e in
      let there : within 1 128 c.0 ≡ true = is_true (within 1 128 c.0) (λ out. omega (arith, (no_ends (programs p) a c out).0, ends.sender)) in
      record { place_low = last_some g z (omega (arith, is, side_some side)); place = omega (arith, few, short); channel = rw k.plan there }

-- at rest or not
pub sends_or_receives : (n : ℕ) (p : Plan) (ss : List Step) → 1 ≤ n → n ≤ 6 → plan_answer (programs p) ≡ Ok tt → (t : TaskId)
    → within 1 p.tasks t.0 ≡ true → let r = (from n p ss).system in
    is_in Sending (task_at r t) || is_in Receiving (task_at r t) ≡ true → Blocked r t
sends_or_receives n p ss some few a t is e =
    let k = list_kept n p some few a ss in
    let r = (from n p ss).system in
    let number : within 1 (length (programs p)) t.0 ≡ true = rw (tasks_of_lem p) is in
    or_cases (is_in Sending (task_at r t)) (is_in Receiving (task_at r t)) e (blocked p a k t number sends) (blocked p a k t number receives)
