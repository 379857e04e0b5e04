-- What is fetched of the parts of a rig is what the rig has: tasks, the instructions that they run next and executed last, sites.
use mathlib.Core.Path.{◌≡◌, refl, sym, ap}
use mathlib.Core.Bool.{Bool, true, false, ◌&&◌}
use mathlib.Core.Logic.{by_cases}
use Prim.Native.Nat.{ℕ, ◌+◌, ◌-◌, ◌≤◌, ◌<◌}
use native.Mathlib.Omega.{arith}
use native.Mathlib.Decide.{ℕ_discrete}
use lib.Dec.{eqb, ltb}
use lib.ListN.{get_or, length}
use borrow.Author.Tests.{ltb-true, eq-eqb, ne_eqb}
use Rattle.base.specs.Choice.{pick}
use Rattle.plan.specs.declared.Plan.{Plan}
use Rattle.plan.specs.declared.TaskId.{TaskId}
use Rattle.plan.specs.declared.ProcessorId.{ProcessorId}
use Rattle.plan.specs.declared.ChannelId.{ChannelId}
use Rattle.plan.specs.declared.Instruction.{Instruction}
use Rattle.plan.specs.Kinds.{no_instruction}
use Rattle.plan.specs.Programs.{instruction_at, instruction_of, slot_of}
use Rattle.plan.proofs.Parts.{count_of_lem, instruction_of_lem}
use Rattle.rules.specs.declared.task.Task.{Task}
use Rattle.rules.specs.declared.task.TaskState.{TaskState}
use Rattle.rules.specs.declared.task.TaskState.TheVariants.{Ready, Sending, Receiving}
use Rattle.rules.specs.declared.system.System.{System}
use Rattle.rules.specs.Tasks.{is_in}
use Rattle.rules.specs.Systems.{task_at, task_program, task_in, store_in, channel_at, entry_at}
use Rattle.rules.specs.Places.{next_in, last_in, is_on}
use Rattle.rules.specs.Effects.{site_at}
use Rattle.rules.specs.Runs.{next_of}
use Rattle.rules_sound.specs.Sound.{program_in, Holds}
use Rattle.rules_sound.proofs.Born.{place_few}
use Rattle.rules_sound.proofs.Settled.{settled}
use Rattle.rig_parts.specs.Fetches.{slot_at, instruction_in, last_of, is_on_in, cell_of, site_in}
use Rattle.rig_parts.specs.Scopes.{scope}

-- an instruction of task t's program, from 0
module _ (p : Plan) (t : TaskId) (l : 1 ≤ t.0) (h : t.0 ≤ p.tasks) where
  pub instruction_in_slot : (i : ℕ) → i < length (program_in p t) → instruction_at (program_in p t) i ≡ slot_of p (slot_at t i)
  instruction_in_slot i k = instruction_of_lem p (t.0 - 1) i (omega arith) (omega (arith, count_of_lem p (t.0 - 1) (omega arith)))

  -- the last executed one of a task that is at most one behind its last
  pub last_in_slot : (x : Task) → x.pc ≤ length (program_in p t) + 1 → (instruction_of (last_of p.codes t x.pc)).operand ≡ (last_in (program_in p t) x).operand
  unfolding last_of last_in
  last_in_slot x few = rw (ne_eqb t.0 0 (λ e. omega arith)) (go (ltb 1 x.pc) refl)
    where
      go : (b : Bool) → ltb 1 x.pc ≡ b
          → (instruction_of (pick b (get_or p.codes (slot_at t (x.pc - 2)) 0) 0)).operand ≡ (pick b (instruction_at (program_in p t) (x.pc - 2)) no_instruction).operand
      go true e = ap (λ (i : Instruction). i.operand) (sym (instruction_in_slot (x.pc - 2) (omega (arith, ltb-true 1 x.pc e))))
      go false e = refl

-- in a rig that 9 does not refuse
module _ (r : System) (o : Holds r.processors r.plan r) where
  -- the next instruction of a ready task
  pub next_read : (t : TaskId) → 1 ≤ t.0 → t.0 ≤ r.plan.tasks → is_in Ready (task_at r t) ≡ true
      → instruction_in r.plan.codes t (task_at r t).pc ≡ next_of r t
  unfolding next_in
  next_read t l h ready =
      let x = task_at r t in
      let s = settled r.processors r.plan.tasks (program_in r.plan t) x Ready refl ready (o.tasks t l h) in
      let low = s.place in
      let high = s.place_few in
      sym (instruction_in_slot r.plan t l h (x.pc - 1) (omega arith))

  -- the last executed one of a task or none
  pub last_read : (t : TaskId) → t.0 ≤ r.plan.tasks → (instruction_of (last_of r.plan.codes t (task_at r t).pc)).operand ≡ (last_in (task_program r t) (task_at r t)).operand
  last_read t h = by_cases (ℕ_discrete t.0 0) none some
    where
      none : t.0 ≡ 0 → (instruction_of (last_of r.plan.codes t (task_at r t).pc)).operand ≡ (last_in (task_program r t) (task_at r t)).operand
      none e = unfold task_in last_of last_in in rw (eq-eqb t.0 0 e) refl

      some : (t.0 ≡ 0 → ⊥) → (instruction_of (last_of r.plan.codes t (task_at r t).pc)).operand ≡ (last_in (task_program r t) (task_at r t)).operand
      some e =
          last_in_slot r.plan t (omega arith) h (task_at r t)
          (place_few r.processors r.plan.tasks (program_in r.plan t) (task_at r t) (o.tasks t (omega arith) h))

  on_read : (s : TaskState) (t : TaskId) (c : ChannelId) → t.0 ≤ r.plan.tasks
      → is_on_in r.plan.codes s t c (task_at r t) ≡ is_on s (task_program r t) c (task_at r t)
  unfolding is_on
  on_read s t c h = ap (λ n. is_in s (task_at r t) && eqb n c.0) (last_read t h)

  -- a site
  pub site_read_lem : (a b : TaskId) (c : ChannelId) (d : ProcessorId) → a.0 ≤ r.plan.tasks → b.0 ≤ r.plan.tasks → 1 ≤ c.0
      → site_in r.plan.codes r.tasks (store_in r) (scope a b c d) ≡ site_at r a b c d
  unfolding site_in site_at cell_of entry_at channel_at
  site_read_lem a b c d ah bh cl =
      rw (ne_eqb c.0 0 (λ e. omega arith), on_read Sending a c ah, on_read Receiving b c bh) refl
