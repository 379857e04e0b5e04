-- `next_of`: what a run of task t finds: 10, no such task; 11, not ready; 12, a finish with living children.
use mathlib.Core.Path.{◌≡◌, refl, sym, ap, ◌∙◌}
use mathlib.Core.Bool.{true, false, not, ◌&&◌}
use native.Mathlib.Omega.{arith}
use borrow.Author.Rules.{rules}
use borrow.Author.Tests.{eq-eqb, ne_eqb, not-true, not-false}
use Rattle.std.specs.Prelude.{Ok}
use Rattle.base.specs.Choice.{within}
use Rattle.base.proofs.Tests.{within_low, within_high}
use Rattle.plan.specs.declared.Instruction.{Instruction}
use Rattle.plan.specs.Kinds.{op_finish, is_finish}
use Rattle.rules.specs.declared.task.Task.{Task}
use Rattle.rules.specs.declared.task.TaskState.TheVariants.{Ready}
use Rattle.rules.specs.Tasks.{is_in, is_childless}
use Rattle.rules.specs.Systems.{task_in}
use Rattle.rig_parts.specs.Fetches.{instruction_in}
use Rattle.board.specs.Lent.{tasks_on}
use Rattle.steps.specs.instruction.Nexts.{next_of}
use Rattle.steps.proofs.instruction.Nexts.{no_task_lem, not_ready, with_children_lem, can_run_lem}
use Rattle.steps.proofs.instruction.next.next_of.Goals as goal
use Rattle.steps.proofs.instruction.next.next_of.Goals.{After-instruction_in-i, After-is_childless, After-is_in, After-is_within, Else-not-is_in, Else-not-is_within, Start, Then-i-eq-FINISH}

abbrev start : Else-not-is_within → Start
start c = c.before.before.before.before

within_is : (c : After-is_within) → c.is_within.result ≡ within 1 c.args.count c.args.t.0
within_is c = rw (c.wide8.ensures, c.wide8-2.ensures) at c.is_within.ensures

counted : (c : Else-not-is_within) → within 1 (start c).args.count (start c).args.t.0 ≡ true
counted c = sym (within_is c.before) ∙ not-false c.before.is_within.result c.if-not-is_within.false-raw

-- the task, which is ready, and its next instruction
abbrev task : Else-not-is_within → Task
task c = task_in (tasks_on (start c).args.board.now) (start c).args.t

abbrev next : Else-not-is_within → Instruction
next c = let a = (start c).args in instruction_in a.codes.now a.t (task c).pc

ready_is : (c : After-is_in) → c.is_in.result ≡ is_in Ready (task c.before.before)
ready_is c = rw c.task_at-x.ensures at c.is_in.ensures

ready : (c : Else-not-is_in) → is_in Ready (task c.before.before.before) ≡ true
ready c = sym (ready_is c.before) ∙ not-false c.is_in.result c.if-not-is_in.false-raw

next_is : (c : After-instruction_in-i) → c.instruction_in-i.result ≡ next c.before.before.before.before
next_is c = rw c.task_at-x.ensures at c.instruction_in-i.ensures

-- what is found where no test refuses
runs : (c : After-instruction_in-i) → is_finish (next c.before.before.before.before) && not (is_childless (task c.before.before.before.before)) ≡ false → Ok (c.task_at-x.result, c.instruction_in-i.result)
    ≡ next_of c.args.codes.now c.args.count (tasks_on c.args.board.now) c.args.t
runs c e =
    let a = c.args in
    rw (c.task_at-x.ensures, next_is c)
    (can_run_lem a.codes.now a.count (tasks_on a.board.now) a.t (counted c.before.before.before.before) (ready c.before) e)

-- whether it is a finish
kind_is : (c : After-instruction_in-i) → is_finish (next c.before.before.before.before) ≡ is_finish c.instruction_in-i.result
kind_is c = ap is_finish (sym (next_is c))

finish_is : (c : Then-i-eq-FINISH) → is_finish (next c.before.before.before.before.before.before) ≡ true
finish_is c = kind_is c.before.before ∙ eq-eqb c.instruction_in-i.result.opcode op_finish c.if-i-eq-FINISH.true

childless_is : (c : After-is_childless) → c.is_childless.result ≡ is_childless (task c.before.before.before.before.before.before.before)
childless_is c = rw c.task_at-x.ensures at c.is_childless.ensures

pub returns-then-not-is_within : goal.returns-then-not-is_within
returns-then-not-is_within c =
    let a = c.args in
    no_task_lem a.codes.now a.count (tasks_on a.board.now) a.t (sym (within_is c.before) ∙ not-true c.before.is_within.result c.if-not-is_within.true-raw)

pub task_at-x-requires : goal.task_at-x-requires
task_at-x-requires c = omega (arith, c.requires.few, within_high 1 c.args.count c.args.t.0 (counted c))

pub returns-then-not-is_in : goal.returns-then-not-is_in
returns-then-not-is_in c =
    let a = c.args in
    not_ready a.codes.now a.count (tasks_on a.board.now) a.t (counted c.before.before.before) (sym (ready_is c.before) ∙ not-true c.is_in.result c.if-not-is_in.true-raw)

pub instruction_in-i-requires : goal.instruction_in-i-requires
instruction_in-i-requires c =
    let a = c.args in
    let w = counted c.before.before.before in
    let x = task c.before.before.before in
    let p = c.requires.place a.t w (ready c) in
    let e = c.task_at-x.ensures in
    (within_low 1 a.count a.t.0 w, omega (arith, c.requires.few, within_high 1 a.count a.t.0 w), rw e (within_low 1 64 x.pc p), rw e (within_high 1 64 x.pc p))

pub returns-then-not-is_childless : goal.returns-then-not-is_childless
returns-then-not-is_childless c =
    let a = c.args in
    with_children_lem a.codes.now a.count (tasks_on a.board.now) a.t (counted c.before.before.before.before.before.before.before.before) (ready c.before.before.before.before.before)
    (rw (finish_is c.before.before, sym (childless_is c.before), not-true c.is_childless.result c.if-not-is_childless.true-raw) refl)

pub returns-else-not-is_childless : goal.returns-else-not-is_childless
returns-else-not-is_childless c = runs c.before.before.before.before (rw (finish_is c.before.before, sym (childless_is c.before), not-false c.is_childless.result c.if-not-is_childless.false-raw) refl)

pub returns-else-i-eq-FINISH : goal.returns-else-i-eq-FINISH
returns-else-i-eq-FINISH c = runs c.before.before (rw (kind_is c.before.before ∙ ne_eqb c.instruction_in-i.result.opcode op_finish c.if-i-eq-FINISH.false) refl)
