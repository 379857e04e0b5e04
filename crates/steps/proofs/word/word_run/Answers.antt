-- `word_run`: nothing where a test fails, else the task's new record is stored.
use mathlib.Core.Path.{◌≡◌, refl, sym, ap, ◌∙◌, subst}
use mathlib.Core.Bool.{true}
use mathlib.Core.List.{List}
use Prim.Native.Nat.{ℕ, ◌≤◌}
use native.Mathlib.Omega.{arith}
use borrow.Author.Rules.{rules}
use borrow.Author.Tests.{not-false, eq-eqb}
use Rattle.base.specs.Choice.{within}
use Rattle.base.proofs.Tests.{within_low, within_high}
use Rattle.plan.specs.declared.TaskId.{TaskId}
use Rattle.plan.specs.declared.Instruction.{Instruction}
use Rattle.rules.specs.declared.task.Task.{Task}
use Rattle.rules.specs.declared.task.TaskState.TheVariants.{Ready}
use Rattle.rules.specs.Numbers.{task_id}
use Rattle.rules.specs.Tasks.{is_in}
use Rattle.rules.specs.Systems.{task_in, task_stored}
use Rattle.rig_parts.specs.Facts.{Facts}
use Rattle.rig_parts.specs.Fetches.{instruction_in}
use Rattle.rig_parts.proofs.BoundsParts.{count_few, used_few}
use Rattle.rig_parts.proofs.BoundsReady.{next_at, place_some, place_last}
use Rattle.plan_index.specs.user_table.Users.{senders_of, receivers_of}
use Rattle.board.specs.Lent.{lent, tasks_on, kept_of, TaskPut}
use Rattle.board.specs.Rigs.{facts_in, Worded}
use Rattle.board.specs.Verdicts.{step_verdict}
use Rattle.steps.specs.Words.{word_changed}
use Rattle.steps.proofs.Acting.{tested}
use Rattle.steps.proofs.Words.{never, word_judged, word_acted}
use Rattle.steps.proofs.word.word_run.Goals as goal
use Rattle.steps.proofs.word.word_run.Goals.{After-instruction_in-i, After-task_at-x, Else-i-lt-SET, Else-not-is_in, Else-not-is_within, Else-s-ne0, Start}

-- where each test comes from
abbrev second : Else-not-is_within → Else-s-ne0
second c = c.before.before.before.before

abbrev from3 : Else-not-is_within → Start
from3 c = (second c).before.before.before.before

abbrev fetch : Else-not-is_in → After-task_at-x
fetch c = c.before.before

abbrev third : Else-not-is_in → Else-not-is_within
third c = (fetch c).before

abbrev from4 : Else-not-is_in → Start
from4 c = from3 (third c)

-- the facts of some plan, the task, its next instruction
abbrev given : Start → Facts
given s = let a = s.args in let h = s.requires.1 in facts_in a.n.tasks a.codes.now h.numbers h.users

abbrev named : Start → TaskId
named s = task_id s.args.s.task

abbrev found : Start → Task
found s = task_in (tasks_on s.args.board.now) (named s)

abbrev next : Start → Instruction
next s = next_at (given s) (tasks_on s.args.board.now) (named s)

-- what a test that is passed says
counted : (c : Else-not-is_within) → within 1 (from3 c).args.n.tasks (from3 c).args.s.task ≡ true
counted c = sym (tested c.is_within.ensures c.wide8.ensures c.wide8-2.ensures) ∙ not-false c.is_within.result c.if-not-is_within.false-raw

few : (c : Else-not-is_within) → (from3 c).args.s.task ≤ 64
few c =
    let s = from3 c in
    omega (arith, count_few s.requires.1.rig.parts, within_high 1 s.args.n.tasks s.args.s.task (counted c))

ready : (c : Else-not-is_in) → is_in Ready (found (from4 c)) ≡ true
ready c = sym (c.is_in.ensures ∙ ap (is_in Ready) (fetch c).task_at-x.ensures) ∙ not-false c.is_in.result c.if-not-is_in.false-raw

last : (c : Else-not-is_in) → (fetch c).task_at-x.result.pc ≤ 64
last c = rw (fetch c).task_at-x.ensures (place_last (from4 c).requires.1.rig.parts (named (from4 c)) (counted (third c)) (ready c))

next_is : (c : After-instruction_in-i) → c.instruction_in-i.result ≡ next (from4 c.before)
next_is c =
    let a = (from4 c.before).args in
    c.instruction_in-i.ensures ∙ ap (λ (z : Task). instruction_in a.codes.now (task_id a.s.task) z.pc) (fetch c.before).task_at-x.ensures

pub returns-then-s-ne1 : goal.returns-then-s-ne1
returns-then-s-ne1 c = ((λ e. refl), (λ e. never e))

pub returns-then-s-ne0 : goal.returns-then-s-ne0
returns-then-s-ne0 c = ((λ e. refl), (λ e. never e))

pub returns-then-not-is_within : goal.returns-then-not-is_within
returns-then-not-is_within c = ((λ e. refl), (λ e. never e))

pub task_at-x-requires : goal.task_at-x-requires
task_at-x-requires c = few c

pub returns-then-not-is_in : goal.returns-then-not-is_in
returns-then-not-is_in c = ((λ e. refl), (λ e. never e))

pub instruction_in-i-requires : goal.instruction_in-i-requires
instruction_in-i-requires c =
    let s = from4 c in
    let w = counted (third c) in
    (within_low 1 s.args.n.tasks s.args.s.task w, few (third c), rw (fetch c).task_at-x.ensures (place_some s.requires.1.rig.parts (named s) w (ready c)), last c)

pub returns-then-i-lt-SET : goal.returns-then-i-lt-SET
returns-then-i-lt-SET c = ((λ e. refl), (λ e. never e))

-- the change of the task is all that is left
changed : (o : Else-i-lt-SET)
    → let i = o.before.before in
    let s = from4 i.before in
    (board' : List ℕ) → TaskPut (named s) (word_changed (fetch i.before).task_at-x.result i.instruction_in-i.result) s.args.board.now board'
    → Worded s.args.codes.now s.args.n s.args.s s.args.board.now true board'
changed o board' e =
    let i = o.before.before in
    let r = i.before in
    let s = from4 r in
    let a = s.args in
    let ts = tasks_on a.board.now in
    let y : word_changed (fetch r).task_at-x.result i.instruction_in-i.result ≡ word_changed (found s) (next s) =
    ap (λ (z : Task). word_changed z i.instruction_in-i.result) (fetch r).task_at-x.ensures ∙ ap (λ (z : Instruction). word_changed (found s) z) (next_is i) in
    let high : 6 ≤ (next s).opcode = subst (λ (z : Instruction). 6 ≤ z.opcode) (next_is i) (omega (arith, o.if-i-lt-SET.false)) in
    let z = second (third r) in
    let kind : a.s.kind ≡ 1 = omega (arith, z.if-s-ne1.false) in
    let none : a.s.number ≡ 0 = omega (arith, z.if-s-ne0.false) in (
      (λ q. never (sym q)),
      (λ q numbers users hp hm op on notes.
          let f = facts_in a.n.tasks a.codes.now numbers users in
          let st = kept_of (lent hp hm op on notes a.board.now) in
          word_acted (senders_of users) (receivers_of users) hp hm op on notes a.board.now board' (named s) (word_changed (found s) (next s)) (step_verdict f a.n.processors ts st a.n.used a.s) a.codes.now (found s).processor
          (word_judged f a.n.processors ts st a.n.used a.s (eq-eqb a.s.kind 1 kind) none (counted (third r)) (ready r) high (used_few s.requires.1.rig.parts))
          (e.0, e.1 ∙ ap (task_stored ts (named s)) y, e.2, e.3)),
    )

pub change_first_level-requires : goal.change_first_level-requires
change_first_level-requires c =
    let e = c.before.before.before.before.before.before in
    let s = from4 e in
    (within_low 1 s.args.n.tasks s.args.s.task (counted (third e)), few (third e), omega (arith, last e), s.requires.0, omega arith, (fetch e).task_at-x.ensures)

pub returns-then-i-eq0 : goal.returns-then-i-eq0
returns-then-i-eq0 c = changed c.before.before.before.before _ c.change_first_level.ensures

pub change-requires : goal.change-requires
change-requires c = let e = c.before.before.before.before.before.before in (few (third e), omega (arith, last e), (from4 e).requires.0)

pub returns : goal.returns
returns c = changed c.before.before.before.before _ c.change.ensures
