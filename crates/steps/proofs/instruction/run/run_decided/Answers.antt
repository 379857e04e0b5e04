-- `run_decided`: a run of task t, decided and not done.
use mathlib.Core.Path.{◌≡◌, refl, sym, ap, ◌∙◌}
use native.Mathlib.Omega.{arith}
use borrow.Author.Rules.{rules}
use Rattle.std.specs.Prelude.{Ok, Err}
use Rattle.plan.specs.declared.Instruction.{Instruction}
use Rattle.plan.specs.Kinds.{op_send, op_receive}
use Rattle.rules.specs.declared.task.Task.{Task}
use Rattle.rig_parts.specs.Facts.{Facts}
use Rattle.rig_parts.proofs.BoundsParts.{used_few}
use Rattle.board.specs.Lent.{Lent, lent, tasks_of, kept_of}
use Rattle.board.specs.Acted.{act_of}
use Rattle.board.specs.Rigs.{facts_in}
use Rattle.steps.specs.instruction.Nexts.{Next}
use Rattle.steps.specs.instruction.Nexts.{next_of}
use Rattle.steps.proofs.instruction.Refusals.{placed}
use Rattle.steps.proofs.instruction.Nexts.{ReadyWith, next_judged, ready_with}
use Rattle.steps.proofs.instruction.Runs.{argument_few, finish_can, finish_judged, sends_can, sends_judged, receives_can, receives_judged, plain_judged}
use Rattle.steps.proofs.instruction.run.run_decided.Goals as goal
use Rattle.steps.proofs.instruction.run.run_decided.Goals.{After-next_of-found, In-Ok, Start}

-- what is derived of the plan, and what is lent
abbrev given : Start → Facts
given c = let a = c.args in facts_in a.n.tasks a.codes.now a.numbers.now a.users.now

abbrev here : Start → Lent
here c = let a = c.args in lent a.hintprocessors.now a.hintmoves.now a.heldprocessors.now a.heldnumbers.now a.notes.now a.board.now

-- what is found
found_is : (c : After-next_of-found) (k : Next) → c.next_of-found.result ≡ k
    → let s = c.before in next_of (given s).codes (given s).tasks (tasks_of (here s)) s.args.t ≡ k
found_is c k e = sym c.next_of-found.ensures ∙ e

-- the ready task, and its next instruction
abbrev start : In-Ok → Start
start c = c.before.before

abbrev task : In-Ok → Task
task c = c.in-Ok.x

abbrev next : In-Ok → Instruction
next c = c.in-Ok.i

going : (c : In-Ok)
    → let s = start c in ReadyWith (given s) s.args.n.processors (tasks_of (here s)) (kept_of (here s)) s.args.n.used s.args.t (task c) (next c)
going c =
    let s = start c in
    let a = s.args in
    ready_with (given s) a.n.processors (tasks_of (here s)) (kept_of (here s)) a.n.used a.t s.requires.parts (task c) (next c)
    (found_is c.before (Ok ((task c), (next c))) c.in-Ok.is)

pub next_of-found-requires : goal.next_of-found-requires
next_of-found-requires c = placed c.requires.parts

pub enum_known-found : goal.enum_known-found
enum_known-found c = search rules

pub enum_known-found-in-Ok-1 : goal.enum_known-found-in-Ok-1
enum_known-found-in-Ok-1 c = search rules

pub finish_decided-requires : goal.finish_decided-requires
finish_decided-requires c = let b = c.before in (used_few (start b).requires.parts, finish_can (going b))

pub overflow_cast-c : goal.overflow_cast-c
overflow_cast-c c = omega (arith, argument_few (going c.before.before) op_send c.in-4.is refl)

pub send_decided-requires : goal.send_decided-requires
send_decided-requires c = sends_can (going c.before.before) c.in-4.is

pub overflow_cast-c-in-5 : goal.overflow_cast-c-in-5
overflow_cast-c-in-5 c = omega (arith, argument_few (going c.before.before) op_receive c.in-5.is refl)

pub receive_decided-requires : goal.receive_decided-requires
receive_decided-requires c = receives_can (going c.before.before) c.in-5.is

pub returns-in-Err : goal.returns-in-Err
returns-in-Err c =
    let s = c.before.before.before in
    let a = s.args in
    let k = Err c.in-Err.e in
    c.refused.ensures
    ∙ ap act_of (sym (next_judged (given s) a.n.processors (tasks_of (here s)) (kept_of (here s)) a.n.used a.t k (found_is c.before.before k c.in-Err.is)))

pub returns-in-3 : goal.returns-in-3
returns-in-3 c = c.finish_decided.ensures ∙ ap act_of (sym (finish_judged (going c.before.before) c.in-3.is))

pub returns-in-4 : goal.returns-in-4
returns-in-4 c =
    let b = c.before.before.before in
    c.send_decided.ensures (start b).args.notes.now ∙ ap act_of (sym (sends_judged (going b) c.in-4.is))

pub returns-in-5 : goal.returns-in-5
returns-in-5 c =
    let b = c.before.before.before in
    let a = (start b).args in
    c.receive_decided.ensures a.hintprocessors.now a.hintmoves.now a.heldprocessors.now a.heldnumbers.now
    ∙ ap act_of (sym (receives_judged (going b) c.in-5.is))

pub returns-in_default : goal.returns-in_default
returns-in_default c =
    let b = c.before.before in
    let other = c.in_default.in_default-own.rest in
    c.posted.ensures ∙ sym (plain_judged (going b) other.0.0.1 other.0.1 other.1)
