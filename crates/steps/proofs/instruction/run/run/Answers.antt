-- `run`: a run of task t, carried out.
use mathlib.Core.Path.{◌≡◌, refl, sym, ap, ◌∙◌, subst}
use mathlib.Core.List.{List}
use Prim.Native.Nat.{ℕ, ◌≤◌}
use native.Mathlib.Omega.{arith}
use borrow.Author.Rules.{rules}
use Rattle.std.specs.Prelude.{Ok, Err}
use Rattle.plan.specs.declared.ProcessorId.{ProcessorId}
use Rattle.plan.specs.declared.TaskId.{TaskId}
use Rattle.plan.specs.declared.Instruction.{Instruction}
use Rattle.plan.specs.Kinds.{op_create, op_send, op_receive}
use Rattle.rules.specs.declared.task.Task.{Task}
use Rattle.rig_parts.specs.Answers.{Verdict}
use Rattle.plan_index.specs.user_table.Users.{senders_of, receivers_of}
use Rattle.rig_parts.proofs.BoundsParts.{used_few}
use Rattle.board.specs.declared.act.Act.{Act}
use Rattle.board.specs.declared.act.Size.{Size}
use Rattle.board.specs.Lent.{Lent, lent, tasks_of, kept_of}
use Rattle.board.specs.Acted.{Acted}
use Rattle.board.specs.Rigs.{RigOn, facts_in}
use Rattle.steps.specs.instruction.Nexts.{Next}
use Rattle.steps.specs.instruction.Nexts.{next_of}
use Rattle.steps.specs.instruction.Locals.{alone_verdict}
use Rattle.steps.proofs.instruction.Refusals.{placed}
use Rattle.steps.proofs.instruction.Nexts.{ReadyWith, next_judged, ready_with}
use Rattle.steps.proofs.instruction.Runs.{task_few, place_few, argument_few, create_can, create_judged, sync_judged, finish_can, finish_judged, sends_can, sends_judged, receives_can, receives_judged, set_judged, add_judged}
use Rattle.steps.proofs.instruction.run.run.Goals as goal

-- a verdict carried out: the one on the run, where that is it
done : (senders receivers : List ℕ) (before : Lent) {u v : Verdict} {r : Act} {after : Lent} → u ≡ v → Acted senders receivers v before r after → Acted senders receivers u before r after
done senders receivers before {u} {v} {r} {after} e d = subst (λ (z : Verdict). Acted senders receivers z before r after) (sym e) d

-- the ready task, and its next instruction, where that is found
going : {codes numbers users : List ℕ} {n : Size} {l : Lent} → RigOn codes numbers users n l → (t : TaskId) {k : Next} {x : Task} {i : Instruction}
    → k ≡ next_of codes n.tasks (tasks_of l) t → k ≡ Ok (x, i)
    → ReadyWith (facts_in n.tasks codes numbers users) n.processors (tasks_of l) (kept_of l) n.used t x i
going {codes} {numbers} {users} {n} {l} rig t {k} {x} {i} said is =
    ready_with (facts_in n.tasks codes numbers users) n.processors (tasks_of l) (kept_of l) n.used t rig.parts x i (sym said ∙ is)

-- what is ensured of a task changed alone, said of this run
alone_done : (ss rs hp hm op on notes board : List ℕ) (t : TaskId) (x : Task) {u : Verdict} {y z : Task} {r : Act} {board' : List ℕ} → u ≡ alone_verdict t x.processor z → y ≡ z
    → ((ss rs hp hm op on notes : List ℕ) (d : ProcessorId) → Acted ss rs (alone_verdict t d y) (lent hp hm op on notes board) r (lent hp hm op on notes board'))
    → Acted ss rs u (lent hp hm op on notes board) r (lent hp hm op on notes board')
alone_done ss rs hp hm op on notes board t x e is d =
    done ss rs (lent hp hm op on notes board) (e ∙ ap (alone_verdict t x.processor) (sym is)) (d ss rs hp hm op on notes x.processor)

pub next_of-found-requires : goal.next_of-found-requires
next_of-found-requires c = placed c.requires.parts

pub enum_known-found : goal.enum_known-found
enum_known-found c = search rules

pub enum_known-found-in-Ok-1 : goal.enum_known-found-in-Ok-1
enum_known-found-in-Ok-1 c = search rules

pub overflow_cast-u : goal.overflow_cast-u
overflow_cast-u c = omega (arith, argument_few (going c.requires c.args.t c.next_of-found.ensures c.in-Ok.is) op_create c.in-1.is refl)

pub create-requires : goal.create-requires
create-requires c = (c.requires.whole, c.requires.indexed, create_can (going c.requires c.args.t c.next_of-found.ensures c.in-Ok.is) c.in-1.is)

pub sync_rule-y-requires : goal.sync_rule-y-requires
sync_rule-y-requires c = place_few (going c.requires c.args.t c.next_of-found.ensures c.in-Ok.is)

pub alone-requires : goal.alone-requires
alone-requires c = (task_few (going c.requires c.args.t c.next_of-found.ensures c.in-Ok.is), c.requires.whole)

pub finish-requires : goal.finish-requires
finish-requires c = (c.requires.whole, used_few c.requires.parts, finish_can (going c.requires c.args.t c.next_of-found.ensures c.in-Ok.is))

pub overflow_cast-c : goal.overflow_cast-c
overflow_cast-c c = omega (arith, argument_few (going c.requires c.args.t c.next_of-found.ensures c.in-Ok.is) op_send c.in-4.is refl)

pub send-requires : goal.send-requires
send-requires c = (c.requires.whole, sends_can (going c.requires c.args.t c.next_of-found.ensures c.in-Ok.is) c.in-4.is)

pub overflow_cast-c-in-5 : goal.overflow_cast-c-in-5
overflow_cast-c-in-5 c = omega (arith, argument_few (going c.requires c.args.t c.next_of-found.ensures c.in-Ok.is) op_receive c.in-5.is refl)

pub receive-requires : goal.receive-requires
receive-requires c = (c.requires.whole, receives_can (going c.requires c.args.t c.next_of-found.ensures c.in-Ok.is) c.in-5.is)

pub set_rule-y-requires : goal.set_rule-y-requires
set_rule-y-requires c = place_few (going c.requires c.args.t c.next_of-found.ensures c.in-Ok.is)

pub alone-requires-in-6 : goal.alone-requires-in-6
alone-requires-in-6 c = (task_few (going c.requires c.args.t c.next_of-found.ensures c.in-Ok.is), c.requires.whole)

pub add_rule-y-requires : goal.add_rule-y-requires
add_rule-y-requires c = place_few (going c.requires c.args.t c.next_of-found.ensures c.in-Ok.is)

pub alone-requires-in_default : goal.alone-requires-in_default
alone-requires-in_default c = (task_few (going c.requires c.args.t c.next_of-found.ensures c.in-Ok.is), c.requires.whole)

pub returns-in-Err : goal.returns-in-Err
returns-in-Err c =
    let a = c.args in
    let ss = senders_of a.users.now in
    let rs = receivers_of a.users.now in
    let f = facts_in a.n.tasks a.codes.now a.numbers.now a.users.now in
    let l = lent a.hintprocessors.now a.hintmoves.now a.heldprocessors.now a.heldnumbers.now a.notes.now a.board.now in
    done ss rs l (next_judged f a.n.processors (tasks_of l) (kept_of l) a.n.used a.t (Err c.in-Err.e) (sym c.next_of-found.ensures ∙ c.in-Err.is))
    (record { whole = c.requires.whole; act = c.refused.ensures; tasks = refl; store = refl; parents = refl })

pub returns-in-1 : goal.returns-in-1
returns-in-1 c =
    let a = c.args in
    let ss = senders_of a.users.now in
    let rs = receivers_of a.users.now in
    done ss rs (lent a.hintprocessors.now a.hintmoves.now a.heldprocessors.now a.heldnumbers.now a.notes.now a.board.now)
    (create_judged (going c.requires c.args.t c.next_of-found.ensures c.in-Ok.is) c.in-1.is) (c.create.ensures ss a.heldprocessors.now a.heldnumbers.now a.notes.now)

pub returns-in-2 : goal.returns-in-2
returns-in-2 c =
    let a = c.args in
    let ss = senders_of a.users.now in
    let rs = receivers_of a.users.now in
    alone_done ss rs a.hintprocessors.now a.hintmoves.now a.heldprocessors.now a.heldnumbers.now a.notes.now a.board.now a.t c.in-Ok.x
    (sync_judged (going c.requires c.args.t c.next_of-found.ensures c.in-Ok.is) c.in-2.is) c.sync_rule-y.ensures c.alone.ensures

pub returns-in-3 : goal.returns-in-3
returns-in-3 c =
    let a = c.args in
    let ss = senders_of a.users.now in
    let rs = receivers_of a.users.now in
    done ss rs (lent a.hintprocessors.now a.hintmoves.now a.heldprocessors.now a.heldnumbers.now a.notes.now a.board.now)
    (finish_judged (going c.requires c.args.t c.next_of-found.ensures c.in-Ok.is) c.in-3.is)
    (c.finish.ensures ss rs a.hintprocessors.now a.hintmoves.now a.heldprocessors.now a.heldnumbers.now a.notes.now)

pub returns-in-4 : goal.returns-in-4
returns-in-4 c =
    let a = c.args in
    let ss = senders_of a.users.now in
    let rs = receivers_of a.users.now in
    done ss rs (lent a.hintprocessors.now a.hintmoves.now a.heldprocessors.now a.heldnumbers.now a.notes.now a.board.now)
    (sends_judged (going c.requires c.args.t c.next_of-found.ensures c.in-Ok.is) c.in-4.is) (c.send.ensures ss a.notes.now)

pub returns-in-5 : goal.returns-in-5
returns-in-5 c =
    let a = c.args in
    let ss = senders_of a.users.now in
    let rs = receivers_of a.users.now in
    done ss rs (lent a.hintprocessors.now a.hintmoves.now a.heldprocessors.now a.heldnumbers.now a.notes.now a.board.now)
    (receives_judged (going c.requires c.args.t c.next_of-found.ensures c.in-Ok.is) c.in-5.is)
    (c.receive.ensures rs a.hintprocessors.now a.hintmoves.now a.heldprocessors.now a.heldnumbers.now)

pub returns-in-6 : goal.returns-in-6
returns-in-6 c =
    let a = c.args in
    let ss = senders_of a.users.now in
    let rs = receivers_of a.users.now in
    alone_done ss rs a.hintprocessors.now a.hintmoves.now a.heldprocessors.now a.heldnumbers.now a.notes.now a.board.now a.t c.in-Ok.x
    (set_judged (going c.requires c.args.t c.next_of-found.ensures c.in-Ok.is) c.in-6.is) c.set_rule-y.ensures c.alone-in-6.ensures

pub returns-in_default : goal.returns-in_default
returns-in_default c =
    let a = c.args in
    let ss = senders_of a.users.now in
    let rs = receivers_of a.users.now in
    let other : (k : ℕ) → 1 ≤ k → k ≤ 6 → c.in-Ok.i.opcode ≡ k → ⊥ = λ k l h e. omega (arith, c.in_default.in_default-own) in
    alone_done ss rs a.hintprocessors.now a.hintmoves.now a.heldprocessors.now a.heldnumbers.now a.notes.now a.board.now a.t c.in-Ok.x
    (add_judged (going c.requires c.args.t c.next_of-found.ensures c.in-Ok.is) other) c.add_rule-y.ensures c.alone-in_default.ensures
