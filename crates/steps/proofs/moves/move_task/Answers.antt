-- `move_task`: nothing, or the departure and the two sweeps.
use mathlib.Core.Path.{◌≡◌, sym, ap, ◌∙◌}
use mathlib.Core.Bool.{Bool, true}
use mathlib.Core.List.{List}
use Prim.Native.Nat.{ℕ, ◌<◌, ◌≤◌}
use native.Mathlib.Nat.{lt_of_le_of_lt}
use native.Mathlib.Omega.{arith}
use borrow.Author.Rules.{rules}
use borrow.Author.Tests.{not-true, not-false}
use Rattle.std.specs.Prelude.{Ok}
use Rattle.base.specs.Choice.{within}
use Rattle.base.proofs.Tests.{within_low, within_high}
use Rattle.plan.specs.declared.TaskId.{TaskId}
use Rattle.rules.specs.declared.task.Task.{Task}
use Rattle.rules.specs.Answers.{is_accepted}
use Rattle.rules.specs.Numbers.{processor_id}
use Rattle.rules.specs.Systems.{task_in}
use Rattle.rig_parts.specs.MoveVerdicts.{move_change, move_refusal, judged_move}
use Rattle.rig_parts.proofs.Passed.{MovePassed, move_passed}
use Rattle.plan_index.specs.user_table.Users.{senders_of, receivers_of}
use Rattle.board.specs.declared.act.Act.{Act}
use Rattle.board.specs.declared.act.Size.{Size}
use Rattle.board.specs.Lent.{lent, tasks_on}
use Rattle.board.specs.Acted.{act_of}
use Rattle.steps.specs.Moves.{CanMove}
use Rattle.steps.proofs.Acting.{answered_acted}
use Rattle.steps.proofs.Moving.{move_accepted, move_said, move_acted}
use Rattle.steps.proofs.moves.move_task.Goals as goal

-- what is known where the move is accepted
record Going (board : List ℕ) (n : Size) (t : TaskId) (to : ℕ) : Type 0 where
  accepted : is_accepted (move_refusal n.tasks n.processors (tasks_on board) n.used t (processor_id to)) ≡ true
  passed : MovePassed n.tasks n.processors n.used t (processor_id to) (task_in (tasks_on board) t)
  few : t.0 ≤ 64
  at_processor : within 1 6 (task_in (tasks_on board) t).processor.0 ≡ true
  low : (task_in (tasks_on board) t).moves < 9999

-- whether the answer is that it is accepted
asked : (board : List ℕ) (n : Size) (t : TaskId) (to : ℕ) {r : Act} {b : Bool}
    → let v = judged_move n.tasks n.processors (tasks_on board) n.used t (processor_id to) in r ≡ act_of v → b ≡ is_accepted r.answer
    → is_accepted (act_of v).answer ≡ b
asked board n t to said is = sym (is ∙ ap (λ (r : Act). is_accepted r.answer) said)

going : (users board : List ℕ) (n : Size) (t : TaskId) (to : ℕ) {r : Act} {b : Bool} → CanMove users board n.tasks t
    → r ≡ act_of (judged_move n.tasks n.processors (tasks_on board) n.used t (processor_id to)) → b ≡ is_accepted r.answer → b ≡ true → Going board n t to
going users board n t to can said is holds =
    let ok : is_accepted (move_refusal n.tasks n.processors (tasks_on board) n.used t (processor_id to)) ≡ true =
    sym (move_said _ _ _ _ _ _) ∙ asked board n t to said is ∙ holds in
    let p : MovePassed n.tasks n.processors n.used t (processor_id to) (task_in (tasks_on board) t) = move_passed _ _ _ _ _ _ ok in
    record {
      accepted = ok;
      passed = p;
      few = omega (arith, can.few, within_high 1 n.tasks t.0 p.task);
      at_processor = can.processor p.task p.ready;
      low = omega (arith, can.counts p.task p.ready, p.unspent);
    }

pub returns-then-not-is_accepted : goal.returns-then-not-is_accepted
returns-then-not-is_accepted c =
    let a = c.args in
    λ op on notes.
    answered_acted (senders_of a.users.now) (receivers_of a.users.now) (lent a.hintprocessors.now a.hintmoves.now op on notes a.board.now) c.requires.whole
    (judged_move a.n.tasks a.n.processors (tasks_on a.board.now) a.n.used a.t (processor_id a.to))
    (asked a.board.now a.n a.t a.to c.move_decided-r.ensures c.is_accepted.ensures ∙ not-true c.is_accepted.result c.if-not-is_accepted.true-raw) c.move_decided-r.ensures

pub task_at-x-requires : goal.task_at-x-requires
task_at-x-requires c = let k = going c.args.users.now c.args.board.now c.args.n c.args.t c.args.to c.requires c.move_decided-r.ensures c.is_accepted.ensures (not-false c.is_accepted.result c.if-not-is_accepted.false-raw) in k.few

pub overflow_cast-e : goal.overflow_cast-e
overflow_cast-e c =
    let k = going c.args.users.now c.args.board.now c.args.n c.args.t c.args.to c.requires c.move_decided-r.ensures c.is_accepted.ensures (not-false c.is_accepted.result c.if-not-is_accepted.false-raw) in
    -- a number of desks has 8 bits
    let narrow : c.args.n.processors < 256 = search rules in
    record { fits = lt_of_le_of_lt (within_high 1 _ _ k.passed.processor) narrow }

pub overflow_add-h : goal.overflow_add-h
overflow_add-h c =
    let k = going c.args.users.now c.args.board.now c.args.n c.args.t c.args.to c.requires c.move_decided-r.ensures c.is_accepted.ensures (not-false c.is_accepted.result c.if-not-is_accepted.false-raw) in
    let h : c.task_at-x.result.moves < 9999 = rw c.task_at-x.ensures k.low in
    omega (arith, h)

pub departure-requires : goal.departure-requires
departure-requires c = let k = going c.args.users.now c.args.board.now c.args.n c.args.t c.args.to c.requires c.move_decided-r.ensures c.is_accepted.ensures (not-false c.is_accepted.result c.if-not-is_accepted.false-raw) in rw c.task_at-x.ensures k.low

pub put_task-requires : goal.put_task-requires
put_task-requires c = let k = going c.args.users.now c.args.board.now c.args.n c.args.t c.args.to c.requires c.move_decided-r.ensures c.is_accepted.ensures (not-false c.is_accepted.result c.if-not-is_accepted.false-raw) in (k.few, c.requires.whole)

pub point_parent-requires : goal.point_parent-requires
point_parent-requires c =
    let k = going c.args.users.now c.args.board.now c.args.n c.args.t c.args.to c.requires c.move_decided-r.ensures c.is_accepted.ensures (not-false c.is_accepted.result c.if-not-is_accepted.false-raw) in
    let w : within 1 6 c.task_at-x.result.processor.0 ≡ true = rw c.task_at-x.ensures k.at_processor in
    (record { processor_low = within_low 1 6 _ w; processor = within_high 1 6 _ w; task = k.few }, c.put_task.ensures.0)

pub locate-requires : goal.locate-requires
locate-requires c =
    let k = going c.args.users.now c.args.board.now c.args.n c.args.t c.args.to c.requires c.move_decided-r.ensures c.is_accepted.ensures (not-false c.is_accepted.result c.if-not-is_accepted.false-raw) in
    let w : within 1 6 c.task_at-x.result.processor.0 ≡ true = rw c.task_at-x.ensures k.at_processor in
    (k.few, within_low 1 6 _ w, within_high 1 6 _ w, c.requires.indexed)

pub depart-requires : goal.depart-requires
depart-requires c =
    let k = going c.args.users.now c.args.board.now c.args.n c.args.t c.args.to c.requires c.move_decided-r.ensures c.is_accepted.ensures (not-false c.is_accepted.result c.if-not-is_accepted.false-raw) in
    let w : within 1 6 c.task_at-x.result.processor.0 ≡ true = rw c.task_at-x.ensures k.at_processor in
    (k.few, within_low 1 6 _ w, within_high 1 6 _ w, c.requires.indexed, c.point_parent.ensures.0)

pub returns : goal.returns
returns c =
    let k = going c.args.users.now c.args.board.now c.args.n c.args.t c.args.to c.requires c.move_decided-r.ensures c.is_accepted.ensures (not-false c.is_accepted.result c.if-not-is_accepted.false-raw) in
    let a = c.args in
    let e = processor_id a.to in
    let gone = c.point_parent.new.board in
    let judged = judged_move a.n.tasks a.n.processors (tasks_on a.board.now) a.n.used a.t e in
    let v : judged ≡ Ok (move_change a.t c.task_at-x.result e) =
    move_accepted _ _ _ _ _ _ k.accepted ∙ ap (λ (z : Task). Ok (move_change a.t z e)) (sym c.task_at-x.ensures) in
    λ op on notes.
    move_acted (senders_of a.users.now) (receivers_of a.users.now) a.hintprocessors.now a.hintmoves.now op on notes a.board.now c.put_task.new.board gone c.locate.new.hintprocessors c.locate.new.hintmoves c.depart.new.board a.t e
    c.task_at-x.result c.departure.result judged c.departure.ensures v c.put_task.ensures.1 c.put_task.ensures.2 c.put_task.ensures.3
    c.point_parent.ensures (c.locate.ensures op on notes gone c.point_parent.ensures.0) (c.depart.ensures op on notes)
    c.move_decided-r.ensures
