-- A mover letter is opened; a moving task's record is stored, and what the desk keeps for it, and its channels are swept over.
use mathlib.Core.Path.{refl, sym, ◌∙◌}
use borrow.Author.Tests.{not-true, not-false}
use Rattle.steps.proofs.message.TaskActs.{mover_within, moved_opened, stayed_opened}
use borrow.Author.Rules.{rules}
use Rattle.steps.proofs.message.mover.mover.Goals as goal

pub enum_known-m : goal.enum_known-m
enum_known-m c = search rules

pub task_at-a-requires : goal.task_at-a-requires
task_at-a-requires c = (mover_within c.requires.1.holds.holds c.in-Migration.d c.in-Migration.t c.in-Migration.is).0

pub returns-then-not-is_in : goal.returns-then-not-is_in
returns-then-not-is_in c =
    let s = c.args in
    λ codes notes.
    stayed_opened codes s.users.now s.hintprocessors.now s.hintmoves.now s.heldprocessors.now s.heldnumbers.now notes s.board.now c.posted-then-not-is_in.ensures
    c.in-Migration.d c.in-Migration.t c.in-Migration.is c.task_at-a.ensures (sym c.is_in.ensures ∙ not-true c.is_in.result c.if-not-is_in.true-raw) c.requires.1.holds.holds.rig.whole

pub parent_at-e-requires : goal.parent_at-e-requires
parent_at-e-requires c = let n = mover_within c.requires.1.holds.holds c.in-Migration.d c.in-Migration.t c.in-Migration.is in record { processor_low = n.1; processor = n.2; task = n.0 }

pub put_task-requires : goal.put_task-requires
put_task-requires c = ((mover_within c.requires.1.holds.holds c.in-Migration.d c.in-Migration.t c.in-Migration.is).0, c.requires.1.holds.holds.rig.whole)

pub put_parent-requires : goal.put_parent-requires
put_parent-requires c =
    let n = mover_within c.requires.1.holds.holds c.in-Migration.d c.in-Migration.t c.in-Migration.is in
    (record { processor_low = n.1; processor = n.2; task = n.0 }, c.put_task.ensures.0)

pub arrive-requires : goal.arrive-requires
arrive-requires c =
    let n = mover_within c.requires.1.holds.holds c.in-Migration.d c.in-Migration.t c.in-Migration.is in
    (n.0, n.1, n.2, c.requires.1.holds.holds.rig.indexed, c.put_parent.ensures.0)

pub returns : goal.returns
returns c =
    let s = c.args in
    let one = c.put_task in
    let two = c.put_parent in
    λ codes notes.
    moved_opened codes s.users.now s.hintprocessors.now s.hintmoves.now s.heldprocessors.now s.heldnumbers.now notes s.board.now c.posted-2.ensures
    c.in-Migration.d c.in-Migration.t one.new.board two.new.board c.in-Migration.is c.task_at-a.ensures (sym c.is_in.ensures ∙ not-false c.is_in.result c.if-not-is_in.false-raw)
    (c.without_children-y.ensures ∙ rw (c.arrival-here.ensures, c.parent_at-e.ensures) refl)
    (one.ensures.1, one.ensures.2, one.ensures.3) (rw c.arrival_parent-entry.ensures at two.ensures) (c.arrive.ensures notes)
