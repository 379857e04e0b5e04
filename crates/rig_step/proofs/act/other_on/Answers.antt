-- `other_on`: a step that is no run, a run that changes a word only, or one that asks for the numbers.
use mathlib.Core.Path.{◌≡◌, sym, subst}
use mathlib.Core.List.{List}
use Prim.Native.Nat.{ℕ}
use Rattle.rules.specs.Numbers.{task_id}
use Rattle.board.specs.declared.act.Act.{Act}
use Rattle.board.specs.Lent.{Lent, lent}
use Rattle.board.specs.Rigs.{RigOn}
use Rattle.steps.proofs.Moving.{rig_moves}
use Rattle.rig_step.specs.Acts.{numbers_of, OtherDone}
use Rattle.rig_step.proofs.act.other_on.Goals as goal
use Rattle.rig_step.proofs.act.other_on.Goals.{Else-word_run, Start}

-- what is lent when the step begins, with another board
abbrev with-board : Start → List ℕ → Lent
with-board c z = let a = c.args in lent a.hintprocessors.now a.hintmoves.now a.heldprocessors.now a.heldnumbers.now a.notes.now z

-- the numbers of its plan
abbrev numbers : Start → List ℕ
numbers c = let a = c.args in numbers_of a.n.tasks a.lengths.now a.codes.now

pub not_run-requires : goal.not_run-requires
not_run-requires c =
    let then1 = c.before.before.before in
    let start = then1.before.before in
    (then1.if-s-ne1.true, rig_moves start.requires.1 (task_id start.args.s.task))

pub returns-then-s-ne1 : goal.returns-then-s-ne1
returns-then-s-ne1 c =
    let start = c.before.before.before.before.before.before in
    let a = start.args in
    c.not_run.ensures a.codes.now (numbers start) a.heldprocessors.now a.heldnumbers.now a.notes.now

pub word_run-requires : goal.word_run-requires
word_run-requires c =
    let start = c.before.before.before in
    let a = start.args in (
      start.requires.1.whole,
      record {
        numbers = numbers start;
        users = a.users.now;
        hintprocessors = a.hintprocessors.now;
        hintmoves = a.hintmoves.now;
        heldprocessors = a.heldprocessors.now;
        heldnumbers = a.heldnumbers.now;
        notes = a.notes.now;
        rig = start.requires.1;
      },
    )

pub returns-then-word_run : goal.returns-then-word_run
returns-then-word_run c =
    let then2 = c.before in
    let word = then2.before in
    let start = word.before.before.before.before in
    let a = start.args in
    subst (λ (r : Act). OtherDone a.codes.now (numbers start) a.users.now a.n a.s (with-board start a.board.now) r (with-board start word.word_run.new.board))
    (sym c.posted.ensures)
    (word.word_run.ensures.1 then2.if-word_run.true (numbers start) a.users.now a.hintprocessors.now a.hintmoves.now a.heldprocessors.now a.heldnumbers.now a.notes.now)

-- nothing was carried out by a word's run
word_kept : (c : Else-word_run) → c.word_run.new.board ≡ c.args.board.now
word_kept c = c.word_run.ensures.0 c.if-word_run.false

pub numbered-requires : goal.numbered-requires
numbered-requires c =
    let else2 = c.before.before.before.before.before.before in
    let start = else2.before.before.before.before.before in
    let a = start.args in (
      start.requires.0,
      subst (λ (z : List ℕ). RigOn a.codes.now (numbers start) a.users.now a.n (with-board start z)) (sym (word_kept else2)) start.requires.1,
    )

pub returns : goal.returns
returns c =
    let else2 = c.before.before.before.before.before.before.before in
    let start = else2.before.before.before.before.before in
    let a = start.args in
    let left = lent c.numbered.new.hintprocessors c.numbered.new.hintmoves c.numbered.new.heldprocessors c.numbered.new.heldnumbers c.numbered.new.notes c.numbered.new.board in
    subst (λ (z : List ℕ). OtherDone a.codes.now (numbers start) a.users.now a.n a.s (with-board start z) c.numbered.result left)
    (word_kept else2)
    c.numbered.ensures
