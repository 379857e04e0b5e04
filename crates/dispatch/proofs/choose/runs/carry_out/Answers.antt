-- `carry_out`: by the short cut, or as any step that delivers no letter.
use mathlib.Core.Path.{sym, subst}
use mathlib.Core.List.{List}
use Prim.Native.Nat.{ℕ}
use Rattle.plan_index.specs.user_table.Users.{senders_of, receivers_of}
use Rattle.board.specs.Lent.{lent, tasks_of, kept_of}
use Rattle.board.specs.Acted.{Acted}
use Rattle.board.specs.Rigs.{RigOn, facts_in}
use Rattle.board.specs.Verdicts.{step_verdict}
use Rattle.dispatch.proofs.choose.runs.carry_out.Goals as goal

pub returns-then-word_run : goal.returns-then-word_run
returns-then-word_run c = rw c.posted.ensures (c.word_run.ensures.1 c.if-word_run.true _ _ _ _ _ _ _)

pub other-requires : goal.other-requires
other-requires c =
    let a = c.args in
    subst (λ (z : List ℕ). RigOn a.codes.now a.numbers.now a.users.now a.n (lent a.hintprocessors.now a.hintmoves.now a.heldprocessors.now a.heldnumbers.now a.notes.now z)) (sym (c.word_run.ensures.0 c.if-word_run.false)) c.requires

pub returns : goal.returns
returns c =
    let a = c.args in
    subst (λ (z : List ℕ).
    let l = lent a.hintprocessors.now a.hintmoves.now a.heldprocessors.now a.heldnumbers.now a.notes.now z in
    Acted (senders_of a.users.now) (receivers_of a.users.now)
    (step_verdict (facts_in a.n.tasks a.codes.now a.numbers.now a.users.now) a.n.processors (tasks_of l) (kept_of l) a.n.used a.s)
    l c.other.result (lent c.other.new.hintprocessors c.other.new.hintmoves c.other.new.heldprocessors c.other.new.heldnumbers c.other.new.notes c.other.new.board))
    (c.word_run.ensures.0 c.if-word_run.false) c.other.ensures
