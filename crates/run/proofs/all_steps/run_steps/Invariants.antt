-- `run_steps`: what its loops keep.
use mathlib.Core.Path.{◌≡◌}
use Prim.Native.Nat.{◌+◌, ◌-◌, ◌≤◌}
use Rattle.rules.specs.StepFiles.{step_at}
use Rattle.network.proofs.Shift.{shifted}
use Rattle.network.proofs.Gaps.{holding}
use Rattle.network.proofs.Posted.{after}
use Rattle.board.specs.Lent.{lent, Whole, tasks_of, kept_of}
use Rattle.board.specs.Rigs.{facts_in}
use Rattle.run.proofs.all_steps.Going.{Going}
use Rattle.run.proofs.all_steps.run_steps.Given as goal

-- j letters behind the delivered one have moved down
abbrev pub invariant-loop-j : goal.invariant-loop-j
invariant-loop-j l = (l.place + l.j ≤ l.last) × (l.network ≡ holding l.initial.network.used (shifted l.initial.network.slots l.place l.j))

abbrev pub decreases-loop-j : goal.decreases-loop-j
decreases-loop-j l = l.last - l.j

-- e rounds have posted their letters
abbrev pub invariant-loop-e : goal.invariant-loop-e
invariant-loop-e l = (l.e ≤ l.rounds) × (l.network ≡ after l.posting l.initial.network l.e)

abbrev pub decreases-loop-e : goal.decreases-loop-e
decreases-loop-e l = l.rounds - l.e

-- k steps are carried out, and their lines written
abbrev pub invariant-loop-k : goal.invariant-loop-k
invariant-loop-k l =
    let i = l.initial in
    let begun = lent i.hintprocessors i.hintmoves i.heldprocessors i.heldnumbers i.notes i.board in
    let here = lent l.hintprocessors l.hintmoves l.heldprocessors l.heldnumbers l.notes l.board in
    (l.k ≤ l.n) × Whole l.board
    × Going (facts_in l.size.tasks l.codes l.numbers l.users) l.size.processors (tasks_of begun) i.network (kept_of begun) (step_at l.steps) i.out l.k (tasks_of here) l.network (kept_of here) l.progress l.out

abbrev pub decreases-loop-k : goal.decreases-loop-k
decreases-loop-k l = l.n - l.k
