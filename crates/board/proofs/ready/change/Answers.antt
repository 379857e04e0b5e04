-- `change`: a task joins or leaves one set, where there is such a desk.
use native.Mathlib.Omega.{arith}
use Rattle.base.specs.Choice.{pick}
use Rattle.base.specs.Sets.{inserted, removed}
use Rattle.board.proofs.Readies.{set_put, set_stays}
use Rattle.board.proofs.ready.change.Goals as goal
use Rattle.board.proofs.ready.change.Goals.{else-d-ge1-via-else-d-ge1, else-d-ge1-via-then-d-ge1+else-d-le6}

-- the set of a desk changes
pub returns-then-d-le6 : goal.returns-then-d-le6
returns-then-d-le6 c =
    let a = c.args in
    set_put a.board.now a.d c.with_or_without.result c.requires.2 (omega arith) (omega arith)
    (λ s. pick a.joins (inserted a.t.0 s) (removed a.t.0 s)) c.with_or_without.ensures

pub returns-else-d-ge1 : goal.returns-else-d-ge1
returns-else-d-ge1 c =
    let a = c.args in
    elim c.else-d-ge1.branch [
      | else-d-ge1-via-else-d-ge1 w ↦ set_stays a.board.now a.d (λ s. pick a.joins (inserted a.t.0 s) (removed a.t.0 s)) c.requires.2 (λ some few. omega arith)
      | else-d-ge1-via-then-d-ge1+else-d-le6 w ↦ set_stays a.board.now a.d (λ s. pick a.joins (inserted a.t.0 s) (removed a.t.0 s)) c.requires.2 (λ some few. omega arith)
    ]
