-- `task_at`: task t; 0 is none.
use mathlib.Core.Path.{◌≡◌, refl}
use native.Mathlib.Omega.{arith}
use borrow.Author.Tests.{ne_eqb}
use Rattle.board.proofs.Stores.{task_read}
use Rattle.rules.specs.Systems.{task_in}
use Rattle.board.proofs.task_at.Goals as goal

pub returns-then-t-eq0 : goal.returns-then-t-eq0
unfolding task_in
returns-then-t-eq0 c =
    let e : c.args.t.0 ≡ 0 = omega arith in
    rw (e, c.no_task.ensures) refl

pub returns : goal.returns
unfolding task_in
returns c =
    let a = c.args in
    let n = a.t.0 in
    rw (ne_eqb n 0 (λ q. omega arith), c.task_of.ensures) (task_read a.board.now n refl (omega arith) (omega arith))
