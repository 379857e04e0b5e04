-- `ready_at_lem`: a desk's set.
use mathlib.Core.Path.{◌≡◌, sym}
use Prim.Native.Nat.{◌+◌, ◌-◌}
use native.Mathlib.Omega.{arith}
use Rattle.base.proofs.Tables.{get_d_table}
use Rattle.board.specs.Lent.{set_on, ready_on, tasks_on}
use Rattle.board.proofs.ready.ready_at.Goals as goal

pub returns : goal.returns
unfolding tasks_on ready_on
returns c =
    let a = c.args in
    let i : 1087 + a.d.0 ≡ 1088 + (a.d.0 - 1) = omega arith in
    rw i (sym (get_d_table 6 (set_on a.board.now) (a.d.0 - 1) 0 (omega arith)))
