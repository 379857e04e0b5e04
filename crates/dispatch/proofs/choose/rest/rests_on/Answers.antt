use mathlib.Core.Path.{◌≡◌, sym, subst}
use mathlib.Core.Bool.{false}
use Prim.Native.Nat.{ℕ, ◌-◌}
use native.Mathlib.Omega.{arith}
use Rattle.rig.specs.rest.Rests.{quiet_in}
use Rattle.rig.proofs.rest.Quiet.{quiet_network}
use Rattle.board.specs.Lent.{tasks_on}
use Rattle.dispatch.proofs.choose.rest.rests_on.Goals as goal

pub returns-then-awake : goal.returns-then-awake
returns-then-awake c = sym (c.requires.0 c.if-awake.true)

pub returns-then-used-ne0 : goal.returns-then-used-ne0
returns-then-used-ne0 c = sym (quiet_network _ _ _ _ c.if-used-ne0.true)

pub returns-then-one_runs : goal.returns-then-one_runs
returns-then-one_runs c =
    let a = c.args in
    sym (subst (λ (u : ℕ). quiet_in a.count a.codes.now (tasks_on a.board.now) u ≡ false) (sym c.if-used-ne0.false) (c.one_runs.ensures c.if-one_runs.true))
