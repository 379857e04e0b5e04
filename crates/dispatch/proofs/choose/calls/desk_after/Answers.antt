-- `desk_after`: the desk after d, round again.
use mathlib.Core.Path.{refl}
use native.Mathlib.Omega.{arith}
use borrow.Author.Tests.{lt-ltb, le-ltb}
use Rattle.dispatch.proofs.choose.calls.desk_after.Goals as goal

pub returns-then-d-n : goal.returns-then-d-n
returns-then-d-n c = rw (lt-ltb c.args.d c.args.n c.if-d-n.true) refl

pub returns : goal.returns
returns c = rw (le-ltb c.args.d c.args.n (omega (arith, c.if-d-n.false))) refl
