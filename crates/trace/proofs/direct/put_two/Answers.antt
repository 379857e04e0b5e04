-- `put_two` writes a number of two digits.
use Prim.Native.Nat.{◌/◌}
use native.Mathlib.Omega.{arith}
use Rattle.trace.proofs.Putting.{one_digit, put_digit}
use Rattle.trace.proofs.direct.put_two.Goals as goal

pub returns : goal.returns
returns c =
    let b = c.before.before.before in
    let n = b.args.n in
    put_digit b.put_one.ensures 1 c.digit.result (omega arith) (one_digit (n / 10) (omega arith)) (omega arith) c.digit.ensures
