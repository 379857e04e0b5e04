-- `put_four` writes a number of four digits.
use Prim.Native.Nat.{◌/◌}
use native.Mathlib.Omega.{arith}
use Rattle.trace.proofs.Putting.{digits_are, put_digit}
use Rattle.trace.proofs.direct.put_four.Goals as goal

pub returns : goal.returns
returns c =
    let b = c.before.before.before in
    let n = b.args.n in
    put_digit b.put_three.ensures 3 c.digit.result (omega arith) (digits_are 1 (n / 10) (omega arith) (omega arith)) (omega arith) c.digit.ensures
