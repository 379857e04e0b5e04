-- `read_byte`: a number that is ended, bytes below and above the digits, a digit.
use native.Mathlib.Omega.{arith}
use borrow.Author.Tests.{not-true, not-false}
use Rattle.chase.proofs.Numbers.{ended_read, low_read, high_read, more_read}
use Rattle.chase.proofs.number.read_byte.Goals.{then-not-x-via-then-not-x, then-not-x-via-else-not-x+then-b-lt48, then-not-x-via-else-not-x+else-b-lt48+then-b-gt57}
use Rattle.chase.proofs.number.read_byte.Goals as goal

pub returns-then-not-x : goal.returns-then-not-x
returns-then-not-x c =
    let a = c.args in
    elim c.then-not-x.branch [
      | then-not-x-via-then-not-x w ↦ ended_read a.x a.b (not-true _ w.if-not-x.true)
      | then-not-x-via-else-not-x+then-b-lt48 w ↦ low_read a.x a.b (omega (arith, w.if-b-lt48.true))
      | then-not-x-via-else-not-x+else-b-lt48+then-b-gt57 w ↦ high_read a.x a.b (omega (arith, w.if-b-gt57.true))
    ]

pub returns : goal.returns
returns c =
    let a = c.args in
    more_read a.x a.b c.capped-value.result (not-false _ c.if-not-x.false) (omega arith) (omega arith) c.capped-value.ensures
