-- `digits` is how many digits a number has.
use mathlib.Core.Path.{sym}
use native.Mathlib.Omega.{arith}
use borrow.Author.Rules.{rules}
use Rattle.trace.proofs.Putting.{one_digit, digits_are}
use Rattle.trace.proofs.direct.digits.Goals as goal

pub returns-then-n-lt10 : goal.returns-then-n-lt10
returns-then-n-lt10 c = (sym (one_digit c.args.n c.if-n-lt10.true), search rules)

pub returns-then-n-lt100 : goal.returns-then-n-lt100
returns-then-n-lt100 c = (sym (digits_are 0 c.args.n (omega arith) (omega arith)), search rules)

pub returns-then-n-lt1000 : goal.returns-then-n-lt1000
returns-then-n-lt1000 c = (sym (digits_are 1 c.args.n (omega arith) (omega arith)), search rules)

pub returns-then-n-lt10000 : goal.returns-then-n-lt10000
returns-then-n-lt10000 c = (sym (digits_are 2 c.args.n (omega arith) (omega arith)), search rules)

pub returns : goal.returns
returns c = (sym (digits_are 3 c.args.n (omega arith) (omega arith)), search rules)
