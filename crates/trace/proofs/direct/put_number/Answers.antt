-- `put_number` writes a number.
use native.Mathlib.Omega.{arith}
use Rattle.trace.proofs.Putting.{one_digit, digits_are}
use borrow.Author.Rules.{rules}
use Rattle.trace.proofs.direct.put_number.Goals as goal

pub put_one-requires : goal.put_one-requires
put_one-requires c =
    let n = c.args.n in
    let long = one_digit n (omega arith) in
    (search rules, omega arith)

pub returns-then-n-lt10 : goal.returns-then-n-lt10
returns-then-n-lt10 c =
    let b = c.before.before in
    let n = b.args.n in
    record { put = b.put_one.ensures; end = omega (arith, one_digit n (omega arith)) }

pub put_two-requires : goal.put_two-requires
put_two-requires c =
    let n = c.args.n in
    let long = digits_are 0 n (omega arith) (omega arith) in
    (search rules, search rules, omega arith)

pub returns-then-n-lt100 : goal.returns-then-n-lt100
returns-then-n-lt100 c =
    let b = c.before.before in
    let n = b.args.n in
    record { put = b.put_two.ensures; end = omega (arith, digits_are 0 n (omega arith) (omega arith)) }

pub put_three-requires : goal.put_three-requires
put_three-requires c =
    let n = c.args.n in
    let long = digits_are 1 n (omega arith) (omega arith) in
    (search rules, search rules, omega arith)

pub returns-then-n-lt1000 : goal.returns-then-n-lt1000
returns-then-n-lt1000 c =
    let b = c.before.before in
    let n = b.args.n in
    record { put = b.put_three.ensures; end = omega (arith, digits_are 1 n (omega arith) (omega arith)) }

pub put_four-requires : goal.put_four-requires
put_four-requires c =
    let n = c.args.n in
    let long = digits_are 2 n (omega arith) (omega arith) in
    (search rules, search rules, omega arith)

pub returns-then-n-lt10000 : goal.returns-then-n-lt10000
returns-then-n-lt10000 c =
    let b = c.before.before in
    let n = b.args.n in
    record { put = b.put_four.ensures; end = omega (arith, digits_are 2 n (omega arith) (omega arith)) }

pub put_five-requires : goal.put_five-requires
put_five-requires c =
    let n = c.args.n in
    let long = digits_are 3 n (omega arith) (omega arith) in
    (search rules, search rules, omega arith)

pub returns : goal.returns
returns c =
    let b = c.before.before in
    let n = b.args.n in
    record { put = b.put_five.ensures; end = omega (arith, digits_are 3 n (omega arith) (omega arith)) }
