-- `state_of`: a task's state, read from its number.
use mathlib.Core.Path.{◌≡◌, refl}
use native.Mathlib.Omega.{arith}
use borrow.Author.Tests.{ne_eqb}
use Rattle.board.proofs.packing.state_of.Goals as goal

pub returns-in-0 : goal.returns-in-0
returns-in-0 c =
    let e : c.args.n ≡ 0 = omega arith in
    rw e refl

pub returns-in-1 : goal.returns-in-1
returns-in-1 c =
    let e : c.args.n ≡ 1 = omega arith in
    rw e refl

pub returns-in-2 : goal.returns-in-2
returns-in-2 c =
    let e : c.args.n ≡ 2 = omega arith in
    rw e refl

pub returns-in-3 : goal.returns-in-3
returns-in-3 c =
    let e : c.args.n ≡ 3 = omega arith in
    rw e refl

pub returns-in-4 : goal.returns-in-4
returns-in-4 c =
    let e : c.args.n ≡ 4 = omega arith in
    rw e refl

pub returns-in-5 : goal.returns-in-5
returns-in-5 c =
    let e : c.args.n ≡ 5 = omega arith in
    rw e refl

pub returns-in_default : goal.returns-in_default
returns-in_default c =
    let n = c.args.n in
    rw (ne_eqb n 0 (λ q. omega arith), ne_eqb n 1 (λ q. omega arith), ne_eqb n 2 (λ q. omega arith), ne_eqb n 3 (λ q. omega arith), ne_eqb n 4 (λ q. omega arith), ne_eqb n 5 (λ q. omega arith)) refl
