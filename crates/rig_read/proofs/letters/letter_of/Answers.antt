use borrow.Author.Tests.{ne_eqb}
use Rattle.image.specs.Letters.{letter_of}
use native.Mathlib.Omega.{arith}
use mathlib.Core.Path.{◌≡◌, refl}
use Prim.Native.Nat.{◌%◌}
use Rattle.rig_read.proofs.letters.letter_of.Goals as goal

pub returns-in-1 : goal.returns-in-1
unfolding letter_of
returns-in-1 c =
    let e : c.args.v % 256 ≡ 1 = omega arith in
    rw e (cc)

pub returns-in-2 : goal.returns-in-2
unfolding letter_of
returns-in-2 c =
    let e : c.args.v % 256 ≡ 2 = omega arith in
    rw e (cc)

pub returns-in-3 : goal.returns-in-3
unfolding letter_of
returns-in-3 c =
    let e : c.args.v % 256 ≡ 3 = omega arith in
    rw e (cc)

pub returns-in-4 : goal.returns-in-4
unfolding letter_of
returns-in-4 c =
    let e : c.args.v % 256 ≡ 4 = omega arith in
    rw e (cc)

pub returns-in-5 : goal.returns-in-5
unfolding letter_of
returns-in-5 c =
    let e : c.args.v % 256 ≡ 5 = omega arith in
    rw e (cc)

pub returns-in-6 : goal.returns-in-6
unfolding letter_of
returns-in-6 c =
    let e : c.args.v % 256 ≡ 6 = omega arith in
    rw e (cc)

pub returns-in_default : goal.returns-in_default
unfolding letter_of
returns-in_default c =
    let n = c.args.v % 256 in
    rw (ne_eqb n 1 (λ q. omega arith), ne_eqb n 2 (λ q. omega arith), ne_eqb n 3 (λ q. omega arith), ne_eqb n 4 (λ q. omega arith), ne_eqb n 5 (λ q. omega arith), ne_eqb n 6 (λ q. omega arith)) refl
