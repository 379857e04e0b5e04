-- `received_fits` tests whether a line of two numbers, a channel and a word fits.
use mathlib.Core.Path.{◌≡◌, refl, sym, ◌∙◌}
use mathlib.Core.List.{◌∷◌, ◌++◌}
use Prim.Native.Nat.{◌+◌}
use native.Mathlib.Omega.{arith}
use lib.ListN.{length}
use borrow.Author.Tests.{le-leb}
use Rattle.plan.specs.Words.{word_numbers}
use Rattle.rules.specs.Trace.{decimal, fields}
use Rattle.trace.proofs.Decimals.{five_digits}
use Rattle.trace.proofs.Putting.{word_length, levels_short}
use Rattle.trace.proofs.direct.received_fits.Goals as goal

pub returns-then-left-ge42 : goal.returns-then-left-ge42
returns-then-left-ge42 c =
    let a = c.args in
    let p = c.requires in
    let long = word_length a.k a.a a.c a.w in
    let k = five_digits a.k p.0 in
    let n = five_digits a.a p.1 in
    let h = five_digits a.c p.2 in
    let g = c.well_formed in
    let w = levels_short a.w (omega (arith, g)) (omega (arith, g)) (omega (arith, g)) (omega (arith, g)) in
    le-leb 42 a.left (omega arith)
    ∙ sym (le-leb (length (decimal a.k ++ fields (a.a ∷ a.c ∷ word_numbers a.w))) a.left (omega arith))

pub returns-else-left-ge42 : goal.returns-else-left-ge42
returns-else-left-ge42 c =
    let a = c.args in
    let long : c.digits.result + c.digits-else-left-ge42.result + c.digits-else-left-ge42-2.result + c.levels_length.result + 3 ≡ length (decimal a.k ++ fields (a.a ∷ a.c ∷ word_numbers a.w)) = omega (arith, word_length a.k a.a a.c a.w) in
    rw long refl
