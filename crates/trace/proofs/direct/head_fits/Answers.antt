-- `head_fits` tests whether a line of two numbers fits.
use mathlib.Core.Path.{◌≡◌, refl, sym, ◌∙◌}
use mathlib.Core.List.{[], ◌∷◌, ◌++◌}
use Prim.Native.Nat.{◌+◌}
use native.Mathlib.Omega.{arith}
use lib.ListN.{length}
use borrow.Author.Tests.{le-leb}
use Rattle.rules.specs.Trace.{decimal, fields}
use Rattle.trace.proofs.Decimals.{five_digits}
use Rattle.trace.proofs.Putting.{two_length}
use Rattle.trace.proofs.direct.head_fits.Goals as goal

pub returns-then-left-ge42 : goal.returns-then-left-ge42
returns-then-left-ge42 c =
    let a = c.args in
    le-leb 42 a.left (omega arith)
    ∙ sym (le-leb (length (decimal a.k ++ fields (a.a ∷ []))) a.left (omega (arith, two_length a.k a.a, five_digits a.k c.requires.0, five_digits a.a c.requires.1)))

pub returns-else-left-ge42 : goal.returns-else-left-ge42
returns-else-left-ge42 c =
    let a = c.args in
    let long : c.digits.result + c.digits-else-left-ge42.result + 2 ≡ length (decimal a.k ++ fields (a.a ∷ [])) = omega (arith, two_length a.k a.a) in
    rw long refl
