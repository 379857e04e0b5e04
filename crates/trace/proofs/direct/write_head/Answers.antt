-- `write_head` writes a line of two numbers at the front, if it fits.
use mathlib.Core.Path.{◌≡◌, refl, sym, ◌∙◌}
use mathlib.Core.List.{[], ◌∷◌, ◌++◌}
use Prim.Native.Nat.{ℕ, ◌+◌, ◌≤◌}
use mathlib.Core.Bool.{Bool, false, not}
use Rattle.std.specs.Prelude.{leb}
use native.Mathlib.Omega.{arith}
use lib.ListN.{length}
use borrow.Author.Tests.{not-true, not-false, leb-true, leb-false}
use Rattle.rules.specs.Trace.{decimal, fields}
use Rattle.trace.proofs.Emitting.{fits_not}
use Rattle.trace.proofs.Putting.{put_length, line_end, head_length, two_text, two_length}
use borrow.Author.Rules.{rules}
use Rattle.trace.proofs.direct.write_head.Goals as goal

pub returns-then-not-head_fits : goal.returns-then-not-head_fits
returns-then-not-head_fits c =
    let a = c.args in
    let short = sym c.head_fits.ensures ∙ not-true c.head_fits.result c.if-not-head_fits.true-raw in
    fits_not (omega (arith, leb-false (length (decimal a.k ++ fields (a.a ∷ []))) (length a.rest.now) short)) refl refl

-- the line fits
module _ (l k a : ℕ) {r : Bool} (e : r ≡ leb (length (decimal k ++ fields (a ∷ []))) l) (t : not r ≡ false) where
  room : length (decimal k) + length (decimal a) + 2 ≤ l
  room = omega (arith, leb-true (length (decimal k ++ fields (a ∷ []))) l (sym e ∙ not-false r t), two_length k a)

pub put_head-end-requires : goal.put_head-end-requires
put_head-end-requires c =
    let a = c.args in
    let r = room (length a.rest.now) a.k a.a c.head_fits.ensures c.if-not-head_fits.false-raw in
    (search rules, search rules, omega (arith, r, head_length a.k a.a))

pub bounds-rest-end : goal.bounds-rest-end
bounds-rest-end c =
    let a = c.args in
    let r = room (length a.rest.now) a.k a.a c.head_fits.ensures c.if-not-head_fits.false-raw in
    omega (arith, r, c.put_head-end.ensures.end, head_length a.k a.a, put_length c.put_head-end.ensures.put)

pub returns : goal.returns
returns c =
    let a = c.args in
    let r = room (length a.rest.now) a.k a.a c.head_fits.ensures c.if-not-head_fits.false-raw in
    let w = c.put_head-end.ensures in
    line_end w _ _ (two_text a.k a.a) (omega (arith, r, w.end, head_length a.k a.a)) (omega (arith, w.end, head_length a.k a.a, two_length a.k a.a))
