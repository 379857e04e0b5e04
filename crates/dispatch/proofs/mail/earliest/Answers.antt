use mathlib.Core.Path.{◌≡◌, sym, ◌∙◌}
use mathlib.Core.Logic.{by_cases}
use Prim.Native.Nat.{ℕ}
use native.Mathlib.Omega.{arith}
use native.Mathlib.Decide.{ℕ_discrete}
use native.Mathlib.Numerals.{add-one}
use lib.ListN.{length}
use Rattle.dispatch.proofs.Letters.{none_earliest, first_earliest}
use Rattle.dispatch.proofs.mail.earliest.Goals as goal

pub loop-k-init : goal.loop-k-init
loop-k-init c i l = absurd (omega arith)

pub returns-then-is_for : goal.returns-then-is_for
returns-then-is_for c =
    let a = c.args in
    let long : length a.n.slots ≡ 256 = c.well_formed.0.1.1.0.1.0.1 in
    add-one c.loop-k.k
    ∙ sym (first_earliest a.d a.n long c.requires c.loop-k.k (omega arith) c.loop-k.invariant (sym c.is_for.ensures ∙ c.if-is_for.true))

pub loop-k-preserved : goal.loop-k-preserved
loop-k-preserved c i b =
    by_cases (ℕ_discrete i c.loop-k.k)
    (λ (e : i ≡ c.loop-k.k). rw e (sym c.is_for.ensures ∙ c.if-is_for.false))
    (λ ne. c.loop-k.invariant i (omega arith))

pub returns : goal.returns
returns c =
    let a = c.args in
    let long : length a.n.slots ≡ 256 = c.well_formed.0.1.1.0.1.0.1 in
    let e : c.loop-k.k ≡ a.n.used = omega arith in
    sym (none_earliest a.d a.n long c.requires (λ i b. c.loop-k.invariant i (omega arith)))
