use mathlib.Core.Path.{◌≡◌, sym, ◌∙◌}
use mathlib.Core.Bool.{false}
use mathlib.Core.Logic.{by_cases}
use Prim.Native.Nat.{◌+◌, ◌*◌}
use native.Mathlib.Omega.{arith}
use native.Mathlib.Decide.{ℕ_discrete}
use native.Mathlib.Numerals.{add-one}
use lib.ListN.{get_or}
use borrow.Author.Tests.{eq-eqb, ne_eqb}
use Rattle.live_rig.proofs.Addressed.{none_in, earliest_at}
use Rattle.live_rig.proofs.mail.earliest_in.Goals as goal

pub loop-k-init : goal.loop-k-init
loop-k-init c = (omega arith, λ i l. absurd (omega arith))

pub overflow_mul-to : goal.overflow_mul-to
overflow_mul-to c = omega arith

pub overflow_add-to : goal.overflow_add-to
overflow_add-to c = omega arith

pub bounds-rig-k : goal.bounds-rig-k
bounds-rig-k c = omega arith

pub overflow_add-result : goal.overflow_add-result
overflow_add-result c = omega arith

pub overflow_cast-result : goal.overflow_cast-result
overflow_cast-result c = omega arith

pub returns-then-to-desk : goal.returns-then-to-desk
returns-then-to-desk c =
    let l = c.before.before.before in
    let a = l.args in
    let p = l.requires in
    add-one l.loop-k.k
    ∙ sym (earliest_at a.rig.now p.1 (omega (arith, p.2, p.3)) a.d l.loop-k.k (omega (arith, p.2)) l.loop-k.invariant.1 (eq-eqb (get_or a.rig.now (30026 + 16 * l.loop-k.k) 0) a.d.0 c.if-to-desk.true))

pub overflow_add-k : goal.overflow_add-k
overflow_add-k c = omega arith

pub loop-k-smaller : goal.loop-k-smaller
loop-k-smaller c = omega arith

pub loop-k-preserved : goal.loop-k-preserved
loop-k-preserved c =
    let l = c.before.before.before in
    let a = l.args in (
      omega arith,
      λ i b.
          by_cases (ℕ_discrete i l.loop-k.k)
          (λ (e : i ≡ l.loop-k.k). rw e (ne_eqb (get_or a.rig.now (30026 + 16 * l.loop-k.k) 0) a.d.0 c.if-to-desk.false))
          (λ ne. l.loop-k.invariant.1 i (omega arith)),
    )

pub returns : goal.returns
returns c =
    let l = c.before in
    let a = l.args in
    let p = l.requires in
    sym (none_in a.rig.now p.1 (omega (arith, p.2, p.3)) a.d (λ i b. l.loop-k.invariant.1 i (omega (arith, p.2))))
