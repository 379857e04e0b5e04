use mathlib.Core.Path.{◌≡◌, refl, ap, ◌∙◌}
use Prim.Native.Nat.{ℕ, ◌+◌, ◌*◌}
use native.Mathlib.Omega.{arith}
use Rattle.base.specs.Range.{joined}
use Rattle.plan_write.specs.output.Output.{overlay}
use Rattle.image.specs.Numbers.{numbers_bytes}
use Rattle.rig_write.specs.Sections.{parent_at}
use Rattle.rig_write.proofs.Puts.{pairs_none, pairs_step, pairs_length}
use borrow.Author.Rules.{rules}
use Rattle.rig_write.proofs.sections.put_parents.Goals as goal

pub loop-k-init : goal.loop-k-init
loop-k-init c = let a = c.args in (search rules, refl, pairs_none 8 a.rig.now 19224 (parent_at a.board.now))

pub loop-k-preserved : goal.loop-k-preserved
loop-k-preserved c =
    let a = c.args in
    let f = parent_at a.board.now in
    let now =
    pairs_step 8 a.rig.now 19224 f c.loop-k.rig _ _ c.loop-k.k (19224 + 16 * c.loop-k.k) (19232 + 16 * c.loop-k.k) _ _ (λ i. refl) (omega arith) c.loop-k.invariant.2
    (omega arith) c.put8.ensures (omega arith) c.put8-in-loop-k.ensures (rw c.tidy_hint.ensures refl) in
    (omega arith, pairs_length 8 a.rig.now 19224 f (c.loop-k.k + 1) _ (λ i. refl) (omega arith) now, now)

pub returns : goal.returns
returns c =
    let a = c.args in
    let e : c.loop-k.k ≡ 384 = omega arith in
    c.loop-k.invariant.2 ∙ ap (λ (k : ℕ). overlay a.rig.now 19224 (numbers_bytes 8 (joined k (parent_at a.board.now)))) e
