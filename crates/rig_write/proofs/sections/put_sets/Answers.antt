use mathlib.Core.Path.{◌≡◌, refl, ap, ◌∙◌}
use Prim.Native.Nat.{ℕ, ◌+◌, ◌*◌}
use native.Mathlib.Omega.{arith}
use Rattle.base.specs.Lists.{table}
use Rattle.plan_write.specs.output.Output.{overlay}
use Rattle.image.specs.Numbers.{numbers_bytes}
use Rattle.board.specs.Lent.{set_on}
use Rattle.rig_write.proofs.Puts.{table_none, table_step, table_length}
use borrow.Author.Rules.{rules}
use Rattle.rig_write.proofs.sections.put_sets.Goals as goal

pub loop-k-init : goal.loop-k-init
loop-k-init c = let a = c.args in (search rules, refl, table_none 8 a.rig.now 25368 (set_on a.board.now))

pub loop-k-preserved : goal.loop-k-preserved
loop-k-preserved c =
    let a = c.args in
    let now = table_step 8 a.rig.now 25368 (set_on a.board.now) c.loop-k.rig _ c.loop-k.k (25368 + 8 * c.loop-k.k) _ (omega arith) c.loop-k.invariant.2 refl c.put8.ensures refl in
    (omega arith, table_length 8 a.rig.now 25368 (set_on a.board.now) (c.loop-k.k + 1) _ (omega arith) now, now)

pub returns : goal.returns
returns c =
    let a = c.args in
    let e : c.loop-k.k ≡ 6 = omega arith in
    c.loop-k.invariant.2 ∙ ap (λ (k : ℕ). overlay a.rig.now 25368 (numbers_bytes 8 (table k (set_on a.board.now)))) e
