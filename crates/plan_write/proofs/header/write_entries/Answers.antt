use mathlib.Core.Path.{◌≡◌, refl, sym, ap, ◌∙◌}
use Prim.Native.Nat.{ℕ, ◌+◌}
use native.Mathlib.Omega.{arith}
use lib.ListN.{length}
use Rattle.base.specs.Range.{joined}
use Rattle.plan_write.specs.output.Output.{overlay}
use Rattle.plan_write.specs.Header.{entry_bytes}
use Rattle.plan_write.proofs.Entries.{total_part, due_none, due_more, entries_none, entries_length, entries_step}
use Rattle.plan_write.proofs.header.write_entries.Goals as goal

pub loop-k-init : goal.loop-k-init
loop-k-init c =
    let a = c.args in
    (refl, sym (due_none a.lengths.now a.n), sym (entries_none a.lengths.now a.n a.out.now))

pub overflow_cast-end : goal.overflow_cast-end
overflow_cast-end c = omega (arith, total_part c.args.lengths.now c.args.n c.loop-k.k c.loop-k-test.true)

pub overflow_mul-end-in-loop-k : goal.overflow_mul-end-in-loop-k
overflow_mul-end-in-loop-k c = omega (arith, total_part c.args.lengths.now c.args.n c.loop-k.k c.loop-k-test.true)

pub overflow_add-end-in-loop-k : goal.overflow_add-end-in-loop-k
overflow_add-end-in-loop-k c = omega (arith, total_part c.args.lengths.now c.args.n c.loop-k.k c.loop-k-test.true)

pub loop-k-preserved : goal.loop-k-preserved
loop-k-preserved c =
    let a = c.args in
    let k = c.loop-k.k in
    let out : _ ≡ overlay a.out.now 4 (joined (k + 1) (entry_bytes a.lengths.now a.n)) =
    entries_step a.lengths.now a.n a.out.now k c.loop-k.end _ c.loop-k.out _ _ (omega (arith, c.requires))
    c.loop-k.invariant.2 c.loop-k.invariant.1 refl c.put_word.ensures c.put_word-in-loop-k.ensures in (
      ap length out ∙ entries_length a.lengths.now a.n a.out.now (k + 1) (omega arith),
      omega (arith, due_more a.lengths.now a.n k),
      out,
    )

pub shape_of-out : goal.shape_of-out
shape_of-out c = c.loop-k.invariant.0

pub returns : goal.returns
returns c =
    let a = c.args in
    let e : c.loop-k.k ≡ a.n = omega arith in
    c.loop-k.invariant.2 ∙ ap (λ (k : ℕ). overlay a.out.now 4 (joined k (entry_bytes a.lengths.now a.n))) e
