use mathlib.Core.Path.{◌≡◌, refl, ap, ◌∙◌}
use Prim.Native.Nat.{ℕ, ◌+◌, ◌*◌}
use native.Mathlib.Omega.{arith}
use Rattle.base.specs.Lists.{table}
use Rattle.plan_write.specs.output.Output.{overlay}
use Rattle.image.specs.Numbers.{numbers_bytes}
use Rattle.rig_write.specs.Sections.{word_at}
use Rattle.rig_write.proofs.Puts.{table_none, table_step, table_length}
use borrow.Author.Rules.{rules}
use Rattle.rig_write.proofs.sections.put_words.Goals as goal

pub loop-k-init : goal.loop-k-init
loop-k-init c = let a = c.args in (search rules, refl, table_none 8 a.rig.now 18712 (word_at a.board.now))

pub loop-k-preserved : goal.loop-k-preserved
loop-k-preserved c =
    let a = c.args in
    let now = table_step 8 a.rig.now 18712 (word_at a.board.now) c.loop-k.rig _ c.loop-k.k (18712 + 8 * c.loop-k.k) _ (omega arith) c.loop-k.invariant.2 refl c.put8.ensures c.tidy_word.ensures in
    (omega arith, table_length 8 a.rig.now 18712 (word_at a.board.now) (c.loop-k.k + 1) _ (omega arith) now, now)

pub returns : goal.returns
returns c =
    let a = c.args in
    let e : c.loop-k.k ≡ 64 = omega arith in
    c.loop-k.invariant.2 ∙ ap (λ (k : ℕ). overlay a.rig.now 18712 (numbers_bytes 8 (table k (word_at a.board.now)))) e
