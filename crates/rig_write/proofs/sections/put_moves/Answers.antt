use mathlib.Core.Path.{◌≡◌, refl, ap, ◌∙◌}
use mathlib.Core.List.{List}
use Prim.Native.Nat.{ℕ, ◌+◌, ◌*◌}
use native.Mathlib.Omega.{arith}
use lib.ListN.{length, get_or}
use Rattle.base.specs.Lists.{table}
use Rattle.base.proofs.Tables.{as_table}
use Rattle.plan_write.specs.output.Output.{overlay}
use Rattle.image.specs.Numbers.{numbers_bytes}
use Rattle.rig_write.proofs.Puts.{table_none, table_step, table_length}
use borrow.Author.Rules.{rules}
use Rattle.rig_write.proofs.sections.put_moves.Goals as goal

pub loop-k-init : goal.loop-k-init
loop-k-init c = let a = c.args in (search rules, refl, table_none 2 a.rig.now a.at (λ j. get_or a.moves.now j 0))

pub loop-k-preserved : goal.loop-k-preserved
loop-k-preserved c =
    let a = c.args in
    let f : ℕ → ℕ = λ j. get_or a.moves.now j 0 in
    let now = table_step 2 a.rig.now a.at f c.loop-k.rig _ c.loop-k.k (a.at + 2 * c.loop-k.k) _ (omega arith) c.loop-k.invariant.2 refl c.put2.ensures refl in
    (omega arith, table_length 2 a.rig.now a.at f (c.loop-k.k + 1) _ (omega arith) now, now)

pub returns : goal.returns
returns c =
    let a = c.args in
    let e : c.loop-k.k ≡ length a.moves.now = omega arith in
    c.loop-k.invariant.2
    ∙ ap (λ (k : ℕ). overlay a.rig.now a.at (numbers_bytes 2 (table k (λ j. get_or a.moves.now j 0)))) e
    ∙ ap (λ (m : List ℕ). overlay a.rig.now a.at (numbers_bytes 2 m)) (as_table a.moves.now 0)
