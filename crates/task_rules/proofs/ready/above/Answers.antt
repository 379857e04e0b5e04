-- `above` clears the lowest bits by a mask.
use mathlib.Core.Path.{◌≡◌, refl}
use Prim.Native.Nat.{◌/◌, ◌<◌, ◌≤◌}
use native.Mathlib.Nat.{div-eq_of_lt}
use native.Mathlib.Omega.{arith}
use borrow.Author.Rules.{rules}
use Rattle.std.proofs.lemmas.Nat.Bits.{ones_shl, and_high_mask}
use Rattle.task_rules.proofs.ready.above.Goals as goal

-- no number of 64 bits reaches above 64
pub returns-then-last-eq64 : goal.returns-then-last-eq64
returns-then-last-eq64 c =
    let s = c.args.s in
    let e : c.args.last ≡ 64 = omega arith in
    let l : s < 18446744073709551616 = search rules in
    let q : s / 18446744073709551616 ≡ 0 = div-eq_of_lt l in
    rw (e, q) refl

pub returns : goal.returns
returns c =
    let t = c.args.last in
    let few : t ≤ 64 = omega arith in
    rw (ones_shl 64 t few) (and_high_mask 64 t few c.args.s (search rules))
