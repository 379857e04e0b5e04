-- `all_nine`: the whole total stands under 9.
use mathlib.Core.Path.{refl}
use native.Mathlib.Nat.{mul-le-mul_right}
use native.Mathlib.Omega.{arith}
use Rattle.base.specs.Lists.{table, table_before}
use Rattle.panel_laws.proofs.Tallies.{length_panel}
use Rattle.panel.proofs.all_nine.Goals as goal

pub overflow_mul-q : goal.overflow_mul-q
overflow_mul-q c = omega (arith, mul-le-mul_right c.args.n c.requires.0)

pub overflow_add-q-2 : goal.overflow_add-q-2
overflow_add-q-2 c = omega (arith, mul-le-mul_right c.args.n c.requires.0)

pub returns : goal.returns
unfolding table table_before
returns c = rw (length_panel c.args.m c.args.n) refl
