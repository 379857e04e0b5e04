-- `sizes::sizes_ok` is the test of T and the first T counts.
use mathlib.Core.Path.{◌≡◌, sym, ◌∙◌, ap}
use mathlib.Core.Bool.{Bool, true, ◌&&◌}
use native.Mathlib.Omega.{arith}
use Rattle.base.specs.Range.{below}
use Rattle.base.proofs.Tests.{within_high}
use Rattle.plan.specs.Refusals.{size_ok}
use Rattle.plan_value.specs.Sizes.{count_fits}
use Rattle.plan_value.proofs.Changes.{list_all_below}
use Rattle.plan_value.proofs.sizes.sizes_ok.Goals as goal

pub returns-then-is_size : goal.returns-then-is_size
returns-then-is_size c =
    let n = c.args.tasks in
    let l = c.args.lengths.now in
    let fits : size_ok n ≡ true = sym c.is_size.ensures ∙ c.if-is_size.true in
    let few = within_high 1 64 n fits in
    c.are_sizes.ensures ∙ list_all_below size_ok l n (omega arith) ∙ sym (ap (λ (b : Bool). b && below n (count_fits l)) fits)
