-- `mortarsedge_finish`.
use mathlib.Core.Path.{◌∙◌, ap}
use Rattle.driver.specs.Runs.{packed}
use Rattle.planner.proofs.Finished.{filled_few, finish_meets}
use Prim.Native.Nat.{ℕ}
use native.Mathlib.Omega.{arith}
use Rattle.planner.proofs.finish_check.mortarsedge_finish.Goals as goal

pub packed-requires : goal.packed-requires
packed-requires c = (omega (arith, c.run_number.ensures.1), omega (arith, filled_few _ _ c.finish_file-o.ensures))

pub returns : goal.returns
returns c =
    finish_meets _ _ c.finish_file-o.ensures (c.packed.ensures ∙ ap (λ (k : ℕ). packed k c.finish_file-o.result.filled) c.run_number.ensures.0)
