-- `instruction::is_channel_allowed`: both tests.
use mathlib.Core.Path.{◌∙◌, ap}
use mathlib.Core.Bool.{Bool, ◌&&◌}
use lib.Dec.{leb}
use Rattle.plan_value.proofs.instruction.is_channel_allowed.Goals as goal

pub returns : goal.returns
returns c =
    let a = c.args in
    c.both.ensures ∙ ap (λ (b : Bool). leb a.k a.e.kinds && b) c.before.is_within.ensures
