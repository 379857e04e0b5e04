-- `all_allowed` makes the pass by the new edition.
use mathlib.Core.Path.{◌∙◌}
use Rattle.plan_value.proofs.Meaning.{new_instructions_are}
use Rattle.convert.proofs.all_allowed.Goals as goal

pub returns : goal.returns
returns c =
    let pass = rw c.with_repeats.ensures at c.walk-p.ensures in
    pass.instructions ∙ new_instructions_are _
