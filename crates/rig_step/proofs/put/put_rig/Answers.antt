-- `put_rig`: the board has the parts of a rig.
use mathlib.Core.Path.{◌∙◌}
use Rattle.rig_step.proofs.put.put_rig.Goals as goal

pub returns : goal.returns
returns c =
    let e = c.put_parents.ensures in
    (e.0, e.2 ∙ c.put_channels.ensures.2 ∙ c.put_tasks.ensures.1, e.3 ∙ c.put_channels.ensures.1, e.1)
