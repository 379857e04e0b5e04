use mathlib.Core.Path.{ap, ◌∙◌}
use Rattle.plan_write.specs.output.Output.{overlay}
use Rattle.rig_write.proofs.Puts.{le8}
use Rattle.rig_write.proofs.numbers.put8.Goals as goal

pub returns : goal.returns
returns c =
    let a = c.args in c.put_bytes.ensures ∙ ap (overlay a.b.now a.at) (c.to_le_bytes.ensures ∙ le8 a.v)
