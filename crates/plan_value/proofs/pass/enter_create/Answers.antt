-- `pass::enter_create` is the test of one create more, and the table with it.
use mathlib.Core.Path.{ap}
use lib.ListN.{set}
use Rattle.plan_value.proofs.pass.enter_create.Goals as goal

pub returns : goal.returns
returns c =
    let a = c.args in
    record { answer = c.create_fits-fits.ensures; table = ap (set a.parents.now a.a) c.kept.ensures }
