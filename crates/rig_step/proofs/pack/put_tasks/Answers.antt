-- `put_tasks`: the board's tasks become these.
use mathlib.Core.Path.{refl, ◌∙◌}
use Rattle.board.specs.Lent.{tasks_on}
use Rattle.rig_step.proofs.pack.put_tasks.Goals as goal

pub put_sets-requires : goal.put_sets-requires
put_sets-requires c = c.put_records.ensures.0

pub returns : goal.returns
unfolding tasks_on
returns c =
    let s = c.put_sets.ensures in
    let r = c.put_records.ensures in
    (s.0, rw (s.1, s.2, r.1) refl, s.3 ∙ r.2)
