-- `counts_on`: the counts of runs, of deliveries and of moves, one after the other.
use mathlib.Core.Path.{ap, ◌∙◌}
use mathlib.Core.List.{[], ◌++◌, append_assoc}
use Rattle.rules.specs.Panel.{panel_steps}
use Rattle.rig_parts.proofs.BoundsParts.{count_few, processors_few}
use Rattle.panel_laws.specs.Tallies.{tallied, runs, deliveries, moves}
use Rattle.panel_laws.proofs.Tallies.{tallied_none}
use Rattle.panel.proofs.Counting.{few_none}
use Rattle.panel.proofs.Answers.{runs_as, delivers_as, moves_as}
use Rattle.panel.proofs.counts.counts_on.Goals as goal

pub count_runs-ran-requires : goal.count_runs-ran-requires
count_runs-ran-requires c = let g = c.requires in (g, count_few g.parts, rw c.none.ensures few_none)

pub count_deliveries-delivered-requires : goal.count_deliveries-delivered-requires
count_deliveries-delivered-requires c = c.count_runs-ran.ensures.0

pub count_moves-moved-requires : goal.count_moves-moved-requires
count_moves-moved-requires c = let g = c.requires in (count_few g.parts, processors_few g.parts, c.count_deliveries-delivered.ensures.0)

pub returns : goal.returns
unfolding panel_steps
returns c r g =
    let n = c.args.n in
    let m = n.tasks in
    let ran = c.count_runs-ran.ensures.1 r (runs_as g) [] (c.none.ensures ∙ tallied_none r) in
    let delivered = c.count_deliveries-delivered.ensures.1 r (delivers_as g) (runs m) ran in
    c.put_out.ensures
    ∙ c.count_moves-moved.ensures r (moves_as g) (runs m ++ deliveries 256) delivered
    ∙ ap (tallied r) (append_assoc (runs m) (deliveries 256) (moves m n.processors))
