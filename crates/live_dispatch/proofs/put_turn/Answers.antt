-- `put_turn`.
use Rattle.live_dispatch.proofs.Dispatches.{skip_put, made_put}
use Rattle.live_dispatch.proofs.put_turn.Goals as goal

pub returns-in-None : goal.returns-in-None
returns-in-None c = skip_put c.args.steps.now c.args.records.now c.args.count c.args.t c.in-None.is

pub returns-in-Some : goal.returns-in-Some
returns-in-Some c = made_put c.args.steps.now c.args.records.now c.args.count c.args.t _ _ c.in-Some.is c.put_step.ensures c.put_report.ensures
