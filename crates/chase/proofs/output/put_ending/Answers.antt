-- `put_ending` puts the last eight steps.
use Rattle.chase.proofs.Writing.{ending_put}
use Rattle.chase.proofs.output.put_ending.Goals as goal

pub returns : goal.returns
returns c = ending_put c.args.out.now _ c.args.at _ _ _ c.deliver-next.ensures c.run-receiver.ensures c.run-sender.ensures c.put_all.ensures
