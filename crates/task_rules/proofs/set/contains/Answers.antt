-- `contains` is the test `member`.
use Rattle.base.specs.Sets.{member}
use Rattle.task_rules.proofs.set.contains.Goals as goal

pub returns : goal.returns
unfolding member
returns c = search
