-- `load`: the stages together are the paper's reading of a file.
use Rattle.plan_file.proofs.Fronts.{behind_fits, read_as}
use Rattle.plan_file.proofs.load.Goals as goal

pub loaded-requires : goal.loaded-requires
loaded-requires c = behind_fits c.args.file c.new-start.ensures c.header-header.ensures c.advanced-behind.ensures

pub returns : goal.returns
returns c = rw (read_as c.args.file c.new-start.ensures c.header-header.ensures c.advanced-behind.ensures) at c.loaded.ensures
