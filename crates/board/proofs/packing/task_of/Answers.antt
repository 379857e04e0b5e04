-- `task_of`: a task, read from its three numbers.
use Rattle.board.specs.packing.Packed.{task_of}
use Rattle.board.proofs.packing.task_of.Goals as goal

pub returns : goal.returns
unfolding task_of
returns c = cc
