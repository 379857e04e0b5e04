-- `no_task` stands for a task where there is none.
use Rattle.board.proofs.fetch.no_task.Goals as goal

pub returns : goal.returns
returns c = simp c.unknown.ensures
