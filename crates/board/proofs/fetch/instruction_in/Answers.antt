-- `instruction_in`.
use Rattle.board.proofs.fetch.instruction_in.Goals as goal

pub returns : goal.returns
returns c = simp c.of.ensures
