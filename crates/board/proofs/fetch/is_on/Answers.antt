-- `is_on`.
use Rattle.board.proofs.fetch.is_on.Goals as goal

pub returns : goal.returns
returns c = simp (c.of-last.ensures, c.last_code.ensures)
