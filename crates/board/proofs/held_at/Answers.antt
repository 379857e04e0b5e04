-- `held_at`: the held offer of desk d for channel c.
use Rattle.board.proofs.held_at.Goals as goal

pub returns : goal.returns
returns c = rw c.entry_index.ensures.0 at c.held_entry.ensures
