-- `hint_at`: the pointer of desk d for channel c.
use Rattle.board.proofs.hint_at.Goals as goal

pub returns : goal.returns
returns c = rw c.entry_index.ensures.0 at c.hint_entry.ensures
