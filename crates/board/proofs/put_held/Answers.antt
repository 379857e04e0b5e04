-- `put_held`: the held offer of desk d for channel c becomes o.
use Rattle.board.proofs.put_held.Goals as goal

pub returns : goal.returns
returns c = rw c.entry_index.ensures.0 at c.put_held_entry.ensures
