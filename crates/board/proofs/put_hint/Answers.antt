-- `put_hint`: the pointer of desk d for channel c becomes h.
use Rattle.board.proofs.put_hint.Goals as goal

pub returns : goal.returns
returns c = rw c.entry_index.ensures.0 at c.put_hint_entry.ensures
