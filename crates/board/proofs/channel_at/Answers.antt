-- `channel_at`: channel c's own entry.
use Rattle.board.proofs.channel_at.Goals as goal

pub returns : goal.returns
returns c = rw c.channel_index.ensures.0 at c.channel_entry.ensures
