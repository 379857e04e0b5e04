-- `put_channel`: channel c's own entry becomes y.
use Rattle.board.proofs.put_channel.Goals as goal

pub returns : goal.returns
returns c = rw c.channel_index.ensures.0 at c.put_channel_entry.ensures
