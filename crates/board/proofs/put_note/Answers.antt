-- `put_note`: the noted advert of desk d for channel c becomes n.
use mathlib.Core.Path.{refl}
use Rattle.board.proofs.put_note.Goals as goal

pub returns : goal.returns
returns c = rw c.entry_index-i.ensures.0 refl
