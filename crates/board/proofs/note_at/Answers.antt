-- `note_at`: the noted advert of desk d for channel c.
use mathlib.Core.Path.{refl}
use Rattle.board.proofs.note_at.Goals as goal

pub returns : goal.returns
returns c = rw c.entry_index-i.ensures.0 refl
