use mathlib.Core.Path.{refl}
use Rattle.rig_read.proofs.parts.read_parts.Goals as goal

pub returns : goal.returns
returns c =
    rw (c.read_bytes-4.ensures, c.read_bytes-3.ensures, c.read_bytes-2.ensures, c.read_counts.ensures, c.read_bytes.ensures, c.read_board.ensures) refl
