-- `driver_bytes`.
use mathlib.Core.Path.{refl}
use Rattle.image.specs.Numbers.{number_bytes}
use Rattle.live.proofs.rig_views.driver_bytes.Goals as goal

pub returns : goal.returns
unfolding number_bytes
returns c = rw c.state_byte.ensures refl
