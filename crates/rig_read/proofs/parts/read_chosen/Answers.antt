use mathlib.Core.Path.{refl, ◌∙◌}
use native.Mathlib.Omega.{arith}
use Rattle.image.specs.Image.{chosen_in}
use Rattle.rig_read.proofs.Places.{bytes_in}
use Rattle.rig_read.proofs.parts.read_chosen.Goals as goal

pub returns : goal.returns
unfolding chosen_in
returns c = c.copy_from_slice.ensures.after ∙ bytes_in c.args.rig.now 14 6 _ refl (omega (arith, c.requires))
