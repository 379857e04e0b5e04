-- `tidy_word`: a number of 64 bits is that of its word.
use native.Mathlib.Omega.{arith}
use mathlib.Core.Path.{sym}
use Rattle.image_laws.proofs.Letters.{number_again}
use Rattle.rig_write.specs.Sections.{word_tidy}
use Rattle.rig_write.proofs.sections.tidy_word.Goals as goal

pub returns : goal.returns
unfolding word_tidy
returns c = sym (number_again c.args.v (omega arith))
