use mathlib.Core.Path.{sym, ◌∙◌}
use native.Mathlib.Omega.{arith}
use Rattle.rules.specs.Networks.{message_at}
use Rattle.image_laws.proofs.Mails.{letter_in_lem}
use Rattle.rig_read.proofs.parts.letter_in.Goals as goal

pub returns : goal.returns
unfolding message_at
returns c =
    c.letter_of.ensures
    ∙ rw (c.number8-2.ensures, c.number8.ensures) (sym (letter_in_lem c.args.rig.now _ (omega (arith, c.requires))))
