-- `letter_at`: a letter, or none.
use native.Mathlib.Omega.{arith}
use Rattle.live_rig.proofs.letter.letter_at.Goals as goal

pub returns-then-p-eq0 : goal.returns-then-p-eq0
returns-then-p-eq0 c ne = absurd (ne c.if-p-eq0.true)

pub letter_in-requires : goal.letter_in-requires
letter_in-requires c =
    let s = c.before.before in
    (s.requires.0, omega (arith, c.if-p-eq0.false), s.requires.1)

pub returns : goal.returns
returns c ne = c.letter_in.ensures
