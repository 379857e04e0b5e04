-- Which letter a step delivers, and the mail without it.
use Rattle.std.specs.Prelude.{ℕ, eqb}
use Rattle.base.specs.Choice.{pick, within}
use Rattle.rules.specs.declared.message.Network.{Network}
use Rattle.rules.specs.declared.step.Step.{Step}
use Rattle.rules.specs.Networks.{dequeued}
use Rattle.rules.specs.Steps.{is_deliver}

-- the position of the letter that a step delivers, of so many letters; 0 if it delivers none
unfoldable pub position_of : ℕ → Step → ℕ
position_of used s = pick (is_deliver s) (pick (eqb s.task 0) (pick (within 1 used s.number) s.number 0) 0) 0

-- the mail without the letter at position p, from 1; all of it, where p is 0
abbrev pub mail_less : Network → ℕ → Network
mail_less k p = pick (eqb p 0) k (dequeued k p)
