-- What is lent has room for the parts of a rig.
use Rattle.std.specs.Prelude.{◌≡◌, length}
use Rattle.board.specs.Lent.{Lent, Whole}

pub record Room (l : Lent) : Type 0 where
  pub hintprocessors : length l.hintprocessors ≡ 768
  pub hintmoves : length l.hintmoves ≡ 768
  pub heldprocessors : length l.heldprocessors ≡ 768
  pub heldnumbers : length l.heldnumbers ≡ 768
  pub notes : length l.notes ≡ 768
  pub board : Whole l.board
