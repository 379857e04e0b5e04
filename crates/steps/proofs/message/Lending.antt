-- A letter can be opened by a part of what is lent: there is a rest, the one that is not lent.
use mathlib.Core.List.{List}
use Prim.Native.Nat.{ℕ}
use Rattle.rules.specs.declared.message.Message.{Message}
use Rattle.board.specs.Lent.{lent}
use Rattle.board.specs.Rigs.{Opens}
use Rattle.steps.specs.message.Parts.{Some}

module _ {codes users hintprocessors hintmoves heldprocessors heldnumbers notes board : List ℕ} {m : Message}
    (g : Opens codes users (lent hintprocessors hintmoves heldprocessors heldnumbers notes board) m) where
  -- by all but the notes
  pub but_notes : Some (λ notes. Opens codes users (lent hintprocessors hintmoves heldprocessors heldnumbers notes board) m)
  but_notes = record { list = notes; holds = g }

  -- by the notes and the board
  pub by_notes :
      Some (λ hintprocessors. Some (λ hintmoves. Some (λ heldprocessors. Some (λ heldnumbers.
      Opens codes users (lent hintprocessors hintmoves heldprocessors heldnumbers notes board) m))))
  by_notes =
      record { list = hintprocessors; holds = record { list = hintmoves; holds = record { list = heldprocessors; holds = record { list = heldnumbers; holds = g } } } }

  -- by the pointers and the board
  pub by_hints :
      Some (λ heldprocessors. Some (λ heldnumbers. Some (λ notes.
      Opens codes users (lent hintprocessors hintmoves heldprocessors heldnumbers notes board) m)))
  by_hints = record { list = heldprocessors; holds = record { list = heldnumbers; holds = record { list = notes; holds = g } } }

  -- by the board
  pub by_board :
      Some (λ hintprocessors. Some (λ hintmoves. Some (λ heldprocessors. Some (λ heldnumbers. Some (λ notes.
      Opens codes users (lent hintprocessors hintmoves heldprocessors heldnumbers notes board) m)))))
  by_board =
      record {
        list = hintprocessors;
        holds = record { list = hintmoves; holds = record { list = heldprocessors; holds = record { list = heldnumbers; holds = record { list = notes; holds = g } } } };
      }
