-- What is kept for channels becomes what f makes of it, by changes in some of what is lent, whatever the rest is: hp and hm are the pointers, op and
-- on the held offers.
use Rattle.std.specs.Prelude.{List, ℕ}
use Rattle.board.specs.Lent.{Whole, lent}
use Rattle.board.specs.Acted.{StoredBy}
use Rattle.rules.specs.declared.system.Store.{Store}

-- in the pointers
abbrev pub HintsBy : (Store → Store) → List ℕ → List ℕ → List ℕ → List ℕ → Type 0
HintsBy f hp hm hp' hm' = (heldprocessors heldnumbers notes board : List ℕ) → Whole board → StoredBy f (lent hp hm heldprocessors heldnumbers notes board) (lent hp' hm' heldprocessors heldnumbers notes board)

-- in the pointers and the board
abbrev pub PointersBy : (Store → Store) → List ℕ → List ℕ → List ℕ → List ℕ → List ℕ → List ℕ → Type 0
PointersBy f hp hm board hp' hm' board' = (heldprocessors heldnumbers notes : List ℕ) → StoredBy f (lent hp hm heldprocessors heldnumbers notes board) (lent hp' hm' heldprocessors heldnumbers notes board')

-- in the pointers, the held offers and the board
abbrev pub OffersBy : (Store → Store) → List ℕ → List ℕ → List ℕ → List ℕ → List ℕ → List ℕ → List ℕ → List ℕ → List ℕ → List ℕ → Type 0
OffersBy f hp hm op on board hp' hm' op' on' board' = (notes : List ℕ) → StoredBy f (lent hp hm op on notes board) (lent hp' hm' op' on' notes board')
