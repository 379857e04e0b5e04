-- A machine with labels, its runs and its normal forms, and when its labels commute.
use Rattle.std.specs.Prelude.{◌≡◌, Bool, true, false, List, [], ◌∷◌, ◌≢◌}

-- over states S and labels L: when a label may be taken, and what that makes of the state
pub record Machine (S : Type 0) (L : Type 0) : Type 0 where
  pub enabled : S → L → Bool
  pub effect : S → L → S

module _ {S : Type 0} {L : Type 0} (machine : Machine S L) where
  -- a run: the state that it starts from, the labels in the order in which they are taken, and the state that it leads to
  pub data Run : S → List L → S → Type 0 where
    stop : {s : S} → Run s [] s
    take : {s z : S} {ls : List L} (l : L) → machine.enabled s l ≡ true → Run (machine.effect s l) ls z → Run s (l ∷ ls) z

  -- a normal form: no label may be taken
  abbrev pub Normal : S → Type 0
  Normal s = (l : L) → machine.enabled s l ≡ false

  -- of two different labels that may be taken, either may still be taken after the other, and the order does not matter
  pub record Commuting : Type 0 where
    -- labels can be told apart
    pub same : Discrete L
    pub stays : (s : S) (k l : L) → k ≢ l → machine.enabled s k ≡ true → machine.enabled s l ≡ true
        → machine.enabled (machine.effect s k) l ≡ true
    pub commute : (s : S) (k l : L) → k ≢ l → machine.enabled s k ≡ true → machine.enabled s l ≡ true
        → machine.effect (machine.effect s k) l ≡ machine.effect (machine.effect s l) k
