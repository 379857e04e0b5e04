-- Runs one after another, and what each label of a run keeps.
use mathlib.Core.Path.{◌≡◌, refl}
use mathlib.Core.Bool.{true}
use mathlib.Core.List.{List, [], ◌++◌}
use Rattle.base.proofs.Tests.{tests_differ}
use Rattle.net.specs.Machines.{Machine, Run, stop, take, Normal}

module _ {S : Type 0} {L : Type 0} (machine : Machine S L) where
  pub run_append : {s u z : S} {ks ls : List L} → Run machine s ks u → Run machine u ls z → Run machine s (ks ++ ls) z
  run_append stop q = q
  run_append (take k h p) q = take k h (run_append p q)

  -- what holds of a state and is kept by each label that may be taken
  pub run_keeps : (P : S → Type 0) → ((s : S) (l : L) → machine.enabled s l ≡ true → P s → P (machine.effect s l))
      → {s z : S} {ls : List L} → Run machine s ls z → P s → P z
  run_keeps P keeps stop p = p
  run_keeps P keeps (take {s = s} l h r) p = run_keeps P keeps r (keeps s l h p)

  -- a normal form goes nowhere
  pub normal_stops : {s z : S} {ls : List L} → Run machine s ls z → Normal machine s → (s ≡ z) × (ls ≡ [])
  normal_stops stop n = (refl, refl)
  normal_stops (take {s = s} l h r) n = absurd (tests_differ h (n l))
