-- A machine whose every label leaves less to do, and of which it is known in each state whether a label may be taken, comes to a normal form.
use mathlib.Core.Path.{◌≡◌}
use mathlib.Core.Bool.{true}
use mathlib.Core.List.{List, [], ◌∷◌}
use mathlib.Core.Logic.{◌⊎◌, ⊎_elim}
use Prim.Native.Nat.{ℕ, zero, suc, ◌+◌, ◌≤◌, ◌<◌}
use native.Mathlib.Nat.{le_refl}
use native.Mathlib.Omega.{arith}
use lib.ListN.{length}
use Rattle.net.specs.Machines.{Machine, Run, stop, take, Normal}

-- a label that may be taken in s
pub record Next {S : Type 0} {L : Type 0} (machine : Machine S L) (s : S) : Type 0 where
  pub label : L
  pub may : machine.enabled s label ≡ true

-- a run from s to a normal form
pub record Halts {S : Type 0} {L : Type 0} (machine : Machine S L) (s : S) : Type 0 where
  pub labels : List L
  pub end : S
  pub run : Run machine s labels end
  pub normal : Normal machine end

module _ {S : Type 0} {L : Type 0} (machine : Machine S L) (measure : S → ℕ)
    (less : (s : S) (l : L) → machine.enabled s l ≡ true → measure (machine.effect s l) < measure s) where
  -- no run is longer than the measure
  pub run_bounded : {s z : S} {ls : List L} → Run machine s ls z → length ls + measure z ≤ measure s
  run_bounded stop = omega arith
  run_bounded (take {s = s} l h r) = let b = run_bounded r in omega (arith, less s l h)

  module _ (next : (s : S) → Next machine s ⊎ Normal machine s) where
    more : (s : S) (k : Next machine s) → Halts machine (machine.effect s k.label) → Halts machine s
    more s k h = record { labels = k.label ∷ h.labels; end = h.end; run = take k.label k.may h.run; normal = h.normal }

    ended : (s : S) → Normal machine s → Halts machine s
    ended s n = record { labels = []; end = s; run = stop; normal = n }

    halts_by : (n : ℕ) (s : S) → measure s ≤ n → Halts machine s
    halts_by zero s b = ⊎_elim (λ k. absurd (omega (arith, less s k.label k.may))) (ended s) (next s)
    halts_by (suc n) s b =
        ⊎_elim (λ k. more s k (halts_by n (machine.effect s k.label) (omega (arith, less s k.label k.may)))) (ended s) (next s)

    pub halts : (s : S) → Halts machine s
    halts s = halts_by (measure s) s (le_refl (measure s))
