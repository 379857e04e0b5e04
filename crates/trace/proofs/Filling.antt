-- Lines put one behind another at the front of the output.
use mathlib.Core.Path.{◌≡◌, refl, sym, ◌∙◌}
use mathlib.Core.List.{List, [], ◌++◌, append_assoc}
use Prim.Native.Nat.{ℕ, ◌+◌, ◌≤◌, ◌<◌}
use native.Mathlib.Omega.{arith}
use lib.ListN.{length, take, drop, length-append, length-drop}
use lib.Seq.{take-append_seam, drop-append-add, drop-drop}
use Rattle.trace.specs.Output.{Emitted, Filled}
use Rattle.trace.proofs.Emitting.{count_fits_lem, bytes_fit, bytes_same, fitted, fitted_not}

pub filled_none : (o : List ℕ) → Filled o [] 0 o
filled_none o = record { bytes = refl; end = refl; room = omega arith }

-- the output stays as long
pub front_length : (o t : List ℕ) → length t ≤ length o → length (t ++ drop (length t) o) ≡ length o
front_length o t h = simp (length-append, length-drop) (omega arith)

-- the line s behind t, which is at the front of o
pub behind : (o t s : List ℕ)
    → take (length t) (t ++ drop (length t) o) ++ (s ++ drop (length t + length s) (t ++ drop (length t) o)) ≡ (t ++ s) ++ drop (length (t ++ s)) o
behind o t s =
    rw (take-append_seam t (drop (length t) o), drop-append-add t (drop (length t) o) (length s), drop-drop (length s) (length t) o, length-append t s)
    (sym (append_assoc t s (drop (length t + length s) o)))

module _ {o t out : List ℕ} {f : ℕ} (h : Filled o t f out) where
  pub filled_length : length out ≡ length o
  filled_length = rw h.bytes (front_length o t h.room)

  module _ {s after : List ℕ} {r : ℕ} (e : Emitted out f s r after) where
    -- a line more
    pub filled_more : f + length s ≤ length o → Filled o (t ++ s) (f + r) after
    filled_more l =
        let k : f + length s ≤ length out = rw filled_length l in
        record {
          bytes = bytes_fit e k ∙ rw (h.bytes, h.end) (behind o t s);
          end = omega (arith, h.end, count_fits_lem e k, length-append t s);
          room = omega (arith, h.end, length-append t s);
        }

    -- a line that does not fit
    pub filled_same : length o < f + length s → Filled o t f after
    filled_same l = rw (bytes_same e (rw filled_length l)) h

    -- what the result tells
    pub filled_fitted : 1 ≤ r → f + length s ≤ length o
    filled_fitted k = rw (← filled_length) (fitted e k)

    pub filled_short : 1 ≤ length s → r ≡ 0 → length o < f + length s
    filled_short k z = rw (← filled_length) (fitted_not e k z)
