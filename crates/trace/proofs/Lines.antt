-- The line of a marked task, the last line and that of a verdict: put together field by field, and how long; that the last is the paper's.
use mathlib.Core.Path.{◌≡◌, refl}
use mathlib.Core.Bool.{Bool, true, false}
use mathlib.Core.List.{[], ◌∷◌, ◌++◌, append_assoc}
use Prim.Native.Nat.{ℕ, ◌+◌}
use native.Mathlib.Omega.{arith}
use lib.ListN.{length, length-append}
use Rattle.base.specs.Choice.{pick}
use Rattle.rules.specs.declared.system.System.{System}
use Rattle.rules.specs.Steps.{quiescent}
use Rattle.rules.specs.Trace.{decimal, fields, over_line, end_line}
use Rattle.rules.specs.Finish.{verdict_line}
use Rattle.trace.specs.Lines.{over_word, end_word, end_text, verdict_word}
use Rattle.trace.proofs.Putting.{one_digit}

module _ (t : ℕ) where
  pub over_text_lem : (over_word ++ (32 ∷ decimal t)) ++ (10 ∷ []) ≡ over_line t
  unfolding over_line fields
  over_text_lem = simp append_assoc

  pub over_length : length (over_line t) ≡ length (decimal t) + 6
  over_length = rw (← over_text_lem) (simp length-append (omega arith))

-- r says whether the rig is at rest, as a number
module _ (b : Bool) (n : ℕ) {r : ℕ} (e : r ≡ pick b 1 0) where
  pub end_text_lem : ((end_word ++ (32 ∷ decimal r)) ++ (32 ∷ decimal n)) ++ (10 ∷ []) ≡ end_text b n
  unfolding end_text fields
  end_text_lem = simp append_assoc (rw e refl)

one_flag : (b : Bool) → length (decimal (pick b 1 0)) ≡ 1
one_flag true = one_digit 1 (omega arith)
one_flag false = one_digit 0 (omega arith)

pub end_length : (b : Bool) (n : ℕ) → length (end_text b n) ≡ length (decimal n) + 7
end_length b n = rw (← end_text_lem b n refl) (simp length-append (omega (arith, one_flag b)))

pub flag_length : (b : Bool) {r : ℕ} → r ≡ pick b 1 0 → length (decimal r) ≡ 1
flag_length b e = rw e (one_flag b)

-- the last line of a rig
pub end_of : (r : System) → end_line r ≡ end_text (quiescent r) r.network.used
unfolding end_line end_text
end_of r = refl

-- the first line of the finish check
module _ (finishes : Bool) (n : ℕ) where
  pub verdict_text : (verdict_word finishes ++ (32 ∷ decimal n)) ++ (10 ∷ []) ≡ verdict_line finishes n
  unfolding verdict_line fields
  verdict_text = simp append_assoc

  pub verdict_length : length (verdict_line finishes n) ≡ length (verdict_word finishes) + length (decimal n) + 2
  verdict_length = rw (← verdict_text) (simp length-append (omega arith))
