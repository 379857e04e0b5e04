-- The text of lines, and how much of it fits: lines one by one.
use mathlib.Core.Path.{◌≡◌, refl, sym, ◌∙◌, ap}
use mathlib.Core.List.{List, [], ◌∷◌, ◌++◌, append_assoc, append-nil}
use Prim.Native.Nat.{ℕ, suc, ◌+◌, ◌-◌, ◌≤◌, ◌<◌}
use native.Mathlib.Nat.{add-zero, add-suc, suc-add}
use native.Mathlib.Omega.{arith}
use lib.ListN.{length, length-append}
use borrow.Author.Tests.{le-leb, lt-leb}
use Rattle.rules.specs.declared.step.Report.{Report}
use Rattle.rules.specs.Trace.{step_line, step_lines}
use Rattle.rules.specs.StepFiles.{text, fitting}

pub text_append : (ls ms : List (List ℕ)) → text (ls ++ ms) ≡ text ls ++ text ms
unfolding text
text_append [] ms = refl
text_append (l ∷ ls) ms = rw (text_append ls ms) (sym (append_assoc l (text ls) (text ms)))

pub text_more : (ls : List (List ℕ)) (l : List ℕ) → text (ls ++ (l ∷ [])) ≡ text ls ++ l
unfolding text
text_more ls l = text_append ls (l ∷ []) ∙ ap (λ (m : List ℕ). text ls ++ m) (append-nil l)

-- the first lines fit and the next does not
module _ (l : List ℕ) (ms : List (List ℕ)) where
  pub fitting_stops : (room : ℕ) (ls : List (List ℕ)) → length (text ls) ≤ room → room < length (text ls) + length l
      → fitting room (ls ++ (l ∷ ms)) ≡ text ls
  unfolding text fitting
  fitting_stops room [] h k = rw (lt-leb (length l) room (omega arith)) refl
  fitting_stops room (m ∷ ls) h k =
      let e = length-append m (text ls) in
      rw (le-leb (length m) room (omega arith), fitting_stops (room - length m) ls (omega arith) (omega arith)) refl

  pub text_too_long : (room : ℕ) (ls : List (List ℕ)) → room < length (text ls) + length l → room < length (text (ls ++ (l ∷ ms)))
  unfolding text
  text_too_long room ls h = rw (text_append ls (l ∷ ms)) (omega (arith, length-append (text ls) (l ++ text ms), length-append l (text ms)))

-- the lines of reports behind others, and of one report behind others
pub step_lines_append : (k : ℕ) (ps qs : List Report) → step_lines k (ps ++ qs) ≡ step_lines k ps ++ step_lines (k + length ps) qs
unfolding step_lines
step_lines_append k [] qs = rw (add-zero k) refl
step_lines_append k (p ∷ ps) qs = rw (step_lines_append (suc k) ps qs, suc-add k (length ps), ← add-suc k (length ps)) refl

pub step_lines_more : (k : ℕ) (qs : List Report) (q : Report)
    → step_lines k (qs ++ (q ∷ [])) ≡ step_lines k qs ++ (step_line (suc (k + length qs)) q ∷ [])
unfolding step_lines
step_lines_more k qs q = step_lines_append k qs (q ∷ [])

-- a line a report
pub length_lines : (k : ℕ) (qs : List Report) → length (step_lines k qs) ≡ length qs
unfolding step_lines
length_lines k [] = refl
length_lines k (q ∷ qs) = ap suc (length_lines (suc k) qs)
