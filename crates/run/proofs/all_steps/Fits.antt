-- Lines that all fit and lines that do not, one line more and more lines behind them; the lines of one list of reports behind those of another.
use mathlib.Core.Path.{◌≡◌, refl, sym}
use mathlib.Core.Bool.{Bool, true, false}
use mathlib.Core.List.{List, [], ◌∷◌, ◌++◌}
use Prim.Native.Nat.{ℕ, suc, ◌+◌, ◌-◌, ◌≤◌, ◌<◌}
use native.Mathlib.Nat.{add-zero, add-suc, suc-add}
use native.Mathlib.Omega.{arith}
use mathlib.Core.Logic.{by_cases}
use native.Mathlib.Decide.{dec_le}
use lib.ListN.{length, drop, length-append, length-drop}
use borrow.Author.Tests.{leb-true, leb-false, le-leb, lt-leb}
use Rattle.rules.specs.declared.step.Report.{Report}
use Rattle.rules.specs.Trace.{step_lines}
use Rattle.rules.specs.StepFiles.{text, fitting}
use Rattle.trace.specs.Output.{Filled}
use Rattle.trace.proofs.Texts.{text_append, fitting_stops, text_too_long}
use Rattle.run.specs.all_steps.Writes.{Written}

pub fitting_all : (room : ℕ) (ls : List (List ℕ)) → length (text ls) ≤ room → fitting room ls ≡ text ls
unfolding text fitting
fitting_all room [] h = refl
fitting_all room (l ∷ ls) h =
    let e = length-append l (text ls) in
    rw (le-leb (length l) room (omega arith), fitting_all (room - length l) ls (omega arith)) refl

-- they are within the room
pub fitting_room : (room : ℕ) (ls : List (List ℕ)) → length (fitting room ls) ≤ room
unfolding fitting
fitting_room room [] = omega arith
fitting_room room (l ∷ ls) =
    let e = length-append l (fitting (room - length l) ls) in
    let h = fitting_room (room - length l) ls in
    by_cases (dec_le (length l) room)
    (λ (q : length l ≤ room). rw (le-leb (length l) room q) (omega arith))
    (λ q. rw (lt-leb (length l) room (omega arith)) (omega arith))

-- where the first lines do not fit, those behind them do not matter
pub fitting_over : (room : ℕ) (ls ms : List (List ℕ)) → room < length (text ls) → fitting room (ls ++ ms) ≡ fitting room ls
unfolding text fitting
fitting_over room [] ms h = absurd (omega arith)
fitting_over room (l ∷ ls) ms h =
    let e = length-append l (text ls) in
    by_cases (dec_le (length l) room)
    (λ (q : length l ≤ room). rw (le-leb (length l) room q, fitting_over (room - length l) ls ms (omega arith)) refl)
    (λ q. rw (lt-leb (length l) room (omega arith)) refl)

pub step_lines_append : (k : ℕ) (qs ps : List Report) → step_lines k (qs ++ ps) ≡ step_lines k qs ++ step_lines (k + length qs) ps
unfolding step_lines
step_lines_append k [] ps = rw (add-zero k) refl
step_lines_append k (q ∷ qs) ps = rw (step_lines_append (suc k) qs ps, suc-add k (length qs), ← add-suc k (length qs)) refl

-- lines that are written at the front of o: all of them, or those before the first that does not fit
module _ (ls : List (List ℕ)) {o : List ℕ} {f : ℕ} {out : List ℕ} (h : Filled o (text ls) f out) where
  pub filled_written : Written ls o f true out
  filled_written =
      let e = fitting_all (length o) ls h.room in
      record { count = rw e h.end; all = sym (le-leb (length (text ls)) (length o) h.room); bytes = rw e h.bytes }

  pub filled_stopped : (l : List ℕ) (ms : List (List ℕ)) → length o < f + length l → Written (ls ++ (l ∷ ms)) o f false out
  filled_stopped l ms k =
      let short : length o < length (text ls) + length l = rw (← h.end) k in
      let e = fitting_stops l ms (length o) ls h.room short in
      record {
        count = rw e h.end;
        all = sym (lt-leb (length (text (ls ++ (l ∷ ms)))) (length o) (text_too_long l ms (length o) ls short));
        bytes = rw e h.bytes;
      }

pub written_filled : {o : List ℕ} {ls : List (List ℕ)} {f : ℕ} {out : List ℕ} → Written ls o f true out → Filled o (text ls) f out
written_filled {o} {ls} w =
    let room = leb-true (length (text ls)) (length o) (sym w.all) in
    let e = fitting_all (length o) ls room in
    record { bytes = rw e at w.bytes; end = rw e at w.count; room = room }

-- what is filled is within the output, which stays as long
module _ {o : List ℕ} {ls : List (List ℕ)} {f : ℕ} {b : Bool} {out : List ℕ} (w : Written ls o f b out) where
  pub written_room : f ≤ length out
  written_room =
      let l = fitting (length o) ls in
      rw w.bytes (omega (arith, w.count, length-append l (drop (length l) o)))

  pub written_length : length out ≡ length o
  written_length =
      let l = fitting (length o) ls in
      rw w.bytes (omega (arith, length-append l (drop (length l) o), length-drop (length l) o, fitting_room (length o) ls))

-- lines behind those that do not all fit
pub written_over : {o : List ℕ} {ls : List (List ℕ)} {f : ℕ} {out : List ℕ} (ms : List (List ℕ)) → Written ls o f false out → Written (ls ++ ms) o f false out
written_over {o} {ls} ms w =
    let short = leb-false (length (text ls)) (length o) (sym w.all) in
    let e = fitting_over (length o) ls ms short in
    let long : length o < length (text (ls ++ ms)) = rw (text_append ls ms) (omega (arith, length-append (text ls) (text ms))) in
    record { count = rw e w.count; all = sym (lt-leb (length (text (ls ++ ms))) (length o) long); bytes = rw e w.bytes }
