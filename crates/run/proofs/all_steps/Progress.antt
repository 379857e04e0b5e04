-- More lines, behind lines that were written as far as they fit.
use mathlib.Core.Path.{◌≡◌, refl, ◌∙◌}
use mathlib.Core.Bool.{true, false}
use mathlib.Core.List.{List, [], ◌∷◌, ◌++◌, append_assoc, append-nil}
use mathlib.Core.Logic.{by_cases}
use Prim.Native.Nat.{ℕ, ◌+◌, ◌≤◌}
use native.Mathlib.Decide.{ℕ_discrete}
use native.Mathlib.Omega.{arith}
use lib.ListN.{length, get_or, set, length-set, length-append}
use lib.Seq.{get_or-set_same, get_or-set_other}
use borrow.Author.Tests.{eq-eqb, ne_eqb}
use Rattle.rules.specs.declared.step.Report.{Report}
use Rattle.rules.specs.Answers.{step_number}
use Rattle.rules.specs.Trace.{decimal, fields, received_fields, step_line}
use Rattle.trace.specs.Output.{Emitted}
use Rattle.trace.proofs.Emitting.{fitted, count_fits_lem, emitted_length}
use Rattle.trace.proofs.Filling.{filled_more, filled_same, filled_fitted, filled_short}
use Rattle.trace.proofs.Texts.{text_more}
use Rattle.run.specs.all_steps.Writes.{LinesNext, LineNext, noted, filled_by, whole_by}
use Rattle.run.proofs.all_steps.Fits.{filled_written, filled_stopped, written_filled, written_over}

-- a line has a byte
pub step_line_some : (k : ℕ) (q : Report) → 1 ≤ length (step_line k q)
unfolding step_line fields
step_line_some k q = rw (length-append (decimal k) (fields (step_number q.answer ∷ received_fields q.received))) (omega arith)

-- no lines, and lines behind others
pub next_none : (progress out : List ℕ) → LinesNext [] progress out progress out
next_none progress out = record { long = refl; kept = refl; room = λ h. h; more = λ ls o w. rw (append-nil ls) w }

pub next_then : {ls ms : List (List ℕ)} {progress out progress' out' progress'' out'' : List ℕ}
    → LinesNext ls progress out progress' out' → LinesNext ms progress' out' progress'' out'' → LinesNext (ls ++ ms) progress out progress'' out''
next_then {ls} {ms} a b =
    record {
      long = b.long ∙ a.long;
      kept = b.kept ∙ a.kept;
      room = λ h. b.room (a.room h);
      more = λ lines o w. rw (← append_assoc lines ls ms) (b.more (lines ++ ls) o (a.more lines o w));
    }

-- a line did not fit before
pub next_stopped : (ls : List (List ℕ)) (progress out : List ℕ) → (get_or progress 1 0 ≡ 0 → ⊥) → LinesNext ls progress out progress out
next_stopped ls progress out h =
    let no : whole_by progress ≡ false = ne_eqb (get_or progress 1 0) 0 h in
    record { long = refl; kept = refl; room = λ k. k; more = λ lines o w. rw no (written_over ls (rw no at w)) }

-- all fitted before
module _ (line progress out : List ℕ) (two : length progress ≡ 2) (none : get_or progress 1 0 ≡ 0) (room : filled_by progress ≤ length out) {r : ℕ} {out' : List ℕ} (e : Emitted out (filled_by progress) line r out') where
  whole : whole_by progress ≡ true
  whole = eq-eqb (get_or progress 1 0) 0 none

  -- what is filled then is a number
  pub noted_room : filled_by progress + r ≤ length out
  noted_room =
      by_cases (ℕ_discrete r 0)
      (λ (z : r ≡ 0). omega arith)
      (λ z. let l = fitted e (omega arith) in omega (arith, l, count_fits_lem e l))

  -- this one does not fit
  next_short : 1 ≤ length line → r ≡ 0 → LineNext line progress out (set progress 1 1) out'
  next_short some z =
      let flag : get_or (set progress 1 1) 1 0 ≡ 1 = get_or-set_same progress 1 1 0 (omega arith) in
      let kept : get_or (set progress 1 1) 0 0 ≡ filled_by progress = get_or-set_other progress 1 0 1 0 (λ h. omega (arith, h)) in
      record {
        long = length-set progress 1 1;
        kept = emitted_length e room;
        room = λ h. rw kept (omega (arith, emitted_length e room));
        more = λ ls o w.
            let h = written_filled (rw whole at w) in
            let over = filled_short h e some z in
            rw (flag, kept) (filled_stopped ls (filled_same h e over) line [] over);
      }

  -- it fits
  next_fits : 1 ≤ r → LineNext line progress out (set progress 0 (filled_by progress + r)) out'
  next_fits some =
      let end : get_or (set progress 0 (filled_by progress + r)) 0 0 ≡ filled_by progress + r = get_or-set_same progress 0 (filled_by progress + r) 0 (omega arith) in
      let kept : get_or (set progress 0 (filled_by progress + r)) 1 0 ≡ get_or progress 1 0 = get_or-set_other progress 0 1 (filled_by progress + r) 0 (λ h. omega (arith, h)) in
      record {
        long = length-set progress 0 (filled_by progress + r);
        kept = emitted_length e room;
        room = λ h. rw end (omega (arith, noted_room, emitted_length e room));
        more = λ ls o w.
            let h = written_filled (rw whole at w) in
            rw (end, kept, whole) (filled_written (ls ++ (line ∷ [])) (rw text_more (filled_more h e (filled_fitted h e some))));
      }

  pub next_noted : 1 ≤ length line → LineNext line progress out (noted progress r) out'
  next_noted some =
      by_cases (ℕ_discrete r 0)
      (λ (z : r ≡ 0). rw (eq-eqb r 0 z) (next_short some z))
      (λ z. rw (ne_eqb r 0 z) (next_fits (omega arith)))
