-- Cases of numbers in a line, of lines, and of what fits into an output.
use mathlib.Core.Path.{◌≡◌, refl}
use mathlib.Core.Bool.{true, false}
use mathlib.Core.List.{List, [], ◌∷◌, ◌++◌}
use Prim.Native.Nat.{ℕ}
use Rattle.std.specs.Prelude.{None, Some}
use Rattle.std.specs.Prelude.{Ok, Err}
use Rattle.plan.proofs.Edges.{single}
use Rattle.plan.specs.declared.Refusal.TheVariants.{BadFinish}
use Rattle.rules.specs.declared.step.StepRefusal.TheVariants.{BadStep}
use Rattle.rules.specs.declared.step.RunRefusal.TheVariants.{Unstarted, BadSteps, OutputShort}
use Rattle.rules.specs.Trace.{decimal, step_line, end_line, step_lines, refused_line}
use Rattle.rules.specs.StepFiles.{file_steps, answer_after, fitting, written_after, printed}
use Rattle.rules.proofs.Scripts.{raw}
use Rattle.rules.proofs.Sites.{one, seven, small, crowded}
use Rattle.rules.proofs.Evaluated.{evaluated}

-- `0`, `100`, `65535`
zero : decimal 0 ≡ 48 ∷ []
unfolding evaluated
zero = refl

hundred : decimal 100 ≡ 49 ∷ 48 ∷ 48 ∷ []
unfolding evaluated
hundred = refl

greatest : decimal 65535 ≡ 54 ∷ 53 ∷ 53 ∷ 51 ∷ 53 ∷ []
unfolding evaluated
greatest = refl

-- `12 0 1 7 0 0 0` and `2000 19`
word_line : step_line 12 (record { answer = Ok tt; received = Some (one, seven) }) ≡ 49 ∷ 50 ∷ 32 ∷ 48 ∷ 32 ∷ 49 ∷ 32 ∷ 55 ∷ 32 ∷ 48 ∷ 32 ∷ 48 ∷ 32 ∷ 48 ∷ 10 ∷ []
unfolding evaluated
word_line = refl

refused_line_lem : step_line 2000 (record { answer = Err BadStep; received = None }) ≡ 50 ∷ 48 ∷ 48 ∷ 48 ∷ 32 ∷ 49 ∷ 57 ∷ 10 ∷ []
unfolding evaluated
refused_line_lem = refl

-- `end 0 2`: a rig with two letters
end_line_lem : end_line (crowded 2 small) ≡ 101 ∷ 110 ∷ 100 ∷ 32 ∷ 48 ∷ 32 ∷ 50 ∷ 10 ∷ []
unfolding evaluated crowded small
end_line_lem = refl

-- `1 0` and `2 19`; `refused 8`
two_lines_lem : step_lines 0 (record { answer = Ok tt; received = None } ∷ record { answer = Err BadStep; received = None } ∷ [])
    ≡ (49 ∷ 32 ∷ 48 ∷ 10 ∷ []) ∷ (50 ∷ 32 ∷ 49 ∷ 57 ∷ 10 ∷ []) ∷ []
unfolding evaluated
two_lines_lem = refl

refused_eight : refused_line 8 ≡ 114 ∷ 101 ∷ 102 ∷ 117 ∷ 115 ∷ 101 ∷ 100 ∷ 32 ∷ 56 ∷ 10 ∷ []
unfolding evaluated
refused_eight = refl

-- two steps of a file; the second has a number over 255
two_steps_lem : file_steps (1 ∷ 2 ∷ 3 ∷ 0 ∷ 3 ∷ 4 ∷ 5 ∷ 6 ∷ []) ≡ raw 1 2 3 ∷ raw 3 4 1541 ∷ []
unfolding evaluated
two_steps_lem = refl

-- lines of two, one and two bytes: in five bytes, in four, in two, in one
abbrev lines : List (List ℕ)
lines = (1 ∷ 2 ∷ []) ∷ (3 ∷ []) ∷ (4 ∷ 5 ∷ []) ∷ []

fits_five : fitting 5 lines ≡ 1 ∷ 2 ∷ 3 ∷ 4 ∷ 5 ∷ []
unfolding evaluated
fits_five = refl

fits_four : fitting 4 lines ≡ 1 ∷ 2 ∷ 3 ∷ []
unfolding evaluated
fits_four = refl

fits_two : fitting 2 lines ≡ 1 ∷ 2 ∷ []
unfolding evaluated
fits_two = refl

-- a later line is not put where an earlier one has no room
fits_one : fitting 1 lines ≡ []
unfolding evaluated
fits_one = refl

-- the answers about them: 0, 20, 8, 4
traced : answer_after (Ok tt) true lines 5 ≡ Ok tt
unfolding evaluated
traced = refl

short : answer_after (Ok tt) true lines 4 ≡ Err OutputShort
unfolding evaluated
short = refl

malformed : answer_after (Ok tt) false lines 4 ≡ Err BadSteps
unfolding evaluated
malformed = refl

unstarted : answer_after (Err BadFinish) false lines 4 ≡ Err (Unstarted BadFinish)
unfolding evaluated
unstarted = refl

-- what is written: all, what fits, nothing
written_all : written_after (Ok tt) lines 5 ≡ 1 ∷ 2 ∷ 3 ∷ 4 ∷ 5 ∷ []
unfolding evaluated
written_all = refl

written_short : written_after (Err OutputShort) lines 4 ≡ 1 ∷ 2 ∷ 3 ∷ []
unfolding evaluated
written_short = refl

written_nothing : written_after (Err BadSteps) lines 4 ++ written_after (Err (Unstarted BadFinish)) lines 4 ≡ []
unfolding evaluated
written_nothing = refl

-- three bytes of steps: `refused 8`
printed_refusal : printed 2 single (1 ∷ 1 ∷ 0 ∷ []) ≡ refused_line 8
unfolding evaluated
printed_refusal = refl
