-- The lines of steps are short where the words received are.
use mathlib.Core.Path.{◌≡◌}
use mathlib.Core.Bool.{true}
use mathlib.Core.List.{List, [], ◌∷◌}
use Prim.Native.Nat.{ℕ, suc, ◌+◌, ◌*◌, ◌≤◌}
use native.Mathlib.Omega.{arith}
use lib.ListN.{length, length-append}
use Rattle.base.specs.Lists.{every}
use Rattle.base.proofs.Tests.{and_left, and_right}
use Rattle.rules.specs.declared.step.Step.{Step}
use Rattle.rules.specs.declared.system.System.{System}
use Rattle.rules.specs.Steps.{step_answer, performed, step, steps_by, steps}
use Rattle.rules.specs.Trace.{step_line, step_lines}
use Rattle.rules.specs.StepFiles.{text}
use Rattle.rules_laws.proofs.Steps.{step_cases}
use Rattle.rules_sound.specs.Words.{report_good}
use Rattle.rules_sound.proofs.Words.Fits.{word_fits}
use Rattle.trace.proofs.Lengths.{report_text, refused_short, accepted_short, line_short}

report_short : (r : System) (s : Step) → report_good word_fits (step r s).report ≡ true → length (report_text (step r s).report) ≤ 31
report_short r s =
    step_cases r s (λ o. report_good word_fits o.report ≡ true → length (report_text o.report) ≤ 31)
    (λ e h. omega (arith, refused_short (step_answer r s)))
    (λ e h. accepted_short (performed r s).received h)

-- the lines of steps, behind those of the first k
pub steps_short : (r : System) (k : ℕ) (ss : List Step) → every (report_good word_fits) (steps r ss).reports ≡ true → k + length ss ≤ 2000
    → length (text (step_lines k (steps r ss).reports)) ≤ 35 * length ss
unfolding steps_by step_lines text every
steps_short r k [] h l = omega arith
steps_short r k (s ∷ ss) h l =
    let q = step r s in
    let rest = (steps q.system ss).reports in
    let line = line_short (suc k) q.report (omega arith) (report_short r s (and_left _ (every (report_good word_fits) rest) h)) in
    let more = steps_short q.system (suc k) ss (and_right (report_good word_fits q.report) _ h) (omega arith) in
    omega (arith, line, more, length-append (step_line (suc k) q.report) (text (step_lines (suc k) rest)))
