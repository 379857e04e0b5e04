-- What the finish check of a file gives, as numbers.
use mathlib.Core.Path.{◌≡◌, refl, ap, ap₂, ◌∙◌}
use mathlib.Core.Bool.{Bool, true, false}
use mathlib.Core.List.{List}
use Prim.Native.Nat.{ℕ, ◌≤◌}
use native.Mathlib.Omega.{arith}
use lib.Dec.{leb}
use lib.ListN.{length}
use Rattle.std.specs.Prelude.{Ok, Err}
use Rattle.base.specs.Choice.{pick}
use Rattle.plan.specs.Answers.{PlanAnswer}
use Rattle.plan.specs.Files.{file_answer}
use Rattle.rules.specs.Answers.{RunAnswer}
use Rattle.rules.specs.declared.step.RunRefusal.TheVariants.{OutputShort}
use Rattle.rules.specs.Answers.{run_number}
use Rattle.rules.specs.StepFiles.{text}
use Rattle.run.proofs.file.Outcomes.{plan_ok}
use Rattle.trace.proofs.Bound.{fitting_short}
use Rattle.finish.specs.Files.{FinishFile, plan_of, lines_after}
use Rattle.finish.proofs.Length.{lines_short}
use Rattle.driver.specs.Runs.{packed, enough}
use Rattle.planner.specs.Finish.{FinishMeets}

-- the number of what is said
said_number : (b : Bool) → run_number (pick b (Ok tt) (Err OutputShort)) ≡ pick b 0 20
said_number true = refl
said_number false = refl

module _ (p before : List ℕ) {answer : RunAnswer} {filled : ℕ} {after : List ℕ} (f : FinishFile p before answer filled after) where
  -- the filled bytes are few
  pub filled_few : filled ≤ enough
  filled_few = go (file_answer p) refl
    where
      go : (a : PlanAnswer) → file_answer p ≡ a → filled ≤ enough
      go (Err a) e = omega (arith, (f.refused a e).1)
      go (Ok tt) e =
          let rest = f.rests e in
          let said = f.finished e 1 rest.list (omega arith) (omega arith) rest.rests in
          let lines = lines_after 1 (plan_of p) rest.list in
          omega (arith, said.count, fitting_short (length before) lines, lines_short 1 (plan_of p) rest.list (omega arith) (omega arith) (plan_ok p e))

  pub finish_meets : {r : ℕ} → r ≡ packed (run_number answer) filled → FinishMeets p before r after
  finish_meets {r} is =
      record {
        refused = λ a e. let (q, n, b) = f.refused a e in (is ∙ ap₂ packed (ap run_number q) n, b);
        finished =
            λ e n ss some few quiet.
            let said = f.finished e n ss some few quiet in
            record {
              outcome = is ∙ ap₂ packed (ap run_number said.answered ∙ said_number (leb (length (text (lines_after n (plan_of p) ss))) (length before))) said.count;
              bytes = said.bytes;
            };
        rests = f.rests;
        room = λ e n ss some few. lines_short n (plan_of p) ss some few (plan_ok p e);
      }
