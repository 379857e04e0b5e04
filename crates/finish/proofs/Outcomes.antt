-- The outcome of the check: a refused file, and the lines of the rig at rest, which are the same everywhere.
use mathlib.Core.Path.{◌≡◌, refl, sym, ap, ◌∙◌}
use mathlib.Core.Bool.{Bool, true, false}
use mathlib.Core.List.{List, []}
use Prim.Native.Nat.{ℕ, ◌≤◌}
use native.Mathlib.Omega.{arith}
use Rattle.std.specs.Prelude.{Ok, Err}
use Rattle.base.specs.Choice.{pick}
use Rattle.base.proofs.Tests.{tests_differ}
use Rattle.plan.specs.declared.Plan.{Plan}
use Rattle.plan.specs.Answers.{PlanAnswer}
use Rattle.plan.specs.declared.Refusal.{Refusal}
use Rattle.plan.specs.Answers.{is_accepted}
use Rattle.plan.specs.Files.{file_answer}
use Rattle.plan.specs.Programs.{programs}
use Rattle.plan.specs.Refusals.{plan_answer}
use Rattle.rules.specs.declared.step.Step.{Step}
use Rattle.rules.specs.declared.step.RunRefusal.TheVariants.{Unstarted, OutputShort}
use Rattle.rules.specs.Finish.{finish_lines}
use Rattle.rules.specs.StepFiles.{answer_after}
use Rattle.run.proofs.file.Outcomes.{plan_ok}
use Rattle.claim.specs.Finish.{RestsOn}
use Rattle.claim.proofs.Finish.{finish_everywhere}
use Rattle.claim.proofs.Work.{same_work_everywhere}
use Rattle.finish.specs.Files.{lines_after, Told, plan_of, FinishFile}

-- no file is refused and accepted
not_both : {x : PlanAnswer} {r : Refusal} → x ≡ Err r → x ≡ Ok tt → ⊥
not_both e f = tests_differ (ap is_accepted f) (ap is_accepted e)

-- the lines are the same everywhere
same_lines : (p : Plan) → plan_answer (programs p) ≡ Ok tt → (n k : ℕ) (ss ts : List Step) → 1 ≤ n → n ≤ 6 → 1 ≤ k → k ≤ 6
    → RestsOn n p ss → RestsOn k p ts → lines_after k p ts ≡ lines_after n p ss
unfolding finish_lines
same_lines p a n k ss ts some few some' few' quiet rests =
    let same = finish_everywhere k n p ts ss some' few' some few a rests quiet in
    rw (same.finishes, same.list, (same_work_everywhere k n p ts ss some' few' some few a rests quiet).all) refl

module _ (b before : List ℕ) where
  pub refused_file : (r : Refusal) → file_answer b ≡ Err r → FinishFile b before (Err (Unstarted r)) 0 before
  refused_file r e =
      record {
        refused = λ q f. (ap (λ (x : PlanAnswer). answer_after x true [] 0) (sym e ∙ f), refl, refl);
        finished = λ f. absurd (not_both e f);
        rests = λ f. absurd (not_both e f);
      }

  module _ (a : file_answer b ≡ Ok tt) {filled : ℕ} {after : List ℕ} where
    told : {whole : Bool} → Told (plan_of b) before filled whole after → FinishFile b before (pick whole (Ok tt) (Err OutputShort)) filled after
    told t =
        record {
          refused = λ q f. absurd (not_both f a);
          finished =
              λ e n ss some few quiet.
              let w = rw (same_lines (plan_of b) (plan_ok b a) n 1 ss t.list some few (omega arith) (omega arith) quiet t.rests) at t.written in
              record { answered = rw w.all refl; count = w.count; bytes = w.bytes };
          rests = λ e. record { list = t.list; rests = t.rests };
        }

    -- all lines fit, or not
    pub told_whole : {whole : Bool} → whole ≡ true → Told (plan_of b) before filled whole after → FinishFile b before (Ok tt) filled after
    told_whole e t = rw e at (told t)

    pub told_short : {whole : Bool} → whole ≡ false → Told (plan_of b) before filled whole after → FinishFile b before (Err OutputShort) filled after
    told_short e t = rw e at (told t)
