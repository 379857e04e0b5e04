-- The same of an accepted plan file and any step file.
use mathlib.Core.Path.{◌≡◌}
use mathlib.Core.Bool.{true}
use mathlib.Core.List.{List}
use Prim.Native.Nat.{ℕ}
use Rattle.std.specs.Prelude.{Ok}
use Rattle.base.specs.Choice.{within}
use Rattle.base.proofs.Tests.{within_low, within_high}
use Rattle.plan.specs.declared.Refusal.TheVariants.{BadProcessors}
use Rattle.plan.specs.Files.{file_programs, file_answer, start_answer}
use Rattle.plan.specs.Programs.{programs, canonical}
use Rattle.plan.specs.Refusals.{plan_answer}
use Rattle.plan_laws.proofs.Answers.{unless_accepted}
use Rattle.plan_laws.proofs.Canonical.{meaning_canonical}
use Rattle.plan_laws.proofs.LayoutRead.{file_plan_lem}
use Rattle.rules.specs.StepFiles.{file_steps}
use Rattle.claim.specs.Statement.{Demand3}
use Rattle.claim.proofs.Demand3.{demand_3}

module _ (n : ℕ) (b : List ℕ) (accepted : start_answer n b ≡ Ok tt) where
  processors : within 1 6 n ≡ true
  unfolding start_answer
  processors = (unless_accepted (within 1 6 n) BadProcessors (file_answer b) accepted).0

  plan_ok : plan_answer (file_programs b) ≡ Ok tt
  unfolding start_answer
  plan_ok = file_plan_lem b (unless_accepted (within 1 6 n) BadProcessors (file_answer b) accepted).1

  means : programs (canonical (file_programs b)) ≡ file_programs b
  means = meaning_canonical (file_programs b) plan_ok

  pub demand_3_file : (ss : List ℕ) → Demand3 n (canonical (file_programs b)) (file_steps ss)
  demand_3_file ss =
      demand_3 n (canonical (file_programs b)) (file_steps ss) (within_low 1 6 n processors) (within_high 1 6 n processors) (rw means plan_ok)
