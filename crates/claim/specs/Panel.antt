-- What can be pressed: the counts of a panel together, and rest as a panel shows it. Said of the definitions of `rules` and of the statement alone.
use Rattle.std.specs.Prelude.{◌≡◌, true, false, List, ◌++◌, ℕ, suc, ◌+◌, ◌*◌, ◌≤◌, eqb, get_or, replicate, Ok}
use Rattle.base.specs.Choice.{pick}
use Rattle.base.specs.Range.{sum_below, joined}
use Rattle.base.specs.Lists.{table}
use Rattle.plan.specs.declared.Plan.{Plan}
use Rattle.plan.specs.Programs.{programs}
use Rattle.plan.specs.Refusals.{plan_answer}
use Rattle.rules.specs.declared.step.Step.{Step}
use Rattle.rules.specs.declared.system.System.{System}
use Rattle.rules.specs.Sound.{system_ok}
use Rattle.rules.specs.Steps.{run_step, deliver_step, move_step, quiescent}
use Rattle.rules.specs.Panel.{panel_steps, answering, countable, panel}
use Rattle.claim.specs.Statement.{from}

-- "T + 256 + T × n"
abbrev pub total_in : System → ℕ
total_in r = r.plan.tasks + 256 + r.plan.tasks * r.processors

-- `panel_counts`: of every rig, whether 9 refuses it or not
pub record PanelCounts (r : System) : Type 0 where
  -- "The counts together are T + 256 + T × n."
  pub together : countable r ≡ true → sum_below 27 (λ a. get_or (panel r) a 0) ≡ total_in r
  -- "A rig refused by 9 gives that total under 9 alone"
  pub nine : countable r ≡ true → system_ok r ≡ false → panel r ≡ table 27 (λ a. pick (eqb 9 a) (total_in r) 0)
  -- "or all counts 0 where its T or n is itself outside the limits"
  pub outside : countable r ≡ false → panel r ≡ replicate 27 0
  -- a rig that 9 does not refuse has its T and n within the limits
  pub inside : system_ok r ≡ true → countable r ≡ true

abbrev pub CountsTogether : Type 0
CountsTogether = (r : System) → PanelCounts r

-- a panel's steps without its moves
abbrev pub runs_and_deliveries : ℕ → List Step
runs_and_deliveries m = table m (λ t. run_step (suc t)) ++ table 256 (λ p. deliver_step (suc p))

-- `rest_shown`: a rig is at rest exactly when no run and no delivery of its panel gets 0
pub record RestOf (r : System) : Type 0 where
  pub parts : panel_steps r.plan.tasks r.processors
      ≡ runs_and_deliveries r.plan.tasks ++ joined r.plan.tasks (λ t. table r.processors (λ d. move_step (suc t) (suc d)))
  pub rest : quiescent r ≡ eqb (answering r 0 (runs_and_deliveries r.plan.tasks)) 0

-- of every rig that 9 does not refuse; so, for every accepted plan, 1 to 6 desks and every list of steps
abbrev pub RestShown : Type 0
RestShown = (r : System) → system_ok r ≡ true → RestOf r

abbrev pub RunRestShown : Type 0
RunRestShown =
    (n : ℕ) (p : Plan) (ss : List Step) → 1 ≤ n → n ≤ 6 → plan_answer (programs p) ≡ Ok tt → RestOf (from n p ss).system
