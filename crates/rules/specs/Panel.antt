-- What can be pressed now: how many steps of a rig get each answer.
use Rattle.std.specs.Prelude.{Bool, ◌&&◌, List, ◌++◌, ℕ, suc, eqb, replicate}
use Rattle.base.specs.Choice.{pick, within}
use Rattle.base.specs.Range.{joined}
use Rattle.base.specs.Lists.{count, table}
use Rattle.rules.specs.declared.step.Step.{Step}
use Rattle.rules.specs.declared.system.System.{System}
use Rattle.rules.specs.Numbers.{network_size}
use Rattle.rules.specs.Answers.{step_number}
use Rattle.rules.specs.Steps.{run_step, deliver_step, move_step, step_answer}

-- "all runs of tasks 1..T, all deliveries at 1..256 and all moves of tasks 1..T to desks 1..n (n the rig's desks)": of m tasks and n desks
unfoldable pub panel_steps : ℕ → ℕ → List Step
panel_steps m n =
    table m (λ t. run_step (suc t))
    ++ (table network_size (λ p. deliver_step (suc p))
    ++ joined m (λ t. table n (λ d. move_step (suc t) (suc d))))

-- "how many get each answer number, with 0 for accepted": number a
unfoldable pub answering : System → ℕ → List Step → ℕ
answering r a ss = count (λ s. eqb (step_number (step_answer r s)) a) ss

-- the rig's T and n are within the limits
abbrev pub countable : System → Bool
countable r = within 1 64 r.plan.tasks && within 1 6 r.processors

-- the counts of the numbers 0 to 26; "or all counts 0 where its T or n is itself outside the limits"
unfoldable pub panel : System → List ℕ
panel r = pick (countable r) (table 27 (λ a. answering r a (panel_steps r.plan.tasks r.processors))) (replicate 27 0)
