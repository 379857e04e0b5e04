-- The exported choice of steps: its answer, and the output then.
use Rattle.std.specs.Prelude.{◌≡◌, List, ◌++◌, ℕ, length, drop}
use Rattle.rules.specs.Answers.{run_number}
use Rattle.dispatch.specs.Calls.{room_in, choose_answer, choose_text}
use Rattle.driver.specs.Runs.{packed}

-- a choice answered and wrote so: the steps that calls at desks 1 to n in turn choose until the rig is at rest; bytes behind them are unchanged
pub record ChooseMeets (n : ℕ) (p before : List ℕ) (r : ℕ) (after : List ℕ) : Type 0 where
  pub outcome : r ≡ packed (run_number (choose_answer n p (room_in before))) (length (choose_text n p (room_in before)))
  pub bytes : after ≡ choose_text n p (room_in before) ++ drop (length (choose_text n p (room_in before))) before
