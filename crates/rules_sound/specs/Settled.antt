-- A task that is at a desk with an instruction before it: ready, waiting, sending or receiving.
use Rattle.std.specs.Prelude.{ℕ, ◌≤◌, ◌<◌, ◌^◌}
use Rattle.rules.specs.declared.task.Task.{Task}
use Rattle.rules.specs.Tasks.{state_number}

-- in a rig of n desks and m tasks, with a program of `size` instructions
pub record Settled (n m size : ℕ) (x : Task) : Type 0 where
  pub born : 1 ≤ state_number x.state
  pub still : state_number x.state ≤ 4
  pub children : x.children < 2 ^ m
  pub moves : 1 ≤ x.moves
  pub moves_few : x.moves ≤ 9999
  pub processor : 1 ≤ x.processor.0
  pub processor_few : x.processor.0 ≤ n
  pub place : 1 ≤ x.pc
  pub place_few : x.pc ≤ size
