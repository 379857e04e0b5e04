-- `put_steps` puts the opening, the rounds and the end, one behind the other.
use native.Mathlib.Omega.{arith}
use Rattle.rules.specs.Steps.{run_step, move_step}
use Rattle.chase.proofs.Writing.{three_are, all_put}
use Rattle.chase.proofs.output.put_steps.Goals as goal

pub returns : goal.returns
returns c =
    let a = c.args in
    all_put a.out.now _ _ _ a.m
    (three_are a.out.now _ 0 _ _ _ (run_step 1) (move_step 2 2) (run_step 1) c.run-sender.ensures c.move_to-away.ensures c.run-sender.ensures
    c.put_all.ensures)
    c.put_rounds.ensures
    c.put_ending.ensures
    (omega (arith, c.requires))
