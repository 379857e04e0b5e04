-- `arrive_sending` applies the rule along the links. The loop's invariant: it is applied to the channels before c.
use Prim.Native.Nat.{◌-◌}
use Rattle.rig_parts.specs.declared.sweep.CellRule.TheVariants.{ArriveSending}
use Rattle.plan_index.specs.user_table.Users.{senders_of, firsts_sent}
use Rattle.plan_index.proofs.user_table.Following.{reached}
use Rattle.board.specs.Lent.{Whole}
use Rattle.board.specs.sweeps.Sweeps.{PointersBy}
use Rattle.board.proofs.sweeps.Walking.{Walked}
use Rattle.board.proofs.sweeps.arrival.arrive_sending.Given as goal

abbrev pub invariant-loop-c : goal.invariant-loop-c
invariant-loop-c l =
    (Whole l.board) × Walked (senders_of l.users) (firsts_sent l.users) l.d ArriveSending l.initial.c l.c (λ f. PointersBy f l.initial.hintprocessors l.initial.hintmoves l.initial.board l.hintprocessors l.hintmoves l.board)

abbrev pub decreases-loop-c : goal.decreases-loop-c
decreases-loop-c l = 128 - reached l.c
