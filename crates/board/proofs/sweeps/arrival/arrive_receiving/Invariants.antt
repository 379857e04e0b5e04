-- `arrive_receiving` applies the rule along the links. The loop's invariant: it is applied to the channels before c.
use Prim.Native.Nat.{◌-◌}
use Rattle.rig_parts.specs.declared.sweep.CellRule.TheVariants.{ArriveReceiving}
use Rattle.plan_index.specs.user_table.Users.{receivers_of, firsts_received}
use Rattle.plan_index.proofs.user_table.Following.{reached}
use Rattle.board.specs.Lent.{Whole}
use Rattle.board.specs.sweeps.Sweeps.{OffersBy}
use Rattle.board.proofs.sweeps.Walking.{Walked}
use Rattle.board.proofs.sweeps.arrival.arrive_receiving.Given as goal

abbrev pub invariant-loop-c : goal.invariant-loop-c
invariant-loop-c l =
    (Whole l.board) × Walked (receivers_of l.users) (firsts_received l.users) l.h.processor (ArriveReceiving l.h.processor l.h.moves) l.initial.c l.c (λ f. OffersBy f l.initial.hintprocessors l.initial.hintmoves l.initial.heldprocessors l.initial.heldnumbers l.initial.board l.hintprocessors l.hintmoves l.heldprocessors l.heldnumbers l.board)

abbrev pub decreases-loop-c : goal.decreases-loop-c
decreases-loop-c l = 128 - reached l.c
