-- `locate` stores the pointer along the links. The loop's invariant: it is stored for the channels before c.
use Prim.Native.Nat.{◌-◌}
use Rattle.rig_parts.specs.declared.sweep.CellRule.TheVariants.{Locate}
use Rattle.plan_index.specs.user_table.Users.{receivers_of, firsts_received}
use Rattle.plan_index.proofs.user_table.Following.{reached}
use Rattle.board.specs.sweeps.Sweeps.{HintsBy}
use Rattle.board.proofs.sweeps.Walking.{Walked}
use Rattle.board.proofs.sweeps.locate.Given as goal

abbrev pub invariant-loop-c : goal.invariant-loop-c
invariant-loop-c l =
    Walked (receivers_of l.users) (firsts_received l.users) l.d (Locate l.h.processor l.h.moves) l.initial.c l.c (λ f. HintsBy f l.initial.hintprocessors l.initial.hintmoves l.hintprocessors l.hintmoves)

abbrev pub decreases-loop-c : goal.decreases-loop-c
decreases-loop-c l = 128 - reached l.c
