-- `build`. The loop's invariant: the channels from c on are linked at both ends, and the tasks have their parents, in the table that is closed.
use Prim.Native.Nat.{◌-◌}
use Rattle.plan_index.proofs.user_table.Stages.{Stage, closed}
use Rattle.plan_index.proofs.user_table.users.build.Given as goal

abbrev pub invariant-loop-c : goal.invariant-loop-c
invariant-loop-c l =
    Stage l.senders l.receivers l.parents (l.c - 1) (closed l.users l.sent l.received)
