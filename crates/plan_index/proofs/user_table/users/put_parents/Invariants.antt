-- `put_parents`. The loop's invariant: the parents of the tasks below t are stored.
use mathlib.Core.Path.{◌≡◌}
use Rattle.plan_index.specs.user_table.Built.{with_parents}
use Rattle.plan_index.proofs.user_table.users.put_parents.Given as goal

abbrev pub invariant-loop-t : goal.invariant-loop-t
invariant-loop-t l = l.users ≡ with_parents l.parents l.t l.initial.users
