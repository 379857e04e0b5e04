-- `post_letters`. The loop's invariant: the letters of the first j rounds are put.
use mathlib.Core.Path.{◌≡◌}
use Prim.Native.Nat.{◌≤◌}
use lib.ListN.{length}
use Rattle.rig_write.proofs.Posts.{Rounds}
use Rattle.rig_write.proofs.mail.post_letters.Given as goal

abbrev pub invariant-loop-j : goal.invariant-loop-j
invariant-loop-j l =
    (l.j ≤ l.rounds) × (length l.mail ≡ length l.initial.mail) × Rounds l.x l.initial.mail l.used l.j l.free l.mail
