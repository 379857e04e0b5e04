-- `mail_ok` tests each slot in use. The loop's invariant: the first k pass.
use mathlib.Core.Path.{◌≡◌}
use mathlib.Core.Bool.{true}
use Rattle.base.specs.Range.{below}
use Rattle.rig_read.proofs.Mail.{in_use}
use Rattle.rig_read.proofs.check.mail.mail_ok.Given as goal

abbrev pub invariant-loop-k : goal.invariant-loop-k
invariant-loop-k l = below l.k (in_use l.n l.m l.rig) ≡ true
