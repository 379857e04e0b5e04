-- `byte_given`.
use mathlib.Core.Path.{refl}
use borrow.Author.Tests.{le-leb, lt-leb}
use Rattle.live_rig.proofs.given.byte_given.Goals as goal

pub returns-then-n-le255 : goal.returns-then-n-le255
returns-then-n-le255 c = rw (le-leb _ 255 c.if-n-le255.true) refl

pub returns : goal.returns
returns c = rw (lt-leb _ 255 c.if-n-le255.false) refl
