use mathlib.Core.Path.{◌≡◌, sym, ◌∙◌}
use native.Mathlib.Omega.{arith}
use Rattle.base.proofs.Tests.{below_none, below_more}
use Rattle.rig_read.proofs.Mail.{mail_over, mail_stops, mail_ends}
use Rattle.rig_read.proofs.check.mail.mail_ok.Goals as goal

pub returns-then-used-gt256 : goal.returns-then-used-gt256
returns-then-used-gt256 c = let a = c.args in mail_over a.n a.m a.rig.now (omega (arith, c.requires.1, c.if-used-gt256.true))

pub loop-k-init : goal.loop-k-init
loop-k-init c = below_none _

pub returns-then-not-slot_ok : goal.returns-then-not-slot_ok
returns-then-not-slot_ok c =
    let a = c.args in
    let e = rw (c.number8-v.ensures, c.number8-w.ensures) at c.slot_ok.ensures in
    mail_stops a.n a.m a.rig.now (omega arith) c.loop-k.k (omega arith) (sym e ∙ c.if-not-slot_ok.true)

pub loop-k-preserved : goal.loop-k-preserved
loop-k-preserved c =
    let a = c.args in
    let e = rw (c.number8-v.ensures, c.number8-w.ensures) at c.slot_ok.ensures in
    below_more _ c.loop-k.k c.loop-k.invariant (sym e ∙ c.if-not-slot_ok.false)

pub returns : goal.returns
returns c =
    let l = c.loop-k in
    let a = c.args in
    let u = c.requires.1 in
    let q : l.k ≡ a.used = omega arith in
    c.zeros_at.ensures
    ∙ rw u (mail_ends a.n a.m a.rig.now (omega arith) (rw (← u) (rw q at l.invariant)))
