use mathlib.Core.Path.{◌≡◌, ap, ◌∙◌}
use Prim.Native.Nat.{◌+◌, ◌*◌, ◌-◌}
use native.Mathlib.Omega.{arith}
use Rattle.rig_write.proofs.Shift.{shifted}
use Rattle.rig_write.proofs.Taken.{none_taken, letter_taken}
use Rattle.rig_write.proofs.mail.take_letter.Goals as goal

pub returns-then-p-eq0 : goal.returns-then-p-eq0
returns-then-p-eq0 c = let a = c.args in (omega arith, none_taken a.mail.now a.p a.used c.if-p-eq0.true)

pub returns : goal.returns
returns c =
    let a = c.args in
    let at = 16 * (a.p - 1) in
    let n = 16 * (a.used - a.p) in
    let e : at + 16 + n - (at + 16) ≡ n = omega arith in (
      omega arith,
      letter_taken a.mail.now _ _ a.p a.used (omega arith) (omega arith)
          (c.copy_within.ensures.after ∙ ap (shifted a.mail.now at 16) e) c.put_zeros.ensures,
    )
