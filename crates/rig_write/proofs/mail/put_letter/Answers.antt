-- `put_letter`: its two numbers, one behind the other.
use Prim.Native.Nat.{◌*◌}
use native.Mathlib.Omega.{arith}
use Rattle.rig_write.proofs.Posts.{letter_put}
use Rattle.rig_write.proofs.mail.put_letter.Goals as goal

pub returns : goal.returns
returns c =
    let a = c.args in
    letter_put a.mail.now _ _ (16 * a.free) a.m _ _ (omega arith) c.put8.ensures c.put8-2.ensures c.first_number.ensures c.second_number.ensures
