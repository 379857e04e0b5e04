-- `write_head`: version, length, desks, plan file and zeros, each put at its place.
use native.Mathlib.Omega.{arith}
use Rattle.rig_write.proofs.Written.{head_written_lem}
use Rattle.rig_write.proofs.head.write_head.Goals as goal

pub returns : goal.returns
returns c =
    let a = c.args in
    head_written_lem a.rig.now c.requires.0 a.processors a.plan.now _ _ _ _ _ (omega (arith, c.ranges)) c.requires.1
    c.put4.ensures c.put4-2.ensures c.put2.ensures c.put_bytes.ensures c.put_zeros.ensures
