-- `emit_bytes` writes four bytes, if they fit.
use Prim.Native.Nat.{◌+◌, ◌≤◌}
use native.Mathlib.Omega.{arith}
use lib.ListN.{length, length-set}
use Rattle.dispatch.proofs.Bytes.{no_bytes, four_bytes}
use Rattle.dispatch.proofs.choose.bytes.emit_bytes.Goals as goal
use Rattle.dispatch.proofs.choose.bytes.emit_bytes.Goals.{Else-out-filled-lt4}

-- there is room for them
room : (c : Else-out-filled-lt4) → c.args.filled + 4 ≤ length c.args.out.now
room c = omega (arith, c.if-out-filled-lt4.false, c.requires)

pub returns-then-out-filled-lt4 : goal.returns-then-out-filled-lt4
returns-then-out-filled-lt4 c = no_bytes _ _ _ c.if-out-filled-lt4.true c.requires

pub bounds-out-filled-2 : goal.bounds-out-filled-2
bounds-out-filled-2 c = simp length-set (omega (arith, room c))

pub bounds-out-filled-3 : goal.bounds-out-filled-3
bounds-out-filled-3 c = simp length-set (omega (arith, room c.before))

pub bounds-out-filled-4 : goal.bounds-out-filled-4
bounds-out-filled-4 c = simp length-set (omega (arith, room c.before.before))

pub returns : goal.returns
returns c = four_bytes _ _ _ (room c.before.before)
