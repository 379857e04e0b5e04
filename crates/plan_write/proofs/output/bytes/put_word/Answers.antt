-- `bytes::put_word` puts a field of two bytes.
use native.Mathlib.Omega.{arith}
use lib.ListN.{length-set}
use Rattle.plan_write.proofs.output.Overlay.{two_stores}
use Rattle.plan_write.proofs.output.bytes.put_word.Goals as goal

pub bounds-out-at-2 : goal.bounds-out-at-2
bounds-out-at-2 c = simp length-set (omega arith)

pub returns : goal.returns
returns c = let a = c.args in two_stores a.out.now a.at _ _ c.requires
