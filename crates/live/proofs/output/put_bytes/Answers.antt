-- `put_bytes`: one more byte is put, and at the end all of them are.
use mathlib.Core.Path.{◌≡◌, refl, ap, ◌∙◌}
use mathlib.Core.List.{List, ◌++◌}
use Prim.Native.Nat.{ℕ}
use native.Mathlib.Omega.{arith}
use lib.ListN.{length, drop, get_or, set, length-set}
use lib.Seq.{take-length}
use Rattle.panel.proofs.Puts.{put_next}
use Rattle.live.proofs.output.put_bytes.Goals as goal

pub loop-k-init : goal.loop-k-init
loop-k-init c = (omega arith, refl, refl)

pub loop-k-preserved : goal.loop-k-preserved
loop-k-preserved c =
    let a = c.args in
    let l = c.loop-k in
    let v = get_or a.bytes.now l.k 0 in (
      omega arith,
      length-set l.out l.k v ∙ l.invariant.1,
      ap (λ (o : List ℕ). set o l.k v) l.invariant.2 ∙ put_next a.out.now a.bytes.now l.k (omega arith) (omega arith),
    )

pub returns : goal.returns
returns c =
    let a = c.args in
    let all : c.loop-k.k ≡ length a.bytes.now = omega arith in
    (rw all at c.loop-k.invariant.2) ∙ ap (λ (t : List ℕ). t ++ drop (length a.bytes.now) a.out.now) (take-length a.bytes.now)
