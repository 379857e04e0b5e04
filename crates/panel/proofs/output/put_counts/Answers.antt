use mathlib.Core.Path.{◌≡◌, refl, ap, ◌∙◌}
use mathlib.Core.List.{List, ◌++◌}
use Prim.Native.Nat.{ℕ}
use native.Mathlib.Omega.{arith}
use lib.ListN.{length, drop, get_or, set}
use lib.Seq.{take_all}
use Rattle.panel.proofs.Puts.{put_next}
use Rattle.panel.proofs.output.put_counts.Goals as goal

pub loop-k-init : goal.loop-k-init
loop-k-init c h = refl

pub loop-k-preserved : goal.loop-k-preserved
loop-k-preserved c h =
    let k = c.loop-k.k in
    let a = c.args in
    ap (λ (o : List ℕ). set o k (get_or a.counts k 0)) (c.loop-k.invariant h) ∙ put_next a.out.now a.counts k (omega arith) (omega arith)

pub returns : goal.returns
returns c =
    let long : length c.args.counts ≡ 27 = c.well_formed.1.0.1.0.1 in
    let all : c.loop-k.k ≡ 27 = omega arith in
    (rw all at (c.loop-k.invariant long)) ∙ ap (λ (t : List ℕ). t ++ drop 27 c.args.out.now) (take_all 27 c.args.counts (omega arith))
