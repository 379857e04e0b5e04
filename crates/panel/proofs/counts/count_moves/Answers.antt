use mathlib.Core.Path.{◌≡◌}
use Prim.Native.Nat.{suc, ◌+◌, ◌*◌}
use native.Mathlib.Numerals.{add-one}
use native.Mathlib.Omega.{arith}
use Rattle.base.specs.Range.{fold}
use Rattle.panel_laws.specs.Tallies.{moves_of}
use Rattle.panel.proofs.Counting.{few_below, counted_none, counted_joined}
use Rattle.panel.proofs.counts.count_moves.Goals as goal

pub loop-k-init : goal.loop-k-init
unfolding fold
loop-k-init c = (few_below (omega arith) c.requires.2, λ r h. counted_none r _)

pub count_moves_of-q-requires : goal.count_moves_of-q-requires
count_moves_of-q-requires c = (omega arith, omega arith, few_below (omega arith) c.loop-k.invariant.0)

pub loop-k-preserved : goal.loop-k-preserved
loop-k-preserved c =
    let k = c.loop-k.k in
    let n = c.args.n.processors in
    let e = c.count_moves_of-q.ensures in (
      few_below (omega arith) (e.0 (320 + 6 * k) c.loop-k.invariant.0),
      λ r h. counted_joined r (λ t. moves_of (suc t) n) k (c.loop-k.invariant.1 r h) (rw (add-one k) at (e.1 r h)),
    )

pub returns : goal.returns
returns c r h =
    let all : c.loop-k.k ≡ c.args.n.tasks = omega arith in
    rw all at (c.loop-k.invariant.1 r h)
