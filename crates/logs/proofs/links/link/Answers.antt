use mathlib.Core.Path.{◌≡◌, sym, ◌∙◌}
use mathlib.Core.Bool.{true}
use Prim.Native.Nat.{ℕ, ◌+◌, ◌-◌, ◌≤◌}
use native.Mathlib.Omega.{arith}
use Rattle.std.proofs.Common.{rules}
use Rattle.base.specs.Choice.{within}
use Rattle.logs.proofs.Linking.{stage_first, stage_next, stage_last, stage_refused, records_few}
use Rattle.logs.proofs.links.link.Goals as goal

pub loop-k-init : goal.loop-k-init
loop-k-init c = stage_first c.args.log.now

pub channel-c-requires : goal.channel-c-requires
channel-c-requires c = omega (arith, records_few c.args.log.now c.requires, c.loop-k.invariant.few)

pub returns-then-not-contains : goal.returns-then-not-contains
returns-then-not-contains c =
    let test : c.contains.result ≡ within 1 128 c.channel-c.result = search rules in
    stage_refused c.args.log.now (c.loop-k.k - 1) (omega (arith, c.loop-k.invariant.few)) (rw c.channel-c.ensures at (sym test ∙ c.if-not-contains.true)) c.loop-k.first c.loop-k.next

pub bounds-next-k : goal.bounds-next-k
bounds-next-k c = omega (arith, records_few c.args.log.now c.requires, c.loop-k.invariant.few)

pub overflow_cast-first : goal.overflow_cast-first
overflow_cast-first c = omega (arith, records_few c.args.log.now c.requires, c.loop-k.invariant.few)

pub overflow_add-first : goal.overflow_add-first
overflow_add-first c = omega (arith, records_few c.args.log.now c.requires, c.loop-k.invariant.few)

pub loop-k-preserved : goal.loop-k-preserved
loop-k-preserved c =
    let b = c.args.log.now in
    let k = c.loop-k.k in
    let test : c.contains.result ≡ within 1 128 c.channel-c.result = search rules in
    let place : k - 1 + 1 ≡ k = omega arith in
    rw place
    (stage_next b k c.channel-c.result c.loop-k.first c.loop-k.next c.loop-k.invariant (records_few b c.requires) (omega arith) c.channel-c.ensures
    (sym test ∙ c.if-not-contains.false))

pub returns : goal.returns
returns c =
    let e : c.loop-k.k ≡ 0 = omega arith in
    stage_last c.args.log.now c.loop-k.first c.loop-k.next (rw e at c.loop-k.invariant)
