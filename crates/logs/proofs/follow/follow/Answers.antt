use mathlib.Core.Path.{◌≡◌, refl, sym, ◌∙◌}
use mathlib.Core.Bool.{Bool, true}
use Prim.Native.Nat.{ℕ, ◌≤◌}
use native.Mathlib.Omega.{arith}
use Rattle.std.proofs.Common.{rules}
use Rattle.base.specs.Choice.{within}
use Rattle.base.proofs.Tests.{within_high}
use Rattle.rules.specs.LogFiles.{records_in}
use Rattle.logs.proofs.Linking.{records_few}
use Rattle.logs.proofs.Following.{stage_first, stage_agrees, stage_differs, stage_last, stage_refused, some}
use Rattle.logs.proofs.follow.follow.Goals as goal
use Rattle.logs.proofs.follow.follow.Goals.{then-matches, else-matches}

pub loop-k-init : goal.loop-k-init
loop-k-init c = stage_first c.args.sent.now c.args.received.now c.args.links.first (c.requires.2.first c.requires.3)

pub channel-c-requires : goal.channel-c-requires
channel-c-requires c = omega (arith, records_few c.args.received.now c.requires.1)

pub returns-then-not-contains : goal.returns-then-not-contains
returns-then-not-contains c =
    let test : c.contains.result ≡ within 1 128 c.channel-c.result = search rules in
    stage_refused c.args.sent.now c.args.received.now c.loop-k.k (omega arith) (rw c.channel-c.ensures at (sym test ∙ c.if-not-contains.true))

pub matches-requires : goal.matches-requires
matches-requires c =
    let test : c.contains.result ≡ within 1 128 c.channel-c.result = search rules in
    let few = within_high 1 128 c.channel-c.result (sym test ∙ c.if-not-contains.false) in
    (omega (arith, records_few c.args.received.now c.requires.1), omega (arith, c.loop-k.invariant.few c.channel-c.result few, records_few c.args.sent.now c.requires.0))

pub overflow_sub-places : goal.overflow_sub-places
overflow_sub-places c =
    let a = c.args in
    let test : c.contains.result ≡ within 1 128 c.channel-c.result = search rules in
    let fine = sym test ∙ c.if-not-contains.false in
    omega (
      arith,
      some a.sent.now a.received.now c.loop-k.k c.loop-k.places c.loop-k.lowest c.loop-k.invariant c.channel-c.result c.channel-c.ensures fine
          (sym c.matches.ensures ∙ c.if-matches.true) a.links.next (c.requires.2.next c.requires.3) (records_few a.sent.now c.requires.0),
    )

pub bounds-next-place : goal.bounds-next-place
bounds-next-place c =
    let test : c.contains.result ≡ within 1 128 c.channel-c.result = search rules in
    let few = within_high 1 128 c.channel-c.result (sym test ∙ c.if-not-contains.false) in
    omega (arith, c.loop-k.invariant.few c.channel-c.result few, records_few c.args.sent.now c.requires.0)

pub loop-k-preserved : goal.loop-k-preserved
loop-k-preserved c =
    let a = c.args in
    let l = c.loop-k in
    let test : c.contains.result ≡ within 1 128 c.channel-c.result = search rules in
    let fine = sym test ∙ c.if-not-contains.false in
    elim c.if-matches.branch [
      | then-matches w ↦
          rw (w.places-is, w.lowest-is)
          (stage_agrees a.sent.now a.received.now l.k l.places l.lowest l.invariant c.channel-c.result c.channel-c.ensures fine (sym w.if-matches.ensures) a.links.next
          (c.requires.2.next c.requires.3) (records_few a.sent.now c.requires.0))
      | else-matches w ↦
          rw (w.places-is, w.lowest-is, w.lower-lowest.ensures)
          (stage_differs a.sent.now a.received.now l.k l.places l.lowest l.invariant c.channel-c.result c.channel-c.ensures fine (sym w.if-matches.ensures))
    ]

pub verdict-requires : goal.verdict-requires
verdict-requires c = c.loop-k.invariant.low.few

pub returns : goal.returns
returns c =
    let a = c.args in
    let e : c.loop-k.k ≡ records_in a.received.now = omega arith in
    c.verdict.ensures ∙ stage_last a.sent.now a.received.now c.loop-k.places c.loop-k.lowest (rw e at c.loop-k.invariant)
