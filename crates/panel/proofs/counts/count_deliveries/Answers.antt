use mathlib.Core.Path.{◌≡◌, ap, ◌∙◌}
use Prim.Native.Nat.{ℕ, suc, ◌+◌}
use native.Mathlib.Numerals.{add-one}
use native.Mathlib.Omega.{arith}
use Rattle.base.specs.Lists.{table, table_before}
use Rattle.rules.specs.Steps.{step_answer, deliver_step}
use Rattle.panel_laws.proofs.Tallies.{number_few}
use Rattle.panel.proofs.Counting.{few_more, few_below, counted_none, counted_more}
use Rattle.panel.proofs.counts.count_deliveries.Goals as goal

pub loop-k-init : goal.loop-k-init
unfolding table table_before
loop-k-init c = (few_below (omega arith) c.requires, λ r h. counted_none r _)

pub more-q-requires : goal.more-q-requires
more-q-requires c = few_below (omega arith) c.loop-k.invariant.0

pub loop-k-preserved : goal.loop-k-preserved
loop-k-preserved c =
    let k = c.loop-k.k in (
      rw c.more-q.ensures (few_below (omega arith) (few_more c.loop-k.invariant.0 _ (number_few c.delivery_answer.result))),
      λ r h.
          counted_more r (λ p. deliver_step (suc p)) k c.delivery_answer.result (c.loop-k.invariant.1 r h)
          (c.delivery_answer.ensures ∙ h (k + 1) ∙ ap (λ (p : ℕ). step_answer r (deliver_step p)) (add-one k))
          c.more-q.ensures,
    )

pub returns : goal.returns
returns c =
    let all : c.loop-k.k ≡ 256 = omega arith in
    (few_below (omega arith) c.loop-k.invariant.0, λ r h. rw all at (c.loop-k.invariant.1 r h))
