use mathlib.Core.Path.{◌≡◌, ap, ◌∙◌}
use Prim.Native.Nat.{ℕ, suc, ◌+◌}
use native.Mathlib.Numerals.{add-one}
use native.Mathlib.Omega.{arith}
use Rattle.base.specs.Lists.{table, table_before}
use Rattle.rules.specs.Steps.{step_answer, move_step}
use Rattle.panel_laws.proofs.Tallies.{number_few}
use Rattle.panel.proofs.Counting.{few_more, few_below, counted_none, counted_more}
use Rattle.panel.proofs.counts.count_moves_of.Goals as goal

pub loop-k-init : goal.loop-k-init
unfolding table table_before
loop-k-init c = (λ l f. few_below (omega arith) f, λ r h. counted_none r _)

pub more-q-requires : goal.more-q-requires
more-q-requires c = few_below (omega arith) (c.loop-k.invariant.0 698 c.requires.2)

pub loop-k-preserved : goal.loop-k-preserved
loop-k-preserved c =
    let k = c.loop-k.k in
    let t = c.args.t in (
      λ m f. rw c.more-q.ensures (few_below (omega arith) (few_more (c.loop-k.invariant.0 m f) _ (number_few c.move_refusal.result))),
      λ r h.
          counted_more r (λ e. move_step t (suc e)) k c.move_refusal.result (c.loop-k.invariant.1 r h)
          (c.move_refusal.ensures ∙ h t (k + 1) ∙ ap (λ (e : ℕ). step_answer r (move_step t e)) (add-one k))
          c.more-q.ensures,
    )

pub returns : goal.returns
returns c =
    let all : c.loop-k.k ≡ c.args.n.processors = omega arith in
    (λ m f. few_below (omega arith) (c.loop-k.invariant.0 m f), λ r h. rw all at (c.loop-k.invariant.1 r h))
