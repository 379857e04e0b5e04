use mathlib.Core.Path.{◌≡◌, ap, ◌∙◌}
use Prim.Native.Nat.{ℕ, suc, ◌+◌}
use native.Mathlib.Numerals.{add-one}
use native.Mathlib.Omega.{arith}
use Rattle.base.specs.Lists.{table, table_before}
use Rattle.rules.specs.Steps.{step_answer, run_step}
use Rattle.panel_laws.proofs.Tallies.{number_few}
use Rattle.panel.proofs.Counting.{few_more, few_below, counted_none, counted_more}
use Rattle.panel.proofs.counts.count_runs.Goals as goal

pub loop-k-init : goal.loop-k-init
unfolding table table_before
loop-k-init c = (c.requires.2, λ r h. counted_none r _)

pub run_answer-a-requires : goal.run_answer-a-requires
run_answer-a-requires c = c.requires.0

pub more-q-requires : goal.more-q-requires
more-q-requires c = few_below (omega arith) c.loop-k.invariant.0

pub loop-k-preserved : goal.loop-k-preserved
loop-k-preserved c =
    let k = c.loop-k.k in
    let a = c.run_answer-a.result in (
      rw c.more-q.ensures (few_more c.loop-k.invariant.0 _ (number_few a)),
      λ r h.
          counted_more r (λ t. run_step (suc t)) k a (c.loop-k.invariant.1 r h)
          (c.run_answer-a.ensures ∙ h (k + 1) ∙ ap (λ (t : ℕ). step_answer r (run_step t)) (add-one k))
          c.more-q.ensures,
    )

pub returns : goal.returns
returns c =
    let all : c.loop-k.k ≡ c.args.n.tasks = omega arith in
    (few_below (omega arith) c.loop-k.invariant.0, λ r h. rw all at (c.loop-k.invariant.1 r h))
