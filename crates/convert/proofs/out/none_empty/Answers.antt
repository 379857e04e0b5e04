-- `out::none_empty` asks of each task.
use mathlib.Core.Path.{◌≡◌, refl, ◌∙◌}
use mathlib.Core.Bool.{true, not, ◌&&◌}
use mathlib.Core.Logic.{by_cases}
use Prim.Native.Nat.{ℕ}
use native.Mathlib.Decide.{ℕ_discrete}
use native.Mathlib.Omega.{arith}
use lib.Dec.{eqb, leb}
use lib.ListN.{get_or}
use borrow.Author.Tests.{ne_eqb, le-leb}
use Rattle.base.proofs.Folds.{fold_same}
use Rattle.plan_value.proofs.Changes.{list_all_below}
use Rattle.convert.proofs.out.none_empty.Goals as goal

some_is : (n : ℕ) → not (eqb n 0) ≡ leb 1 n
some_is n = by_cases (ℕ_discrete n 0) (λ (e : n ≡ 0). rw e refl) (λ ne. rw (ne_eqb n 0 ne, le-leb 1 n (omega arith)) refl)

pub returns : goal.returns
returns c =
    let counts = c.args.counts.now in
    c.are_some.ensures
    ∙ list_all_below (λ n. not (eqb n 0)) counts c.args.tasks (omega arith)
    ∙ fold_same ◌&&◌ true c.args.tasks _ (λ k. leb 1 (get_or counts k 0)) (λ k h. some_is (get_or counts k 0))
