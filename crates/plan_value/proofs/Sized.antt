-- What sizes in range say: of the plan, of the number of tasks and of each count.
use mathlib.Core.Path.{◌≡◌, ap}
use mathlib.Core.Bool.{Bool, true, ◌&&◌}
use mathlib.Core.List.{List}
use Prim.Native.Nat.{ℕ, ◌+◌, ◌*◌, ◌<◌, ◌≤◌}
use lib.ListN.{length, get_or}
use Rattle.base.specs.Range.{below}
use Rattle.base.specs.Lists.{table}
use Rattle.base.proofs.Folds.{fold_same}
use Rattle.base.proofs.Tables.{length_table, every_table}
use Rattle.base.proofs.Tests.{and_left, and_right, within_low, within_high, below_at}
use Rattle.plan.specs.declared.Instruction.{Instruction}
use Rattle.plan.specs.declared.Plan.{Plan}
use Rattle.plan.specs.Programs.{Program, slot_of, programs}
use Rattle.plan.specs.Refusals.{size_ok, sizes_ok}
use Rattle.plan.proofs.Parts.{ruled, ruled_tasks}
use Rattle.plan_value.specs.Sizes.{count_fits, sizes_in}

-- programs given by a rule, with these counts; and so those of a plan value
pub sizes_ruled : (n : ℕ) (lengths : List ℕ) (at : ℕ → ℕ → Instruction) → sizes_ok (ruled n (λ k. get_or lengths k 0) at) ≡ sizes_in n lengths
unfolding sizes_ok
sizes_ruled n lengths at =
    let g : ℕ → Program = λ k. table (get_or lengths k 0) (at k) in
    rw (ruled_tasks n (λ k. get_or lengths k 0) at, every_table (λ g. size_ok (length g)) n g)
    (ap (λ (b : Bool). size_ok n && b)
    (fold_same ◌&&◌ true n (λ k. size_ok (length (g k))) (count_fits lengths) (λ k h. ap size_ok (length_table (get_or lengths k 0) (at k)))))

pub sizes_of : (p : Plan) → sizes_ok (programs p) ≡ sizes_in p.tasks p.lengths
unfolding programs
sizes_of p = sizes_ruled p.tasks p.lengths (λ k i. slot_of p (64 * k + i))

module _ (n : ℕ) (lengths : List ℕ) (sized : sizes_in n lengths ≡ true) where
  pub some_tasks : 1 ≤ n
  some_tasks = within_low 1 64 n (and_left (size_ok n) (below n (count_fits lengths)) sized)

  pub few_tasks : n ≤ 64
  few_tasks = within_high 1 64 n (and_left (size_ok n) (below n (count_fits lengths)) sized)

  pub count_few : (k : ℕ) → k < n → get_or lengths k 0 ≤ 64
  count_few k h = within_high 1 64 (get_or lengths k 0) (below_at (count_fits lengths) n k h (and_right (size_ok n) (below n (count_fits lengths)) sized))
