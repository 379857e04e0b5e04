-- What an accepting answer says, of a plan and of a file, test by test, and the other way round.
use mathlib.Core.Path.{◌≡◌, refl, ◌∙◌}
use mathlib.Core.Bool.{Bool, true, false, ◌&&◌}
use mathlib.Core.List.{List, []}
use Prim.Native.Nat.{ℕ, ◌+◌, ◌*◌, ◌<◌, ◌≤◌}
use native.Mathlib.Omega.{arith}
use lib.ListN.{length}
use lib.Dec.{eqb, leb}
use borrow.Author.Tests.{leb-true, le-leb, eqb-true, eq-eqb}
use Rattle.std.specs.Prelude.{Ok, Err}
use Rattle.base.specs.Choice.{unless}
use Rattle.base.specs.Range.{below, sum_below}
use Rattle.base.specs.Lists.{every, table}
use Rattle.base.proofs.Tests.{and_left, and_right, and_both, within_low, within_high, within_both, below_at, below_all, every_at}
use Rattle.base.proofs.Tables.{as_table, every_table}
use Rattle.plan.specs.declared.Refusal.{Refusal}
use Rattle.plan.specs.declared.Refusal.TheVariants.{BadLayout, BadInstruction}
use Rattle.plan.specs.Answers.{PlanAnswer}
use Rattle.plan.specs.Programs.{Program, Programs, program_at}
use Rattle.plan.specs.Layout.{offset_due, count_of}
use Rattle.plan.specs.Refusals.{size_ok, sizes_ok, instructions_ok, structure_answer, plan_answer}
use Rattle.plan.specs.Files.{file_tasks, file_total, file_offset, file_count, count_ok, offset_ok, layout_ok, file_programs, file_answer}

-- an answer that accepts has passed the test and what comes behind it
pub unless_accepted : (ok : Bool) (r : Refusal) (rest : PlanAnswer) → unless ok (Err r) rest ≡ Ok tt → (ok ≡ true) × (rest ≡ Ok tt)
unless_accepted true r rest h = (refl, h)
unless_accepted false r rest h = let z : ◌≡◌ {A = ℕ} 0 1 = cc in absurd (omega arith)

pub unless_passed : (ok : Bool) (r : Refusal) (rest : PlanAnswer) → ok ≡ true → rest ≡ Ok tt → unless ok (Err r) rest ≡ Ok tt
unless_passed ok r rest p q = rw p q

pub and_parts : (x y : Bool) → x && y ≡ true → (x ≡ true) × (y ≡ true)
and_parts x y h = (and_left x y h, and_right x y h)

-- an accepted plan
pub record PlanPassed (m : Programs) : Type 0 where
  pub sizes : sizes_ok m ≡ true
  pub instructions : instructions_ok m ≡ true
  pub structure : structure_answer m ≡ Ok tt

pub plan_passed : (m : Programs) → plan_answer m ≡ Ok tt → PlanPassed m
unfolding plan_answer
plan_passed m h =
    let (s, r) = unless_accepted (sizes_ok m) BadLayout _ h in
    let (i, t) = unless_accepted (instructions_ok m) BadInstruction _ r in
    record { sizes = s; instructions = i; structure = t }

pub plan_accepted : (m : Programs) → PlanPassed m → plan_answer m ≡ Ok tt
unfolding plan_answer
plan_accepted m h =
    unless_passed (sizes_ok m) BadLayout _ h.sizes (unless_passed (instructions_ok m) BadInstruction _ h.instructions h.structure)

-- an accepted file
pub record FilePassed (b : List ℕ) : Type 0 where
  pub layout : layout_ok b ≡ true
  pub instructions : instructions_ok (file_programs b) ≡ true
  pub structure : structure_answer (file_programs b) ≡ Ok tt

pub file_passed : (b : List ℕ) → file_answer b ≡ Ok tt → FilePassed b
unfolding file_answer
file_passed b h =
    let (l, r) = unless_accepted (layout_ok b) BadLayout _ h in
    let (i, t) = unless_accepted (instructions_ok (file_programs b)) BadInstruction _ r in
    record { layout = l; instructions = i; structure = t }

pub file_accepted : (b : List ℕ) → FilePassed b → file_answer b ≡ Ok tt
unfolding file_answer
file_accepted b h =
    unless_passed (layout_ok b) BadLayout _ h.layout
    (unless_passed (instructions_ok (file_programs b)) BadInstruction _ h.instructions h.structure)

-- a number of tasks, or of a task's instructions
pub record InRange (n : ℕ) : Type 0 where
  pub some : 1 ≤ n
  pub few : n ≤ 64

pub in_range : (n : ℕ) → size_ok n ≡ true → InRange n
in_range n h = record { some = within_low 1 64 n h; few = within_high 1 64 n h }

pub in_range_ok : (n : ℕ) → InRange n → size_ok n ≡ true
in_range_ok n h = within_both 1 64 n h.some h.few

-- programs in range
pub record Sized (m : Programs) : Type 0 where
  pub tasks : InRange (length m)
  pub counts : (k : ℕ) → k < length m → InRange (count_of m k)

pub sized : (m : Programs) → sizes_ok m ≡ true → Sized m
unfolding sizes_ok
sized m h =
    let q : Program → Bool = λ g. size_ok (length g) in
    let (t, c) = and_parts (size_ok (length m)) (every q m) h in
    record { tasks = in_range (length m) t; counts = λ k l. in_range (count_of m k) (every_at q m k [] l c) }

pub sized_ok : (m : Programs) → Sized m → sizes_ok m ≡ true
unfolding sizes_ok
sized_ok m h =
    let q : Program → Bool = λ g. size_ok (length g) in
    let all : below (length m) (λ k. q (program_at m k)) ≡ true = below_all _ (length m) (λ k l. in_range_ok (count_of m k) (h.counts k l)) in
    let each : every q (table (length m) (program_at m)) ≡ true = every_table q (length m) (program_at m) ∙ all in
    and_both (size_ok (length m)) (every q m) (in_range_ok (length m) h.tasks) (rw (as_table m []) at each)

-- a file whose header is right
pub record Laid (b : List ℕ) : Type 0 where
  pub enough : 4 ≤ length b
  pub tasks : InRange (file_tasks b)
  pub counts : (k : ℕ) → k < file_tasks b → InRange (file_count b k)
  pub offsets : (k : ℕ) → k < file_tasks b → file_offset b k ≡ offset_due (file_tasks b) (file_count b) k
  pub total : file_total b ≡ sum_below (file_tasks b) (file_count b)
  pub size : length b ≡ 4 + 4 * file_tasks b + 4 * file_total b

pub laid : (b : List ℕ) → layout_ok b ≡ true → Laid b
unfolding layout_ok
laid b h =
    let (e, h₁) = and_parts (leb 4 (length b)) _ h in
    let (t, h₂) = and_parts (size_ok (file_tasks b)) _ h₁ in
    let (c, h₃) = and_parts (below (file_tasks b) (count_ok b)) _ h₂ in
    let (n, h₄) = and_parts (eqb (file_total b) (sum_below (file_tasks b) (file_count b))) _ h₃ in
    let (o, z) = and_parts (below (file_tasks b) (offset_ok b)) _ h₄ in
    record {
      enough = leb-true _ _ e;
      tasks = in_range (file_tasks b) t;
      counts = λ k l. in_range (file_count b k) (below_at (count_ok b) (file_tasks b) k l c);
      offsets = λ k l. eqb-true _ _ (below_at (offset_ok b) (file_tasks b) k l o);
      total = eqb-true _ _ n;
      size = eqb-true _ _ z;
    }

pub laid_ok : (b : List ℕ) → Laid b → layout_ok b ≡ true
unfolding layout_ok
laid_ok b h =
    and_both (leb 4 (length b)) _ (le-leb 4 (length b) h.enough)
    (and_both (size_ok (file_tasks b)) _ (in_range_ok (file_tasks b) h.tasks)
    (and_both (below (file_tasks b) (count_ok b)) _ (below_all (count_ok b) (file_tasks b) (λ k l. in_range_ok (file_count b k) (h.counts k l)))
    (and_both (eqb (file_total b) (sum_below (file_tasks b) (file_count b))) _ (eq-eqb _ _ h.total)
    (and_both (below (file_tasks b) (offset_ok b)) _ (below_all (offset_ok b) (file_tasks b) (λ k l. eq-eqb _ _ (h.offsets k l)))
    (eq-eqb _ _ h.size)))))
