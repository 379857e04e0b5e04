use mathlib.Core.Path.{◌≡◌, refl, sym, ap, subst, ◌∙◌}
use mathlib.Core.List.{List, map}
use Prim.Native.Nat.{ℕ, ◌*◌, ◌≤◌, ◌<◌}
use native.Mathlib.Omega.{arith}
use lib.ListN.{length, get_or, length-map}
use lib.Seq.{paste}
use Rattle.base.proofs.Tables.{length_table}
use Rattle.plan.specs.Layout.{count_of}
use Rattle.plan.specs.Programs.{Program, Programs, program_at, code_of}
use Rattle.plan.specs.Repeats.{written_out, written_out_plan}
use Rattle.plan_value.proofs.Sized.{few_tasks, count_few}
use Rattle.plan_file.specs.Code.{code_place, programs_in, codes_to}
use Rattle.plan_file.proofs.Instructions.{code_tasks, place_first, place_row, place_below, no_codes}
use Rattle.convert.specs.Tasks.{task_in, Fine, AllFine, WrittenTask}
use Rattle.convert.proofs.Slots.{counts_none, counts_more, all_filled, task_slots, task_is, task_fine, written_at}
use Rattle.convert.proofs.out.write_out.Goals as goal

pub loop-k-init : goal.loop-k-init
loop-k-init c =
    let a = c.args in
    let m = written_out_plan (programs_in a.file.now a.tasks a.lengths.now) in (
      refl,
      few_tasks a.tasks a.lengths.now c.requires.0.sizes,
      place_first a.lengths.now,
      c.requires.2 ∙ counts_none m,
      c.requires.3 ∙ no_codes m ∙ ap (codes_to m) (omega arith),
    )

-- the written-out task that was written, and how short it is
module _ (b : List ℕ) (n : ℕ) (lengths : List ℕ) (k : ℕ) (task : k < n) {at count : ℕ} (place : at ≡ code_place lengths k 0) (counted : count ≡ get_or lengths k 0) where
  abbrev m : Programs
  m = programs_in b n lengths

  is : task_in b at count ≡ program_at m k
  is = task_is b n lengths k task place counted

  fine : AllFine m → Fine (task_in b at count)
  fine all = subst Fine (sym is) (task_fine m all k (rw (code_tasks b n lengths) task))

  short : AllFine m → count_of (written_out_plan m) k ≤ 64
  short all = rw (written_at m k) (task_fine m all k (rw (code_tasks b n lengths) task)).short

  written : {before after : List ℕ} {w : ℕ} → WrittenTask (written_out (task_in b at count)) (64 * k) before w after
      → WrittenTask (program_at (written_out_plan m) k) (64 * k) before w after
  written {before} {after} {w} q = subst (λ (g : Program). WrittenTask g (64 * k) before w after) (ap written_out is ∙ sym (written_at m k)) q

pub write_task-w-requires : goal.write_task-w-requires
write_task-w-requires c =
    let a = c.args in
    let k = c.loop-k.k in
    let task : k < a.tasks = omega arith in
    let size : length c.loop-k.codes ≡ 4096 = rw c.loop-k.invariant.4 (length_table 4096 _) in (
      count_few a.tasks a.lengths.now c.requires.0.sizes k task,
      omega (arith, c.loop-k.invariant.2, c.requires.0.bytes, place_below a.lengths.now a.tasks k task),
      omega arith,
      size,
      fine a.file.now a.tasks a.lengths.now k task c.loop-k.invariant.2 refl c.requires.1,
    )

pub overflow_cast-counts : goal.overflow_cast-counts
overflow_cast-counts c =
    let a = c.args in
    let k = c.loop-k.k in
    let task : k < a.tasks = omega arith in
    let q = written a.file.now a.tasks a.lengths.now k task c.loop-k.invariant.2 refl c.write_task-w.ensures in
    omega (arith, q.count, short a.file.now a.tasks a.lengths.now k task c.loop-k.invariant.2 refl c.requires.1)

pub overflow_mul-at : goal.overflow_mul-at
overflow_mul-at c =
    let a = c.args in
    let task : c.loop-k.k < a.tasks = omega arith in
    omega (arith, count_few a.tasks a.lengths.now c.requires.0.sizes c.loop-k.k task)

pub overflow_add-at : goal.overflow_add-at
overflow_add-at c =
    let a = c.args in
    let k = c.loop-k.k in
    let task : k < a.tasks = omega arith in
    omega (arith, c.loop-k.invariant.2, c.requires.0.bytes, place_below a.lengths.now a.tasks k task)

pub loop-k-preserved : goal.loop-k-preserved
loop-k-preserved c =
    let a = c.args in
    let k = c.loop-k.k in
    let task : k < a.tasks = omega arith in
    let inv = c.loop-k.invariant in
    let all = written_out_plan (programs_in a.file.now a.tasks a.lengths.now) in
    let q = written a.file.now a.tasks a.lengths.now k task inv.2 refl c.write_task-w.ensures in
    let few = short a.file.now a.tasks a.lengths.now k task inv.2 refl c.requires.1 in (
      refl,
      inv.1,
      omega (arith, inv.2, place_row a.lengths.now k),
      counts_more all k (omega arith) inv.3 q.count,
      q.slots
          ∙ ap (λ (d : List ℕ). paste d (64 * k) (map code_of (program_at all k)) (count_of all k)) inv.4
          ∙ task_slots all k (omega arith) few,
    )

pub returns : goal.returns
returns c =
    let a = c.args in
    let x = programs_in a.file.now a.tasks a.lengths.now in
    let size = length-map x written_out ∙ code_tasks a.file.now a.tasks a.lengths.now in
    let e : c.loop-k.k ≡ length (written_out_plan x) = omega (arith, size) in
    all_filled (written_out_plan x) (omega (arith, size)) (c.loop-k.invariant.3 ∙ rw e refl) (c.loop-k.invariant.4 ∙ rw e refl)
