-- The plan file in an image: how long it is, that it is the file of the plan that it holds, and that the file of a plan holds that plan.
use mathlib.Core.Path.{◌≡◌, refl, sym, ◌∙◌, ap}
use mathlib.Core.List.{List, []}
use Prim.Native.Nat.{ℕ, ◌≤◌}
use native.Mathlib.Omega.{arith}
use lib.ListN.{length}
use Rattle.std.specs.Prelude.{Ok, Err}
use Rattle.base.specs.Choice.{pick}
use Rattle.base.specs.Range.{fold}
use Rattle.base.proofs.Sums.{sum_at_most}
use Rattle.plan.specs.declared.Plan.{Plan}
use Rattle.plan.specs.Answers.{PlanAnswer}
use Rattle.plan.specs.Answers.{is_accepted}
use Rattle.plan.specs.Programs.{Programs, programs, canonical}
use Rattle.plan.specs.Layout.{layout}
use Rattle.plan.specs.Refusals.{plan_answer}
use Rattle.plan.specs.Files.{file_tasks, file_count, file_programs, file_answer}
use Rattle.plan.specs.Outcomes.{plan_read}
use Rattle.plan_laws.specs.Bytes.{Bytes}
use Rattle.plan_laws.proofs.Answers.{file_passed, laid}
use Rattle.plan_laws.proofs.Codes.{none_small}
use Rattle.plan_laws.proofs.Canonical.{Fits, fits_meaning, meaning_canonical}
use Rattle.plan_laws.proofs.LayoutRead.{file_plan_lem, layout_read}
use Rattle.plan_laws.proofs.ReadLayout.{read_layout}

-- what is read from an accepted file
pub read_plan : (f : List ℕ) → file_answer f ≡ Ok tt → (plan_read f).plan ≡ canonical (file_programs f)
unfolding plan_read
read_plan f h = rw h refl

-- 4 bytes, 4 for each of 64 tasks, 4 for each of 4,096 instructions
file_size : (f : List ℕ) → file_answer f ≡ Ok tt → length f ≤ 16644
file_size f h =
    let l = laid f (file_passed f h).layout in
    let s = sum_at_most 64 (file_tasks f) (file_count f) (λ k q. (l.counts k q).few) in
    omega (arith, l.tasks.few, l.total, l.size)

pub layout_size : (m : Programs) → plan_answer m ≡ Ok tt → length (layout m) ≤ 16644
layout_size m h = file_size (layout m) (read_layout m h).0

-- the file of what is read is the file
pub plan_back : (f : List ℕ) → Bytes f → file_answer f ≡ Ok tt → layout (programs (plan_read f).plan) ≡ f
plan_back f bytes h =
    let (l, p) = layout_read f bytes h in
    rw (read_plan f h, meaning_canonical (file_programs f) p) l

-- what is read from a file that is refused is no task
no_task_size : length (layout (programs (canonical []))) ≤ 16644
no_task_size =
    let none : Fits [] = record { few = omega arith; short = λ k. omega arith; small = λ s. none_small } in
    rw (fits_meaning [] none) (unfold layout fold in omega arith)

pub plan_size : (f : List ℕ) → length (layout (programs (plan_read f).plan)) ≤ 16644
unfolding plan_read
plan_size f = go (file_answer f) refl
  where
    go : (a : PlanAnswer) → file_answer f ≡ a → length (layout (programs (canonical (pick (is_accepted a) (file_programs f) [])))) ≤ 16644
    go (Ok tt) e = let p = file_plan_lem f e in rw (meaning_canonical (file_programs f) p) (layout_size (file_programs f) p)
    go (Err q) e = no_task_size

-- the file of a plan holds the plan
pub plan_held : (p : Plan) → plan_answer (programs p) ≡ Ok tt → p ≡ canonical (programs p) → (plan_read (layout (programs p))).plan ≡ p
plan_held p h clear =
    let (a, same) = read_layout (programs p) h in
    read_plan (layout (programs p)) a ∙ ap canonical same ∙ sym clear

-- the plan of an accepted file is accepted, and has nothing in unused slots
pub plan_fits : (f : List ℕ) → file_answer f ≡ Ok tt
    → (plan_answer (programs (plan_read f).plan) ≡ Ok tt) × ((plan_read f).plan ≡ canonical (programs (plan_read f).plan))
plan_fits f h =
    let q = read_plan f h in
    let ok = file_plan_lem f h in
    let m : programs (plan_read f).plan ≡ file_programs f = ap programs q ∙ meaning_canonical (file_programs f) ok in
    (rw m ok, q ∙ ap canonical (sym m))
