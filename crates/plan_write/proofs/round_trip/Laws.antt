-- The round trips, from what reading and writing ensure.
use mathlib.Core.Path.{◌≡◌, refl, sym, ◌∙◌, ap}
use mathlib.Core.Bool.{Bool, true, false}
use mathlib.Core.List.{List}
use Prim.Native.Nat.{ℕ, ◌≤◌}
use native.Mathlib.Omega.{arith}
use lib.ListN.{length, take}
use lib.Dec.{leb}
use borrow.Author.Tests.{leb-true}
use Rattle.std.specs.Prelude.{Ok, Err}
use Rattle.base.specs.Choice.{unless}
use Rattle.plan.specs.declared.Plan.{Plan}
use Rattle.plan.specs.declared.PlanRead.{PlanRead}
use Rattle.plan.specs.declared.Refusal.{Refusal}
use Rattle.plan.specs.declared.Refusal.TheVariants.{OutputShort}
use Rattle.plan.specs.Answers.{PlanAnswer}
use Rattle.plan.specs.Answers.{WriteAnswer}
use Rattle.plan.specs.Programs.{Programs, programs}
use Rattle.plan.specs.Refusals.{plan_answer}
use Rattle.plan.specs.Layout.{layout}
use Rattle.plan.specs.Outcomes.{WritePlan, plan_read, write_answer_after, write_answer, write_output}
use Rattle.plan_laws.specs.Bytes.{Bytes}
use Rattle.plan_laws.proofs.RoundTrip.{read_answer, written, write_after_read, read_after_write, read_after_write_clear}
use Rattle.plan_write.specs.round_trip.Trips.{Rewritten, Reread}

pub rewritten : (b before : List ℕ) (r : WriteAnswer) (after : List ℕ) (q : PlanRead) → Bytes b → q ≡ plan_read b
    → WritePlan (programs q.plan) before r after
    → Rewritten b before r after
rewritten b before r after q bytes e w =
    record {
      answer = λ h f. w.answer ∙ ap (λ (x : PlanRead). write_answer (programs x.plan) before) e ∙ (write_after_read b before bytes (read_answer b ∙ h) f).0;
      bytes = λ h f. w.bytes ∙ ap (λ (x : PlanRead). write_output (programs x.plan) before) e ∙ (write_after_read b before bytes (read_answer b ∙ h) f).1;
    }

-- what was written is within the output
pub within_output : (m : Programs) (before after : List ℕ) (a : WriteAnswer) (n : ℕ) → WritePlan m before a after → a ≡ Ok n → n ≤ length before
unfolding write_answer
within_output m before after a n w e = go (plan_answer m) (sym w.answer ∙ e)
  where
    fits : (t : Bool) (size : ℕ) → leb size (length before) ≡ t → unless t (Err OutputShort) (Ok size) ≡ Ok n → n ≤ length before
    fits true size e q = let s : size ≡ n = cc in rw s at (leb-true size (length before) e)
    fits false size e q = let z : ◌≡◌ {A = ℕ} 0 1 = cc in absurd (omega arith)

    go : (a : PlanAnswer) → write_answer_after a (length (layout m)) (length before) ≡ Ok n → n ≤ length before
    go (Ok tt) q = fits (leb (length (layout m)) (length before)) (length (layout m)) refl q
    go (Err r) q = let z : ◌≡◌ {A = ℕ} 0 1 = cc in absurd (omega arith)

pub reread : (p : Plan) (before after : List ℕ) (a : WriteAnswer) (n : ℕ) (r : PlanRead) → WritePlan (programs p) before a after → a ≡ Ok n
    → r ≡ plan_read (take n after)
    → Reread p before r
reread p before after a n r w q e =
    let back : r ≡ plan_read (take n (write_output (programs p) before)) = e ∙ ap (λ (l : List ℕ). plan_read (take n l)) w.bytes in
    let wrote : write_answer (programs p) before ≡ Ok n = sym w.answer ∙ q in
    record {
      meaning = λ h f. back ∙ read_after_write p before n wrote;
      value = λ h f clear. back ∙ read_after_write_clear p before n clear wrote;
    }

-- where nothing was written, the plan was refused or did not fit
pub unread : (p : Plan) (before after : List ℕ) (a : WriteAnswer) (x : Refusal) (r : PlanRead) → WritePlan (programs p) before a after → a ≡ Err x
    → Reread p before r
unread p before after a x r w e =
    let never : plan_answer (programs p) ≡ Ok tt → length (layout (programs p)) ≤ length before → ⊥ =
    λ h f. let q = sym e ∙ w.answer ∙ written (programs p) before h f in let z : ◌≡◌ {A = ℕ} 0 1 = cc in omega arith in
    record { meaning = λ h f. absurd (never h f); value = λ h f clear. absurd (never h f) }
