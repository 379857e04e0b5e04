-- What a header and the programs behind it are read as, by the answer about them.
use mathlib.Core.Path.{◌≡◌, refl, sym, ◌∙◌, ap}
use mathlib.Core.Bool.{Bool, true, false}
use mathlib.Core.List.{List}
use Prim.Native.Nat.{ℕ}
use Rattle.std.specs.Prelude.{Ok, Err}
use Rattle.base.specs.Choice.{unless}
use Rattle.plan.specs.declared.Plan.{Plan}
use Rattle.plan.specs.declared.PlanRead.{PlanRead}
use Rattle.plan.specs.declared.Refusal.{Refusal}
use Rattle.plan.specs.declared.Refusal.TheVariants.{BadLayout}
use Rattle.plan.specs.Answers.{PlanAnswer}
use Rattle.plan.specs.Programs.{Programs, canonical}
use Rattle.plan.specs.Refusals.{plan_answer}
use Rattle.plan_file.specs.declared.header.Header.{Header}
use Rattle.plan_file.specs.Code.{programs_in}
use Rattle.plan_file.specs.Stages.{read_refused, answered, of_programs, plan_of}

answer_of : (m : Programs) (a : PlanAnswer) → a ≡ (answered m a).answer
answer_of m (Ok tt) = refl
answer_of m (Err r) = refl

module _ (h : Header) (b : List ℕ) where
  pub bad_header : h.ok ≡ false → read_refused BadLayout ≡ plan_of h b
  unfolding plan_of
  bad_header e = rw e refl

  module _ (ok : h.ok ≡ true) where
    abbrev m : Programs
    m = programs_in b h.tasks h.lengths

    by_answer : {a : PlanAnswer} → a ≡ plan_answer m → answered m a ≡ plan_of h b
    unfolding plan_of
    by_answer e = ap (answered m) e ∙ sym (ap (λ (t : Bool). unless t (read_refused BadLayout) (of_programs m)) ok)

    pub answer_read : {a : PlanAnswer} → a ≡ plan_answer m → a ≡ (plan_of h b).answer
    answer_read {a} e = answer_of m a ∙ ap (λ (r : PlanRead). r.answer) (by_answer e)

    pub bad_plan : {r : Refusal} → Err r ≡ plan_answer m → read_refused r ≡ plan_of h b
    bad_plan e = by_answer e

    pub good_plan : {p : Plan} → p ≡ canonical m → (Ok tt) ≡ plan_answer m → record { answer = Ok tt; plan = p } ≡ plan_of h b
    good_plan q e = ap (λ (p : Plan). record { answer = Ok tt; plan = p }) q ∙ by_answer e
