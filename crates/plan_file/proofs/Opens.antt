-- A plan file that is opened: its header, what stands behind it, and the plan value and the tables of both.
use mathlib.Core.Path.{◌≡◌, refl, sym, ◌∙◌, ap}
use mathlib.Core.Bool.{Bool, true, false}
use mathlib.Core.List.{List}
use Prim.Native.Nat.{ℕ}
use native.Mathlib.Omega.{arith}
use lib.ListN.{drop}
use Rattle.std.specs.Prelude.{Ok, Err}
use Rattle.base.specs.Choice.{unless}
use Rattle.plan.specs.declared.Plan.{Plan}
use Rattle.plan.specs.declared.PlanRead.{PlanRead}
use Rattle.plan.specs.Answers.{PlanAnswer}
use Rattle.plan.specs.declared.Refusal.{Refusal}
use Rattle.plan.specs.declared.Refusal.TheVariants.{BadLayout}
use Rattle.plan.specs.Programs.{Programs, programs, canonical}
use Rattle.plan.specs.Refusals.{plan_answer}
use Rattle.plan.specs.Files.{file_programs, file_answer}
use Rattle.plan.specs.Outcomes.{plan_read}
use Rattle.plan_laws.proofs.Canonical.{meaning_canonical}
use Rattle.plan_laws.proofs.RoundTrip.{read_answer}
use Rattle.plan_value.specs.Firsts.{Firsts}
use Rattle.plan_file.specs.declared.header.Header.{Header}
use Rattle.plan_file.specs.declared.opening.Opened.{Opened}
use Rattle.plan_file.specs.Header.{header_of}
use Rattle.plan_file.specs.Code.{programs_in}
use Rattle.plan_file.specs.Opens.{PlanOpened}
use Rattle.plan_file.specs.Stages.{read_refused, answered, of_programs, plan_of}
use Rattle.plan_file.specs.scan.Code.{Whole, CodeChecked}
use Rattle.plan_file.proofs.Instructions.{code_tasks}
use Rattle.plan_file.proofs.Meaning.{stages_read, header_ok, header_fits, header_programs}

-- a refused file
pub refused_opened : (p : List ℕ) (o : Opened) {a : Refusal} {codes parents senders receivers : List ℕ} → o.answer ≡ Err a → file_answer p ≡ Err a
    → PlanOpened p o codes parents senders receivers
refused_opened p o e f =
    record {
      answered = e ∙ sym f;
      plan = λ t. absurd (let z : ◌≡◌ {A = ℕ} 0 1 = cc in omega arith);
      firsts = λ t. absurd (let z : ◌≡◌ {A = ℕ} 0 1 = cc in omega arith);
    }

answer_of : (m : Programs) (a : PlanAnswer) → (answered m a).answer ≡ a
answer_of m (Ok tt) = refl
answer_of m (Err r) = refl

-- file p with header h
module _ (p : List ℕ) (h : Header) (is : h ≡ header_of p) where
  abbrev behind : List ℕ
  behind = drop h.size p

  pub header_refused : h.ok ≡ false → file_answer p ≡ Err BadLayout
  unfolding file_answer
  header_refused e = rw (sym (header_ok p) ∙ ap (λ (x : Header). x.ok) (sym is) ∙ e) refl

  -- the header is in order
  module _ (ok : h.ok ≡ true) where
    abbrev m : Programs
    m = programs_in behind h.tasks h.lengths

    pub behind_whole : Whole behind h.tasks h.lengths
    behind_whole = rw (← is) at (header_fits p) ok

    programs_are : m ≡ file_programs p
    programs_are = rw is (header_programs p (sym (header_ok p) ∙ ap (λ (x : Header). x.ok) (sym is) ∙ ok))

    read_as : of_programs m ≡ plan_read p
    unfolding plan_of
    read_as = sym (ap (λ (t : Bool). unless t (read_refused BadLayout) (of_programs m)) ok) ∙ ap (λ (x : Header). plan_of x (drop x.size p)) is ∙ stages_read p

    pub answered_as : plan_answer m ≡ file_answer p
    answered_as = sym (answer_of m (plan_answer m)) ∙ ap (λ (x : PlanRead). x.answer) read_as ∙ read_answer p

    pub plan_opened : {o : Opened} {a : PlanAnswer} {codes parents senders receivers : List ℕ} → CodeChecked behind h.tasks h.lengths a parents senders receivers
        → a ≡ Ok tt → o.answer ≡ Ok tt → o.tasks ≡ h.tasks → o.lengths ≡ h.lengths → codes ≡ (canonical m).codes
        → PlanOpened p o codes parents senders receivers
    unfolding canonical
    plan_opened {parents = parents} {senders = senders} {receivers = receivers} q e a t l c =
        let plan : ◌≡◌ {A = Plan} _ (canonical m) =
        λ i. record { tasks = (t ∙ sym (code_tasks behind h.tasks h.lengths)) i; lengths = (l ∙ behind_whole.counts) i; codes = c i } in
        let users : Firsts (programs (canonical m)) parents senders receivers = rw (meaning_canonical m (sym q.answer ∙ e)) (q.firsts e) in
        record { answered = a ∙ sym e ∙ q.answer ∙ answered_as; plan = λ _. rw programs_are at plan; firsts = λ _. rw programs_are at users }
