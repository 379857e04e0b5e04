-- `stages::load_at` is the plan behind a header: the header's refusal, what the pass refuses, or the plan as it is read, with the tables of the pass.
use mathlib.Core.Path.{◌≡◌, refl, sym, ◌∙◌, ap}
use mathlib.Core.List.{List}
use Prim.Native.Nat.{ℕ}
use lib.ListN.{drop}
use Rattle.plan.specs.declared.Plan.{Plan}
use Rattle.plan.specs.Programs.{canonical}
use Rattle.plan_laws.proofs.Canonical.{meaning_canonical}
use Rattle.plan_file.specs.Code.{programs_in}
use Rattle.plan_file.specs.scan.Code.{Whole}
use Rattle.plan_file.proofs.Instructions.{code_tasks}
use Rattle.plan_file.proofs.Answers.{bad_header, bad_plan, good_plan}
use Rattle.plan_file.proofs.stages.load_at.Goals as goal

-- the plan value, of its fields
plan_is : (b : List ℕ) (n : ℕ) (lengths : List ℕ) {codes : List ℕ} → Whole b n lengths → codes ≡ (canonical (programs_in b n lengths)).codes
    → ◌≡◌ {A = Plan} (record { tasks = n; lengths = lengths; codes = codes }) (canonical (programs_in b n lengths))
unfolding canonical
plan_is b n lengths w e =
    let t = sym (code_tasks b n lengths) in
    let l = w.counts in
    λ i. record { tasks = t i; lengths = l i; codes = e i }

pub returns-then-not-h : goal.returns-then-not-h
returns-then-not-h c =
    let a = c.args in
    rw (bad_header a.h (drop a.at a.file.now) c.if-not-h.true) at c.refused.ensures

pub check_code-requires : goal.check_code-requires
check_code-requires c =
    (rw c.rest_at-rest.ensures (c.requires c.if-not-h.false), record { parents = refl; senders = refl; receivers = refl })

pub read_code-requires : goal.read_code-requires
read_code-requires c = (rw c.rest_at-rest.ensures (c.requires c.if-not-h.false), refl)

pub returns : goal.returns
returns c =
    let h = c.args.h in
    let b = drop c.args.at c.args.file.now in
    let ok = c.if-not-h.false in
    let q = rw c.rest_at-rest.ensures at c.check_code.ensures in
    let accepted = c.in_default.is in
    let m = programs_in b h.tasks h.lengths in
    let codes = c.read_code.ensures ∙ ap (λ (b : List ℕ). (canonical (programs_in b h.tasks h.lengths)).codes) c.rest_at-rest.ensures in
    let plan : record { tasks = h.tasks; lengths = h.lengths; codes = c.read_code.new.codes } ≡ canonical m =
    plan_is b h.tasks h.lengths (c.requires ok) codes in
    record {
      read = good_plan h b ok plan (sym accepted ∙ q.answer);
      firsts = λ e. rw (plan, meaning_canonical m (sym q.answer ∙ accepted)) (q.firsts accepted);
    }

pub returns-in-Err : goal.returns-in-Err
returns-in-Err c =
    let h = c.args.h in
    let q = rw c.rest_at-rest.ensures at c.check_code.ensures in
    rw (bad_plan h (drop c.args.at c.args.file.now) c.if-not-h.false (sym c.in-Err.is ∙ q.answer)) at c.refused-in-Err.ensures
