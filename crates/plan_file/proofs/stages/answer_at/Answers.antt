-- `stages::answer_at` is the answer about the plan behind a header: the header's refusal, and then what the pass answers.
use mathlib.Core.Path.{refl, ◌∙◌, ap}
use mathlib.Core.List.{List}
use Prim.Native.Nat.{ℕ}
use lib.ListN.{drop}
use Rattle.plan.specs.declared.PlanRead.{PlanRead}
use Rattle.plan.specs.Refusals.{plan_answer}
use Rattle.plan_file.specs.Code.{programs_in}
use Rattle.plan_file.proofs.Answers.{bad_header, answer_read}
use Rattle.plan_file.proofs.stages.answer_at.Goals as goal

pub returns-then-not-h : goal.returns-then-not-h
returns-then-not-h c =
    let a = c.args in
    ap (λ (r : PlanRead). r.answer) (bad_header a.h (drop a.at a.file.now) c.if-not-h.true)

pub check_code-requires : goal.check_code-requires
check_code-requires c =
    (rw c.rest_at.ensures (c.requires c.if-not-h.false), record { parents = refl; senders = refl; receivers = refl })

pub returns : goal.returns
returns c =
    let a = c.args in
    answer_read a.h (drop a.at a.file.now) c.if-not-h.false
    (c.check_code.ensures.answer ∙ ap (λ (b : List ℕ). plan_answer (programs_in b a.h.tasks a.h.lengths)) c.rest_at.ensures)
