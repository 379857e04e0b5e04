-- The exported plan check answers the paper's number for every number of desks and every file.
use mathlib.Core.Path.{◌≡◌, sym, ◌∙◌, ap}
use mathlib.Core.Bool.{Bool}
use mathlib.Core.List.{List}
use Prim.Native.Nat.{ℕ}
use borrow.Author.Rules.{rules}
use Rattle.std.specs.Prelude.{Err}
use Rattle.base.specs.Choice.{unless, within}
use Rattle.plan.specs.declared.Refusal.TheVariants.{BadProcessors}
use Rattle.plan.specs.Answers.{answer_number}
use Rattle.plan.specs.Files.{file_answer, start_answer}
use Rattle.plan.specs.Outcomes.{start_number}
use Rattle.driver.proofs.mortarsedge_plan_check.Goals as goal

-- what the test of the desks leaves of the answer
started_if : (n : ℕ) (p : List ℕ) {b : Bool} → within 1 6 n ≡ b → start_number n p ≡ answer_number (unless b (Err BadProcessors) (file_answer p))
unfolding start_number start_answer
started_if n p e = ap (λ (b : Bool). answer_number (unless b (Err BadProcessors) (file_answer p))) e

pub returns-then-not-contains : goal.returns-then-not-contains
returns-then-not-contains c =
    let e : c.contains.result ≡ within 1 6 c.args.processors = search rules in
    c.number.ensures ∙ sym (started_if _ _ (sym e ∙ c.if-not-contains.true))

pub returns : goal.returns
returns c =
    let e : c.contains.result ≡ within 1 6 c.args.processors = search rules in
    c.answer_number.ensures ∙ ap answer_number c.check_plan.ensures ∙ sym (started_if _ _ (sym e ∙ c.if-not-contains.false))
