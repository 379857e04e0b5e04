-- The answer about the instructions of a file, by the pass over them.
use mathlib.Core.Path.{◌≡◌, sym, ◌∙◌}
use mathlib.Core.Bool.{true}
use mathlib.Core.List.{List}
use Prim.Native.Nat.{ℕ}
use Rattle.plan.specs.Answers.{PlanAnswer}
use Rattle.plan.specs.declared.Refusal.TheVariants.{BadInstruction}
use Rattle.plan_laws.proofs.Answers.{unless_accepted}
use Rattle.plan_value.specs.declared.pass.Pass.{Pass}
use Rattle.plan_value.specs.Editions.{present_edition}
use Rattle.plan_value.specs.Pass.{PassOf, pass_answer}
use Rattle.plan_value.specs.Sizes.{sizes_in}
use Rattle.plan_value.proofs.Meaning.{answer_sized, firsts_are}
use Rattle.plan_file.specs.Code.{programs_in}
use Rattle.plan_file.specs.scan.Code.{CodeChecked}
use Rattle.plan_file.proofs.Instructions.{code_sizes}

pub checked : (b : List ℕ) (n : ℕ) (lengths : List ℕ) → sizes_in n lengths ≡ true → {p : Pass} {x y z : List ℕ}
    → PassOf present_edition (programs_in b n lengths) p x y z → {a : PlanAnswer} → a ≡ pass_answer p x → CodeChecked b n lengths a x y z
checked b n lengths sized {p} q e =
    record {
      answer = e ∙ answer_sized (programs_in b n lengths) (code_sizes b n lengths ∙ sized) q;
      firsts = λ h. firsts_are (programs_in b n lengths) (q.passed (unless_accepted p.instructions BadInstruction _ (sym e ∙ h)).0);
    }
