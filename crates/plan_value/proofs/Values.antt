-- 2 to 6 of a plan value, by its sizes and by the pass over its slots.
use mathlib.Core.Path.{◌≡◌, refl, ◌∙◌}
use mathlib.Core.Bool.{true, false}
use mathlib.Core.List.{List}
use Prim.Native.Nat.{ℕ}
use Rattle.std.specs.Prelude.{Err}
use Rattle.plan.specs.declared.Plan.{Plan}
use Rattle.plan.specs.declared.Refusal.TheVariants.{BadLayout}
use Rattle.plan.specs.Programs.{programs}
use Rattle.plan.specs.Refusals.{instructions_ok, plan_answer}
use Rattle.plan_value.specs.declared.pass.Pass.{Pass}
use Rattle.plan_value.specs.Editions.{present_edition}
use Rattle.plan_value.specs.Firsts.{Firsts}
use Rattle.plan_value.specs.Pass.{PassOf, pass_answer}
use Rattle.plan_value.specs.Sizes.{sizes_in}
use Rattle.plan_value.proofs.Sized.{sizes_of}
use Rattle.plan_value.proofs.Meaning.{instructions_are, answer_sized, firsts_are}

module _ (p : Plan) where
  pub answer_unsized : sizes_in p.tasks p.lengths ≡ false → plan_answer (programs p) ≡ Err BadLayout
  unfolding plan_answer
  answer_unsized h = rw (sizes_of p, h) refl

  module _ {q : Pass} {x y z : List ℕ} (pass : PassOf present_edition (programs p) q x y z) where
    pub answer_of : sizes_in p.tasks p.lengths ≡ true → pass_answer q x ≡ plan_answer (programs p)
    answer_of h = answer_sized (programs p) (sizes_of p ∙ h) pass

    pub firsts_of_lem : instructions_ok (programs p) ≡ true → Firsts (programs p) x y z
    firsts_of_lem h = firsts_are (programs p) (pass.passed (pass.instructions ∙ instructions_are (programs p) ∙ h))
