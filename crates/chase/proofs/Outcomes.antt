-- What a call of the chase meets, refused or written.
use mathlib.Core.Path.{◌≡◌, refl, sym, ◌∙◌}
use mathlib.Core.List.{List, ◌++◌}
use Prim.Native.Nat.{ℕ, ◌+◌, ◌*◌, ◌≤◌, ◌<◌}
use lib.Dec.{leb}
use lib.ListN.{length, drop}
use lib.Seq.{take_at}
use borrow.Author.Tests.{le-leb, lt-leb}
use Rattle.std.specs.Prelude.{Ok, Err}
use Rattle.base.proofs.Tests.{and_false}
use Rattle.base.proofs.Answers.{err_not_ok}
use Rattle.rules.proofs.Evaluated.{evaluated}
use Rattle.plan_write.specs.output.Output.{overlay}
use Rattle.plan_write.proofs.output.Overlay.{overlay_front}
use Rattle.chase.specs.declared.ChaseRefusal.TheVariants.{TooMany, OutputShort}
use Rattle.chase.specs.Construction.{chase_plan, chase_file}
use Rattle.chase.specs.Outcomes.{chase_answer, ChaseMeets}
use Rattle.chase.proofs.Files.{length_chase_file}
use Rattle.chase.proofs.Chased.{chase_made}

pub plan_length : length chase_plan ≡ 32
unfolding evaluated chase_plan
plan_length = refl

-- the plan at the front of an output
pub plan_put : (out p : List ℕ) → p ≡ chase_plan → p ++ drop 32 out ≡ overlay out 0 chase_plan
plan_put out p e = rw (e, overlay_front out chase_plan, plan_length) refl

module _ (m : ℕ) (plan steps : List ℕ) where
  pub too_many : 500 < m → ChaseMeets m plan steps (Err TooMany) plan steps
  unfolding chase_answer
  too_many h =
      record {
        answer = rw (lt-leb m 500 h) refl;
        plan_bytes_lem = refl;
        step_bytes_lem = refl;
        chase = λ n e. absurd (err_not_ok _ _ e);
      }

  pub short_plan : m ≤ 500 → length plan < 32 → ChaseMeets m plan steps (Err OutputShort) plan steps
  unfolding chase_answer
  short_plan few h =
      record {
        answer = rw (le-leb m 500 few, plan_length, lt-leb 32 (length plan) h) refl;
        plan_bytes_lem = refl;
        step_bytes_lem = refl;
        chase = λ n e. absurd (err_not_ok _ _ e);
      }

  pub short_steps : m ≤ 500 → length steps < 12 * m + 44 → ChaseMeets m plan steps (Err OutputShort) plan steps
  unfolding chase_answer
  short_steps few h =
      record {
        answer = rw (le-leb m 500 few, length_chase_file m, lt-leb (12 * m + 44) (length steps) h, and_false (leb (length chase_plan) (length plan))) refl;
        plan_bytes_lem = refl;
        step_bytes_lem = refl;
        chase = λ n e. absurd (err_not_ok _ _ e);
      }

  pub written : (n : ℕ) (p s : List ℕ) → m ≤ 500 → 32 ≤ length plan → 12 * m + 44 ≤ length steps → n ≡ 12 * m + 44
      → p ≡ overlay plan 0 chase_plan → s ≡ overlay steps 0 (chase_file m) → ChaseMeets m plan steps (Ok n) p s
  unfolding chase_answer
  written n p s few room more size e f =
      let front : p ≡ chase_plan ++ drop (length chase_plan) plan = e ∙ overlay_front plan chase_plan in
      let behind : s ≡ chase_file m ++ drop (length (chase_file m)) steps = f ∙ overlay_front steps (chase_file m) in
      record {
        answer = rw (le-leb m 500 few, plan_length, length_chase_file m, le-leb 32 (length plan) room, le-leb (12 * m + 44) (length steps) more, size) refl;
        plan_bytes_lem = front;
        step_bytes_lem = behind;
        chase = λ k g.
            let same : k ≡ n = cc in
            rw (
              front,
              behind,
              take_at chase_plan (drop (length chase_plan) plan) (length chase_plan) refl,
              take_at (chase_file m) (drop (length (chase_file m)) steps) k (length_chase_file m ∙ sym size ∙ sym same),
            )
            (chase_made m few);
      }
