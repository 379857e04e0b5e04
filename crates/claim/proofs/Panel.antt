-- The counts of a panel together, and rest as a panel shows it.
use mathlib.Core.Path.{◌≡◌, refl, sym, ap, ◌∙◌}
use mathlib.Core.Bool.{Bool, true, false, not, ◌&&◌}
use mathlib.Core.List.{append_assoc}
use mathlib.Core.Logic.{by_cases}
use Prim.Native.Nat.{ℕ, suc}
use native.Mathlib.Omega.{arith}
use native.Mathlib.Decide.{ℕ_discrete}
use lib.Dec.{eqb}
use borrow.Author.Tests.{eq-eqb, ne_eqb}
use Rattle.std.specs.Prelude.{Err}
use Rattle.base.specs.Choice.{within}
use Rattle.base.specs.Range.{below, up_to}
use Rattle.base.proofs.Tables.{every_table}
use Rattle.base.proofs.Tests.{below_all, below_fails, every_append, is_false, within_high}
use Rattle.rules.specs.declared.step.Step.{Step}
use Rattle.rules.specs.declared.step.StepRefusal.TheVariants.{NoMessage}
use Rattle.rules.specs.declared.system.System.{System}
use Rattle.rules.specs.Answers.{is_accepted}
use Rattle.rules.specs.Deliver.{deliver_answer}
use Rattle.rules.specs.Sound.{system_ok}
use Rattle.rules.specs.Starts.{started}
use Rattle.rules.specs.Steps.{well_formed, kind_answer, ruled_answer, step_answer, run_step, deliver_step, quiescent}
use Rattle.rules.specs.Panel.{panel_steps, answering}
use Rattle.rules_laws.proofs.Shapes.{started_shaped}
use Rattle.rules_sound.proofs.Kept.{steps_kept}
use Rattle.rules_sound.proofs.Starts.{started_ok}
use Rattle.panel_laws.specs.Tallies.{runs, deliveries, moves}
use Rattle.panel_laws.proofs.Inside.{inside}
use Rattle.panel_laws.proofs.Tallies.{tallied_nine, panel_counts, panel_nothing, length_panel}
use Rattle.panel_laws.proofs.Totals.{all_tallied, none_counted}
use Rattle.claim.specs.Statement.{from}
use Rattle.claim.specs.Panel.{CountsTogether, runs_and_deliveries, RestOf, RestShown, RunRestShown}
use Rattle.claim.proofs.Quiet.{deliver_accepted}

pub counts_together : CountsTogether
counts_together r =
    let m = r.plan.tasks in
    let n = r.processors in
    let long = length_panel m n in
    record {
      together = λ c. rw (panel_counts r c) (all_tallied r (panel_steps m n) ∙ long);
      nine = λ c bad. panel_counts r c ∙ tallied_nine r bad (panel_steps m n) ∙ rw long refl;
      outside = panel_nothing r;
      inside = inside r;
    }

module _ (r : System) (ok : system_ok r ≡ true) where
  -- a delivery that is refused
  refused_at : ℕ → Bool
  refused_at k = not (is_accepted (step_answer r (deliver_step (suc k))))

  delivery_refused : r.network.used ≡ 0 → (k : ℕ) → step_answer r (deliver_step (suc k)) ≡ Err NoMessage
  unfolding step_answer ruled_answer well_formed kind_answer deliver_answer
  delivery_refused none k =
      let out : within 1 0 (suc k) ≡ false = is_false (within 1 0 (suc k)) (λ e. omega (arith, within_high 1 0 (suc k) e)) in
      rw (ok, none, out) refl

  -- the mail is empty exactly when no delivery is accepted
  empty_mail : eqb r.network.used 0 ≡ below 256 refused_at
  unfolding refused_at
  empty_mail =
      by_cases
      (ℕ_discrete r.network.used 0)
      (λ (none : r.network.used ≡ 0). eq-eqb r.network.used 0 none ∙ sym (below_all refused_at 256 (λ k l. rw (delivery_refused none k) refl)))
      (λ some. ne_eqb r.network.used 0 some ∙ sym (below_fails refused_at 256 0 (omega arith) (rw (deliver_accepted r ok 1 (omega arith) (omega arith)) refl)))

  and_swapped : (a b : Bool) → a && b ≡ b && a
  and_swapped true true = refl
  and_swapped true false = refl
  and_swapped false true = refl
  and_swapped false false = refl

  rest_of : RestOf r
  unfolding quiescent answering panel_steps refused_at
  rest_of =
      let m = r.plan.tasks in
      let refuses : Step → Bool = λ s. not (is_accepted (step_answer r s)) in
      record {
        parts = sym (append_assoc (runs m) (deliveries 256) (moves m r.processors));
        rest =
            and_swapped (eqb r.network.used 0) _
            ∙ ap (λ (b : Bool). up_to m (λ t. refuses (run_step t)) && b) empty_mail
            ∙ sym
            (none_counted (λ s. is_accepted (step_answer r s)) (runs_and_deliveries m)
            ∙ every_append refuses (runs m) (deliveries 256)
            ∙ rw (every_table refuses m (λ t. run_step (suc t)), every_table refuses 256 (λ p. deliver_step (suc p))) refl);
      }

pub rest_shown : RestShown
rest_shown r ok = rest_of r ok

pub run_rest_shown : RunRestShown
run_rest_shown n p ss some few a = rest_of (from n p ss).system (steps_kept (started n p) ss (started_shaped n p) (started_ok n p some few a))
