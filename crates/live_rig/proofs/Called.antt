-- What a call of bytes says and leaves: 9, 15, or its two turns.
use mathlib.Core.Path.{◌≡◌, refl, sym, ap, ◌∙◌}
use mathlib.Core.Logic.{◌≢◌}
use mathlib.Core.Bool.{Bool, true, false, ◌&&◌}
use mathlib.Core.List.{List, ◌++◌}
use Prim.Native.Nat.{ℕ}
use lib.Dec.{eqb}
use lib.ListN.{take, drop, take-append-drop}
use lib.Seq.{take_at}
use Rattle.std.specs.Prelude.{Ok, Err}
use Rattle.base.specs.Choice.{pick}
use Rattle.base.proofs.Choices.{pick_either}
use Rattle.base.proofs.Tests.{and_left, and_right, tests_differ}
use Rattle.plan.specs.declared.ProcessorId.{ProcessorId}
use Rattle.rules.specs.declared.dispatch.Dispatched.{Dispatched}
use Rattle.rules.specs.Reports.{Turn}
use Rattle.rules.specs.declared.step.StepRefusal.TheVariants.{BadSystem, NoProcessor}
use Rattle.rules.specs.declared.system.System.{System}
use Rattle.rules.specs.Numbers.{processor_ok}
use Rattle.rules.specs.Answers.{is_accepted}
use Rattle.rules.specs.Networks.{messages}
use Rattle.rules.specs.Sound.{system_ok}
use Rattle.rules.specs.Steps.{run_step}
use Rattle.rules.specs.Dispatch.{Turned, deliver_step, earliest, choice, choosing, skipped, made, delivery_turn, run_turn, ruled_dispatch, undispatched, dispatched}
use Rattle.rules_laws.proofs.Shapes.{step_plan}
use Rattle.board.specs.declared.act.Size.{Size}
use Rattle.board.specs.Lent.{Lent}
use Rattle.image.specs.Image.{rig_of, is_image, rig_size}
use Rattle.rig_write.specs.Written.{lent_written}
use Rattle.rig_write.proofs.Loans.{back_in}
use Rattle.live_rig.specs.declared.desk_call.Call.{Call}
use Rattle.image.specs.Live.{held, Left}
use Rattle.live_rig.specs.Open.{sound}
use Rattle.live_rig.specs.Turns.{Planned}
use Rattle.live_rig.specs.Calls.{TurnsLeft, no_call, call_in, CalledIn, CalledHeld}
use Rattle.live_rig.proofs.Left.{holds_left}
use Rattle.live_rig.proofs.Turns.{Small, written_holds}

-- 9
refused_call : (r : System) (d : ProcessorId) (i o : Bool) → system_ok r ≡ o → i && o ≡ false → pick i (dispatched r d) (undispatched r (Err BadSystem)) ≡ undispatched r (Err BadSystem)
unfolding dispatched
refused_call r d false o e h = refl
refused_call r d true true e h = absurd (tests_differ {b = true} refl h)
refused_call r d true false e h = rw e refl

pub bad_call : (b : List ℕ) (d : ProcessorId) → sound b ≡ false → CalledIn b d (no_call (Err BadSystem)) b
bad_call b d h =
    let e = sym (refused_call (rig_of b) d (is_image b) (system_ok (rig_of b)) refl h) in
    record {
      answer = ap (λ (x : Dispatched). x.answer) e;
      delivery = ap (λ (x : Dispatched). x.delivery) e;
      run = ap (λ (x : Dispatched). x.run) e;
      refused = λ n. refl;
      accepted = λ a. absurd (tests_differ a refl);
    }

-- the plan stays
delivery_plan : (r : System) (d : ProcessorId) → (delivery_turn r d).system.plan ≡ r.plan
unfolding delivery_turn
delivery_plan r d =
    let p = earliest d (messages r.network) in
    pick_either (λ (x : Turned). x.system.plan ≡ r.plan) (eqb p 0) (skipped r) (made r (deliver_step p)) refl (step_plan r (deliver_step p))

run_plan : (r : System) (d : ProcessorId) → (run_turn r d).system.plan ≡ r.plan
unfolding run_turn
run_plan r d =
    let t = choice r d in
    pick_either (λ (x : Turned). x.system.plan ≡ r.plan) (eqb t 0) (skipped r) (made (choosing r d t) (run_step t)) refl (step_plan (choosing r d t) (run_step t))

module _ (b : List ℕ) (d : ProcessorId) (ok : sound b ≡ true) where
  image_call : is_image b ≡ true
  image_call = and_left (is_image b) (system_ok (rig_of b)) ok

  passed_call : system_ok (rig_of b) ≡ true
  passed_call = and_right (is_image b) (system_ok (rig_of b)) ok

  -- 15
  pub no_desk : processor_ok (rig_of b).processors d ≡ false → CalledIn b d (no_call (Err NoProcessor)) b
  unfolding dispatched
  no_desk f =
      record {
        answer = rw (image_call, passed_call, f) refl;
        delivery = rw (image_call, passed_call, f) refl;
        run = rw (image_call, passed_call, f) refl;
        refused = λ n. refl;
        accepted = λ a. absurd (tests_differ a refl);
      }

  module _ (desk : processor_ok (rig_of b).processors d ≡ true) where
    call_is : call_in b d ≡ ruled_dispatch (rig_of b) d
    unfolding dispatched
    call_is = rw (image_call, passed_call, desk) refl

    -- the two turns
    module _ (lengths codes users : List ℕ) (tasks : ℕ) (p : Planned b lengths codes users tasks) {n : Size} {l : Lent} {mail last : List ℕ} {used : ℕ} (t t' : Turn)
        (h : TurnsLeft lengths codes users n (rig_of b) d t t' used l mail last) (same : n.processors ≡ (rig_of b).processors) where
      pub call_written : Small l last → {after : List ℕ} → after ≡ lent_written (back_in b mail) l used last → CalledIn b d (record { answer = Ok tt; delivery = t; run = t' }) after
      unfolding ruled_dispatch
      call_written z w =
          let r = rig_of b in
          let live = h.run.on in
          let holds =
          written_holds live z b lengths codes users tasks p image_call (sym live.on.processors ∙ same) (run_plan (delivery_turn r d).system d ∙ delivery_plan r d) refl w in
          record {
            answer = rw call_is refl;
            delivery = rw call_is h.delivery;
            run = rw call_is h.run.turn;
            refused = λ m. absurd (m refl);
            accepted = λ a. rw call_is holds;
          }

-- bytes behind them
module _ (b : List ℕ) (d : ProcessorId) (q : Call) where
  pub short_called : CalledIn (held b) d q (held b) → is_accepted q.answer ≡ false → CalledHeld b d q b
  short_called h f =
      record { answer = h.answer; delivery = h.delivery; run = h.run; refused = λ n. refl; accepted = λ a. absurd (tests_differ a f) }

  pub held_called : {b' : List ℕ} → CalledIn (held b) d q b' → CalledHeld b d q (b' ++ drop rig_size b)
  held_called {b'} h =
      record {
        answer = h.answer;
        delivery = h.delivery;
        run = h.run;
        refused = λ n. ap (λ (z : List ℕ). z ++ drop rig_size b) (h.refused n) ∙ take-append-drop rig_size b;
        accepted = λ a. holds_left b (h.accepted a);
      }
