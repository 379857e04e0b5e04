-- Accepted steps one by one: where they lead, and which offers they forward.
use mathlib.Core.Path.{◌≡◌, refl, sym}
use mathlib.Core.Bool.{Bool, true, false, ◌&&◌}
use mathlib.Core.List.{List, [], ◌∷◌, ◌++◌}
use Prim.Native.Nat.{ℕ, ◌+◌, ◌*◌}
use native.Mathlib.Nat.{add-mul, zero-mul, zero-add}
use native.Mathlib.Omega.{arith}
use lib.Dec.{eqb}
use Rattle.std.specs.Prelude.{Ok}
use Rattle.base.specs.Choice.{pick}
use Rattle.base.specs.Lists.{every}
use Rattle.base.proofs.Tests.{and_both, every_append}
use Rattle.plan.specs.declared.ChannelId.{ChannelId}
use Rattle.rules.specs.declared.step.Step.{Step}
use Rattle.rules.specs.declared.step.Report.{Report}
use Rattle.rules.specs.declared.system.System.{System}
use Rattle.rules.specs.Numbers.{same_channel}
use Rattle.rules.specs.Answers.{is_accepted}
use Rattle.rules.specs.Networks.{message_at}
use Rattle.rules.specs.Effects.{completed}
use Rattle.rules.specs.Sound.{system_ok}
use Rattle.rules.specs.Steps.{is_deliver, ruled_answer, step_answer, performed, accepted, step, steps_by, steps}
use Rattle.rules_laws.specs.Shapes.{Shaped}
use Rattle.rules_laws.proofs.Shapes.{step_shaped}
use Rattle.rules_laws.proofs.Steps.{step_accepted, steps_by_system, steps_by_reports}
use Rattle.rules_sound.proofs.Kept.{step_kept}
use Rattle.claim.specs.Chase.{is_offer, posts_offer, forwards, forwards_of}
use Rattle.chase.specs.Chase.{chased}

-- a rig whose arrays have their sizes and which 9 does not refuse
pub record Fine (r : System) : Type 0 where
  pub shaped : Shaped r
  pub sound : system_ok r ≡ true

-- the offer that is chased, and once or not at all
abbrev pub is_chased : ChannelId → ℕ → Bool
is_chased c w = same_channel chased c && eqb 1 w

abbrev pub once : ChannelId → ℕ → ℕ
once c w = pick (is_chased c w) 1 0

-- the step delivers the offer letter of c and w, and posts it again
abbrev pub hands_on : System → Step → ChannelId → ℕ → Bool
hands_on r s c w = is_deliver s && (is_offer c w (message_at r.network s.number) && posts_offer c w (performed r s).posting)

-- the rig after an accepted step
abbrev pub after : System → Step → System
after r s = completed (performed r s)

-- a step that is accepted, where 9 does not refuse; it hands on the chased offer or not, and no other
pub record Leads (r : System) (s : Step) (f : Bool) : Type 0 where
  pub answer : ruled_answer r s ≡ Ok tt
  pub handed : (c : ChannelId) (w : ℕ) → hands_on r s c w ≡ f && is_chased c w

-- steps that are all accepted, lead from r to q, and forward the chased offer f times, and no other
pub record Walks (r : System) (ss : List Step) (q : System) (f : ℕ) : Type 0 where
  pub accepted : every (λ p. is_accepted p.answer) (steps r ss).reports ≡ true
  pub to : (steps r ss).system ≡ q
  pub forwarded : (c : ChannelId) (w : ℕ) → forwards_of c w r ss ≡ f * once c w
  pub fine : Fine q

-- no step
pub stays : (r : System) → Fine r → Walks r [] r 0
unfolding steps_by every forwards_of
stays r z = record { accepted = refl; to = refl; forwarded = λ c w. sym (zero-mul (once c w)); fine = z }

-- an accepted delivery that hands on forwards
forwards_handed : (r : System) (s : Step) (c : ChannelId) (w : ℕ) → step_answer r s ≡ Ok tt → forwards c w r s ≡ hands_on r s c w
unfolding forwards
forwards_handed r s c w a = rw a refl

-- one step
count_one : (f b : Bool) → pick (f && b) 1 0 + 0 ≡ pick f 1 0 * pick b 1 0
count_one true true = refl
count_one true false = refl
count_one false true = refl
count_one false false = refl

pub leads : (r : System) (s : Step) (f : Bool) → Fine r → Leads r s f → Walks r (s ∷ []) (after r s) (pick f 1 0)
unfolding steps_by every forwards_of step_answer
leads r s f z l =
    let a : step_answer r s ≡ Ok tt = rw z.sound l.answer in
    let e : step r s ≡ accepted (performed r s) = step_accepted r s a in
    let fine : Fine (step r s).system = record { shaped = step_shaped r s z.shaped; sound = step_kept r s z.shaped z.sound } in
    record {
      accepted = rw e refl;
      to = rw e refl;
      forwarded = λ c w. rw (forwards_handed r s c w a, l.handed c w) (count_one f (is_chased c w));
      fine = rw e at fine;
    }

forwards_append : (c : ChannelId) (w : ℕ) (r : System) (xs ys : List Step)
    → forwards_of c w r (xs ++ ys) ≡ forwards_of c w r xs + forwards_of c w (steps r xs).system ys
unfolding forwards_of steps_by
forwards_append c w r [] ys = sym (zero-add (forwards_of c w r ys))
forwards_append c w r (x ∷ xs) ys = omega (arith, forwards_append c w (step r x).system xs ys)

-- steps and more steps
pub walks_on : (r q p : System) (xs ys : List Step) (f g : ℕ) → Walks r xs q f → Walks q ys p g → Walks r (xs ++ ys) p (f + g)
walks_on r q p xs ys f g x y =
    record {
      accepted =
          rw (steps_by_reports step r xs ys, every_append (λ (t : Report). is_accepted t.answer) (steps r xs).reports (steps (steps r xs).system ys).reports)
          (and_both _ _ x.accepted (rw x.to y.accepted));
      to = rw (steps_by_system step r xs ys, x.to) y.to;
      forwarded = λ c w. rw (forwards_append c w r xs ys, x.forwarded c w, x.to, y.forwarded c w) (sym (add-mul f g (once c w)));
      fine = y.fine;
    }
