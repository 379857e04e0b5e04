-- The end: task 2 arrives and receives, the offer is answered, the word is passed, and both tasks finish.
use mathlib.Core.Path.{◌≡◌, refl, ap}
use mathlib.Core.Bool.{Bool, true, false, not}
use Prim.Native.Nat.{ℕ}
use lib.Dec.{eqb}
use borrow.Author.Tests.{eq-eqb}
use Rattle.base.specs.Range.{fold, up_to}
use Rattle.base.proofs.Tests.{and_both, and_false}
use Rattle.rules.specs.declared.step.Step.{Step}
use Rattle.rules.specs.declared.system.System.{System}
use Rattle.rules.specs.Answers.{is_accepted}
use Rattle.rules.specs.Sound.{system_ok}
use Rattle.rules.specs.Steps.{deliver_step, run_step, ruled_answer, step_answer, quiescent}
use Rattle.rules.proofs.Evaluated.{evaluated}
use Rattle.claim.specs.Chase.{is_offer, posts_offer}
use Rattle.chase.specs.Construction.{chase_plan, ending}
use Rattle.chase.proofs.Walks.{Fine, Leads, Walks, leads, walks_on, after, is_chased}
use Rattle.chase.proofs.Rig.{Pointers, chase_rig}

-- what 9 does not refuse and is refused is refused
not_accepted : (r : System) (s : Step) → is_accepted (ruled_answer r s) ≡ false → is_accepted (step_answer r s) ≡ false
unfolding step_answer
not_accepted r s h = go (system_ok r) refl
  where
    go : (b : Bool) → system_ok r ≡ b → is_accepted (step_answer r s) ≡ false
    go true e = unfold step_answer in rw e h
    go false e = unfold step_answer in rw e refl

-- a rig of two tasks at rest
pub record Still (r : System) : Type 0 where
  pub tasks : r.plan.tasks ≡ 2
  pub mail : r.network.used ≡ 0
  pub one : is_accepted (ruled_answer r (run_step 1)) ≡ false
  pub two : is_accepted (ruled_answer r (run_step 2)) ≡ false

-- a test of 1 and 2
up_to_two : (p : ℕ → Bool) (n : ℕ) → n ≡ 2 → p 1 ≡ true → p 2 ≡ true → up_to n p ≡ true
unfolding fold
up_to_two p n e one two = rw e (rw (one, two) refl)

pub still_rests : (r : System) → Still r → quiescent r ≡ true
unfolding quiescent
still_rests r z =
    let refused : ℕ → Bool = λ t. not (is_accepted (step_answer r (run_step t))) in
    and_both (eqb r.network.used 0) (up_to r.plan.tasks refused)
    (eq-eqb r.network.used 0 z.mail)
    (up_to_two refused r.plan.tasks z.tasks (ap not (not_accepted r (run_step 1) z.one)) (ap not (not_accepted r (run_step 2) z.two)))

module _ (d n : ℕ) (x : Pointers) where
  abbrev pub e0 : System
  e0 = chase_rig d n x

  abbrev pub e1 : System
  e1 = after e0 (deliver_step 1)

  abbrev pub e2 : System
  e2 = after e1 (run_step 2)

  abbrev pub e3 : System
  e3 = after e2 (deliver_step 1)

  abbrev pub e4 : System
  e4 = after e3 (deliver_step 1)

  abbrev pub e5 : System
  e5 = after e4 (deliver_step 1)

  abbrev pub e6 : System
  e6 = after e5 (run_step 2)

  abbrev pub e7 : System
  e7 = after e6 (deliver_step 1)

  abbrev pub ended : System
  ended = after e7 (run_step 1)

  -- what is evaluated of the eight steps
  pub record Ends : Type 0 where
    pub s1 : Leads e0 (deliver_step 1) false
    pub s2 : Leads e1 (run_step 2) false
    pub s3 : Leads e2 (deliver_step 1) false
    pub s4 : Leads e3 (deliver_step 1) false
    pub s5 : Leads e4 (deliver_step 1) false
    pub s6 : Leads e5 (run_step 2) false
    pub s7 : Leads e6 (deliver_step 1) false
    pub s8 : Leads e7 (run_step 1) false
    pub still : Still ended

  pub walks_ending : Fine e0 → Ends → Walks e0 ending ended 0
  walks_ending z e =
      let w1 = leads e0 (deliver_step 1) false z e.s1 in
      let w2 = leads e1 (run_step 2) false w1.fine e.s2 in
      let w3 = leads e2 (deliver_step 1) false w2.fine e.s3 in
      let w4 = leads e3 (deliver_step 1) false w3.fine e.s4 in
      let w5 = leads e4 (deliver_step 1) false w4.fine e.s5 in
      let w6 = leads e5 (run_step 2) false w5.fine e.s6 in
      let w7 = leads e6 (deliver_step 1) false w6.fine e.s7 in
      let w8 = leads e7 (run_step 1) false w7.fine e.s8 in
      walks_on e0 e1 ended _ _ 0 0 w1
      (walks_on e1 e2 ended _ _ 0 0 w2
      (walks_on e2 e3 ended _ _ 0 0 w3
      (walks_on e3 e4 ended _ _ 0 0 w4
      (walks_on e4 e5 ended _ _ 0 0 w5
      (walks_on e5 e6 ended _ _ 0 0 w6
      (walks_on e6 e7 ended _ _ 0 0 w7 w8))))))

pub ends_at_2 : (n : ℕ) (x : Pointers) → Ends 2 n x
unfolding evaluated chase_plan chase_rig is_offer posts_offer
ends_at_2 n x =
    record {
      s1 = record { answer = refl; handed = λ c w. refl };
      s2 = record { answer = refl; handed = λ c w. refl };
      s3 = record { answer = refl; handed = λ c w. and_false (is_chased c w) };
      s4 = record { answer = refl; handed = λ c w. refl };
      s5 = record { answer = refl; handed = λ c w. refl };
      s6 = record { answer = refl; handed = λ c w. refl };
      s7 = record { answer = refl; handed = λ c w. refl };
      s8 = record { answer = refl; handed = λ c w. refl };
      still = record { tasks = refl; mail = refl; one = refl; two = refl };
    }

pub ends_at_3 : (n : ℕ) (x : Pointers) → Ends 3 n x
unfolding evaluated chase_plan chase_rig is_offer posts_offer
ends_at_3 n x =
    record {
      s1 = record { answer = refl; handed = λ c w. refl };
      s2 = record { answer = refl; handed = λ c w. refl };
      s3 = record { answer = refl; handed = λ c w. and_false (is_chased c w) };
      s4 = record { answer = refl; handed = λ c w. refl };
      s5 = record { answer = refl; handed = λ c w. refl };
      s6 = record { answer = refl; handed = λ c w. refl };
      s7 = record { answer = refl; handed = λ c w. refl };
      s8 = record { answer = refl; handed = λ c w. refl };
      still = record { tasks = refl; mail = refl; one = refl; two = refl };
    }
