-- A round: task 2 arrives, leaves for the other desk, and the offer is forwarded there.
use mathlib.Core.Path.{◌≡◌, refl}
use mathlib.Core.Bool.{Bool, true, false, ◌&&◌}
use mathlib.Core.List.{[], ◌∷◌}
use Prim.Native.Nat.{ℕ, ◌+◌}
use lib.Dec.{eqb, ltb}
use Rattle.rules.specs.declared.system.System.{System}
use Rattle.rules.specs.Numbers.{processor_id}
use Rattle.rules.specs.Hints.{hint}
use Rattle.rules.specs.Steps.{deliver_step, move_step}
use Rattle.rules.proofs.Evaluated.{evaluated}
use Rattle.claim.specs.Chase.{is_offer, posts_offer}
use Rattle.chase.specs.Construction.{chase_plan}
use Rattle.chase.proofs.Walks.{Fine, Leads, Walks, leads, walks_on, after, is_chased}
use Rattle.chase.proofs.Rig.{Pointers, chase_rig, left_rig}

-- the pointers then, where task 2 has left desk 2 for desk 3 with count n, or desk 3 for desk 2
abbrev pub left_two : Pointers → ℕ → Pointers
left_two x n = record { two = hint (processor_id 3) n; three = x.three; parent2 = hint (processor_id 3) n; parent3 = x.parent3 }

abbrev pub left_three : Pointers → ℕ → Pointers
left_three x n = record { two = x.two; three = hint (processor_id 2) n; parent2 = x.parent2; parent3 = hint (processor_id 2) n }

-- a letter that is delivered and posted again
twice : (b : Bool) → (b && b) ≡ b
twice true = refl
twice false = refl

module _ (d e n : ℕ) (x y : Pointers) where
  abbrev pub arrived : System
  arrived = after (chase_rig d n x) (deliver_step 1)

  -- what is evaluated of the three steps from desk d to desk e
  pub record Turns : Type 0 where
    pub arrives : Leads (chase_rig d n x) (deliver_step 1) false
    pub leaves : Leads arrived (move_step 2 e) false
    pub left : after arrived (move_step 2 e) ≡ left_rig d e n (n + 1) y
    pub forwards : Leads (left_rig d e n (n + 1) y) (deliver_step 1) true
    pub again : after (left_rig d e n (n + 1) y) (deliver_step 1) ≡ chase_rig e (n + 1) y

  pub walks_round : Fine (chase_rig d n x) → Turns → Walks (chase_rig d n x) (deliver_step 1 ∷ move_step 2 e ∷ deliver_step 1 ∷ []) (chase_rig e (n + 1) y) 1
  walks_round z t =
      let w1 = leads (chase_rig d n x) (deliver_step 1) false z t.arrives in
      let w2 = rw t.left at (leads arrived (move_step 2 e) false w1.fine t.leaves) in
      let w3 = rw t.again at (leads (left_rig d e n (n + 1) y) (deliver_step 1) true w2.fine t.forwards) in
      walks_on (chase_rig d n x) arrived (chase_rig e (n + 1) y) (deliver_step 1 ∷ []) (move_step 2 e ∷ deliver_step 1 ∷ []) 0 1 w1
      (walks_on arrived (left_rig d e n (n + 1) y) (chase_rig e (n + 1) y) (move_step 2 e ∷ []) (deliver_step 1 ∷ []) 0 1 w2 w3)

pub turns_two : (n : ℕ) (x : Pointers) → eqb n 9999 ≡ false → ltb n (n + 1) ≡ true → Turns 2 3 n x (left_two x (n + 1))
unfolding evaluated chase_plan chase_rig left_rig is_offer posts_offer
turns_two n x few less =
    record {
      arrives = record { answer = refl; handed = λ c w. refl };
      leaves = record { answer = rw few refl; handed = λ c w. refl };
      left = refl;
      forwards = record { answer = refl; handed = λ c w. rw less (twice (is_chased c w)) };
      again = rw less refl;
    }

pub turns_three : (n : ℕ) (x : Pointers) → eqb n 9999 ≡ false → ltb n (n + 1) ≡ true → Turns 3 2 n x (left_three x (n + 1))
unfolding evaluated chase_plan chase_rig left_rig is_offer posts_offer
turns_three n x few less =
    record {
      arrives = record { answer = refl; handed = λ c w. refl };
      leaves = record { answer = rw few refl; handed = λ c w. refl };
      left = refl;
      forwards = record { answer = refl; handed = λ c w. rw less (twice (is_chased c w)) };
      again = rw less refl;
    }
