-- Where a letter stands after steps: it has left, or it is there, and no more letters for a desk stand before it.
use mathlib.Core.Path.{◌≡◌, refl, sym, ◌∙◌, ap}
use mathlib.Core.Bool.{Bool, true, ◌&&◌}
use mathlib.Core.List.{List, [], ◌∷◌, ◌++◌}
use mathlib.Core.Logic.{◌⊎◌, inl, inr, by_cases}
use Prim.Native.Nat.{ℕ, ◌+◌, ◌-◌, ◌≤◌}
use native.Mathlib.Omega.{arith}
use native.Mathlib.Decide.{ℕ_discrete}
use lib.Dec.{eqb, ltb}
use lib.ListN.{length, take, drop}
use Rattle.std.specs.Prelude.{Ok}
use Rattle.base.specs.Choice.{pick}
use Rattle.base.proofs.Choices.{pick_either}
use Rattle.base.proofs.Tests.{and_false}
use Rattle.plan.specs.declared.Plan.{Plan}
use Rattle.plan.specs.declared.ProcessorId.{ProcessorId}
use Rattle.rules.specs.declared.message.Message.{Message}
use Rattle.rules.specs.declared.message.Message.TheVariants.{Empty}
use Rattle.rules.specs.declared.step.Step.{Step}
use Rattle.rules.specs.declared.system.System.{System}
use Rattle.rules.specs.Answers.{is_accepted}
use Rattle.rules.specs.Networks.{messages}
use Rattle.rules.specs.Steps.{is_deliver, step_answer, step, steps_by, steps}
use Rattle.rules.specs.Dispatch.{deliver_step}
use Rattle.rules_laws.proofs.Messages.{length_messages, messages_dequeued}
use Rattle.rules_laws.proofs.Sound.{messages_fit}
use Rattle.rules_laws.proofs.Steps.{step_passed}
use Rattle.rules_laws.proofs.StepKinds.{answer_deliver, deliver_passed}
use Rattle.rules_laws.proofs.ButChosen.{ButChosen, but_answer, but_step}
use Rattle.rules_sound.proofs.Kept.{mail_then}
use Rattle.claim.specs.Letters.{position_without, followed}
use Rattle.claim.proofs.Lists.{either, step_either, left}
use Rattle.claim.proofs.Live.{Live, live_step_lem}
use Rattle.claim.proofs.Earliest.{is_for}
use Rattle.claim.proofs.Positions.{Stands, stands_itself, stands_then, stands_joined, stands_left}

-- one that has left has left; steps after steps; a rig that is the same but for the last choices
pub followed_none : (r : System) (ss : List Step) → followed r ss 0 ≡ 0
unfolding followed
followed_none r [] = refl
followed_none r (s ∷ ss) =
    let stays = pick_either (λ k. k ≡ 0) (is_deliver s && is_accepted (step_answer r s)) (position_without s.number 0) 0
    (pick_either (λ k. k ≡ 0) (eqb s.number 0) 0 _ refl (pick_either (λ k. k ≡ 0) (ltb s.number 0) (0 - 1) 0 refl refl)) refl in
    ap (followed (step r s).system ss) stays ∙ followed_none (step r s).system ss

pub followed_append : (r : System) (xs ys : List Step) (k : ℕ) → followed r (xs ++ ys) k ≡ followed (steps r xs).system ys (followed r xs k)
unfolding followed steps_by
followed_append r [] ys k = refl
followed_append r (x ∷ xs) ys k = followed_append (step r x).system xs ys _

pub followed_but : {r q : System} → ButChosen r q → (ss : List Step) (k : ℕ) → followed r ss k ≡ followed q ss k
unfolding followed
followed_but b [] k = refl
followed_but {r = r} {q = q} b (s ∷ ss) k = rw (but_answer b s) (followed_but {r = (step r s).system} {q = (step q s).system} (but_step b s) ss _)

pub followed_delivery : (r : System) (i : ℕ) (ss : List Step) (k : ℕ) → step_answer r (deliver_step i) ≡ Ok tt
    → followed r (deliver_step i ∷ ss) k ≡ followed (step r (deliver_step i)).system ss (position_without i k)
unfolding followed
followed_delivery r i ss k e = ap (λ (b : Bool). followed (step r (deliver_step i)).system ss (pick b (position_without i k) k)) (ap is_accepted e)

-- the letters of a rig
abbrev pub mail : System → List Message
mail r = messages r.network

module _ {n : ℕ} {p : Plan} {r : System} (l : Live n p r) where
  pub room : r.network.used ≤ length r.network.slots
  room = omega (arith, l.shaped.slots, messages_fit r l.ok)

  pub length_mail : length (mail r) ≡ r.network.used
  length_mail = length_messages r.network room

-- where the letter that was at position k of r stands in q: it has left, or is there, and fewer stand before it
abbrev pub Follows : ProcessorId → ℕ → System → ℕ → System → ℕ → Type 0
Follows d less r k q j = (j ≡ 0) ⊎ Stands (is_for d) Empty less (mail r) k (mail q) j

-- one after the other
pub follows_then : (d : ProcessorId) (a b : ℕ) (r : System) (k : ℕ) (q : System) (j : ℕ) (w : System) (i : ℕ) → Follows d a r k q j → (j ≡ 0 → i ≡ 0)
    → (Stands (is_for d) Empty a (mail r) k (mail q) j → Follows d b q j w i) → Follows d (a + b) r k w i
follows_then d a b r k q j w i (inl z) out on = inl (out z)
follows_then d a b r k q j w i (inr f) out on = go (on f)
  where
    go : Follows d b q j w i → Follows d (a + b) r k w i
    go (inl z) = inl z
    go (inr g) = inr (stands_then (is_for d) Empty f g)

module _ (n : ℕ) (p : Plan) (d : ProcessorId) where
  -- one step
  step_follows : (r : System) → Live n p r → (k : ℕ) → 1 ≤ k → k ≤ length (mail r) → (s : Step)
      → Follows d 0 r k (step r s).system (pick (is_deliver s && is_accepted (step_answer r s)) (position_without s.number k) k)
  step_follows r l k some there s =
      step_either r s
      (λ refusal. rw (refusal, and_false (is_deliver s), left r s refusal) (inr (stands_itself (is_for d) Empty (mail r) k some there)))
      (λ acceptance.
      let all : is_accepted (step_answer r s) ≡ true = ap is_accepted acceptance in
      let (ms, then) = mail_then r s l.shaped acceptance in
      either (is_deliver s)
      (λ deliver.
      let j = s.number in
      let (low, high) = deliver_passed r j (sym (answer_deliver r s deliver) ∙ (step_passed r s acceptance).rule) in
      let rest = take (j - 1) (mail r) ++ drop j (mail r) in
      let now : mail (step r s).system ≡ rest ++ ms =
      then ∙ rw deliver (ap (λ (xs : List Message). xs ++ ms) (messages_dequeued r.network j low high (room l))) in
      rw (deliver, all, now)
      (by_cases
      (ℕ_discrete (position_without j k) 0)
      (λ z. inl z)
      (λ ne.
      let f = stands_left (is_for d) Empty (mail r) j k low (omega (arith, high, length_mail l)) some there ne in
      inr (stands_then (is_for d) Empty f (stands_joined (is_for d) Empty rest ms (position_without j k) f.some f.there)))))
      (λ other.
      let now : mail (step r s).system ≡ mail r ++ ms = then ∙ rw other refl in
      rw (other, now) (inr (stands_joined (is_for d) Empty (mail r) ms k some there))))

  -- steps
  pub steps_follow : (ss : List Step) (r : System) → Live n p r → (k : ℕ) → 1 ≤ k → k ≤ length (mail r) → Follows d 0 r k (steps r ss).system (followed r ss k)
  unfolding followed steps_by
  steps_follow [] r l k some there = inr (stands_itself (is_for d) Empty (mail r) k some there)
  steps_follow (s ∷ ss) r l k some there =
      let q = (step r s).system in
      let j = pick (is_deliver s && is_accepted (step_answer r s)) (position_without s.number k) k in
      follows_then d 0 0 r k q j (steps q ss).system (followed q ss j) (step_follows r l k some there s)
      (λ z. ap (followed q ss) z ∙ followed_none q ss)
      (λ f. steps_follow ss q (live_step_lem l s) j f.some f.there)
