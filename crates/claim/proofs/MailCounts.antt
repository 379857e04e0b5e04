-- How many letters in the mail pass a test, after an accepted step: a delivery takes its letter, and those that are posted join.
use mathlib.Core.Path.{◌≡◌, refl, sym, ap, ◌∙◌}
use mathlib.Core.Bool.{Bool, true, false, ◌&&◌}
use mathlib.Core.List.{List, [], ◌∷◌, ◌++◌}
use Prim.Native.Nat.{ℕ, zero, suc, ◌+◌, ◌-◌, ◌≤◌}
use native.Mathlib.Omega.{arith}
use lib.Dec.{eqb}
use lib.ListN.{length, take, drop}
use Rattle.std.specs.Prelude.{Ok}
use Rattle.base.specs.Choice.{pick}
use Rattle.base.specs.Lists.{count}
use Rattle.base.specs.Range.{fold, joined}
use Rattle.base.proofs.Choices.{pick_either}
use Rattle.base.proofs.Counts.{count_append}
use Rattle.plan.specs.declared.ChannelId.{ChannelId}
use Rattle.plan.specs.declared.ProcessorId.{ProcessorId}
use Rattle.rules.specs.declared.message.Message.{Message}
use Rattle.rules.specs.declared.message.Message.TheVariants.{Advert}
use Rattle.rules.specs.declared.rule.Posting.{Posting}
use Rattle.rules.specs.declared.rule.Posting.TheVariants.{Nothing, Single, Adverts}
use Rattle.rules.specs.declared.step.Step.{Step}
use Rattle.rules.specs.declared.system.System.{System}
use Rattle.rules.specs.Numbers.{processor_id}
use Rattle.rules.specs.Networks.{messages, message_at, dequeued, messages_of}
use Rattle.rules.specs.Effects.{completed}
use Rattle.rules.specs.Steps.{is_deliver, step_answer, performed, step}
use Rattle.rules_laws.specs.Shapes.{Shaped}
use Rattle.rules_laws.proofs.Messages.{messages_enqueued_all, messages_split, messages_dequeued}
use Rattle.rules_laws.proofs.Sound.{messages_fit}
use Rattle.rules_laws.proofs.Steps.{step_accepted, step_passed}
use Rattle.rules_laws.proofs.StepKinds.{answer_deliver, deliver_passed}
use Rattle.rules_sound.proofs.Sound.{sound}
use Rattle.rules_sound.proofs.Kept.{standing, step_performed}
use Rattle.claim.specs.Chase.{is_offer, posts_offer}

-- who passes one test passes another
pub count_less : {A : Type 0} (p q : A → Bool) → ((x : A) → pick (p x) 1 0 ≤ pick (q x) 1 0) → (xs : List A) → count p xs ≤ count q xs
unfolding count
count_less p q h [] = omega arith
count_less p q h (x ∷ xs) = omega (arith, h x, count_less p q h xs)

-- 1 if a step delivers a letter that passes the test, else 0
abbrev pub takes : System → Step → (Message → Bool) → ℕ
takes r s test = pick (is_deliver s && test (message_at r.network s.number)) 1 0

-- an accepted step: the letters that it leaves, and behind them those that it posts
module _ (r : System) (s : Step) (z : Shaped r) (yes : step_answer r s ≡ Ok tt) where
  pub mail_joined : messages (step r s).system.network ≡ messages (standing r s) ++ messages_of r.processors (performed r s).posting
  unfolding completed
  mail_joined =
      let d = step_performed r z (sound r z (step_passed r s yes).system) s yes in
      let ms = messages_of r.processors (performed r s).posting in
      let size : length (standing r s).slots ≡ 256 = rw d.fine.system.network at d.fine.system.shaped.slots in
      rw (step_accepted r s yes, d.fine.system.network, d.fine.system.processors)
      (messages_enqueued_all (standing r s) ms (omega (arith, size, d.fitting)))

  module _ (test : Message → Bool) where
    -- without the letter that is delivered
    taken : is_deliver s ≡ true
        → count test (messages (dequeued r.network s.number)) + pick (test (message_at r.network s.number)) 1 0 ≡ count test (messages r.network)
    unfolding count
    taken kind =
        let n = r.network in
        let i = s.number in
        let (low, high) = deliver_passed r i (sym (answer_deliver r s kind) ∙ (step_passed r s yes).rule) in
        let room : n.used ≤ length n.slots = omega (arith, z.slots, messages_fit r (step_passed r s yes).system) in
        let front = take (i - 1) (messages n) in
        let back = drop i (messages n) in
        let before = ap (count test) (messages_split n i low high room) ∙ count_append test front (message_at n i ∷ back) in
        let then = ap (count test) (messages_dequeued n i low high room) ∙ count_append test front back in
        omega (arith, before, then)

    pub left_count : count test (messages (standing r s)) + takes r s test ≡ count test (messages r.network)
    left_count = go (is_deliver s) refl
      where
        go : (b : Bool) → is_deliver s ≡ b → count test (messages (standing r s)) + takes r s test ≡ count test (messages r.network)
        go true e = rw e (taken e)
        go false e = rw e (omega arith)

    pub mail_count : count test (messages (step r s).system.network) + takes r s test
        ≡ count test (messages r.network) + count test (messages_of r.processors (performed r s).posting)
    mail_count =
        omega (
          arith,
          left_count,
          ap (count test) mail_joined,
          count_append test (messages (standing r s)) (messages_of r.processors (performed r s).posting),
        )

-- of the letters that are posted, the offer of channel c with number w
module _ (c : ChannelId) (w : ℕ) where
  no_adverts : (n : ℕ) (e : ChannelId) (d : ProcessorId)
      → count (is_offer c w) (joined n (λ k. pick (eqb (suc k) d.0) [] (Advert e (processor_id (suc k)) d ∷ []))) ≡ 0
  unfolding fold count is_offer
  no_adverts zero e d = refl
  no_adverts (suc n) e d =
      let f : ℕ → List Message = λ k. pick (eqb (suc k) d.0) [] (Advert e (processor_id (suc k)) d ∷ []) in
      let last : count (is_offer c w) (f n) ≡ 0 =
      pick_either (λ ms. count (is_offer c w) ms ≡ 0) (eqb (suc n) d.0) [] (Advert e (processor_id (suc n)) d ∷ []) refl refl in
      omega (arith, count_append (is_offer c w) (joined n f) (f n), no_adverts n e d, last)

  pub posted_offers : (n : ℕ) (p : Posting) → count (is_offer c w) (messages_of n p) ≡ pick (posts_offer c w p) 1 0
  unfolding messages_of posts_offer count
  posted_offers n Nothing = refl
  posted_offers n (Single m) = omega arith
  posted_offers n (Adverts e d) = no_adverts n e d
