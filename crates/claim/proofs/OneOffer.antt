-- There is never more than one offer letter of a channel and a number in the mail: each send has a number of its own, and forwarding keeps it.
use mathlib.Core.Path.{◌≡◌, refl, ap}
use mathlib.Core.Bool.{Bool, true, false}
use mathlib.Core.List.{List, [], ◌∷◌}
use Prim.Native.Nat.{ℕ, ◌+◌, ◌<◌, ◌≤◌}
use native.Mathlib.Omega.{arith}
use Rattle.std.specs.Prelude.{Ok}
use Rattle.base.specs.Choice.{pick}
use Rattle.base.specs.Lists.{count}
use Rattle.plan.specs.declared.Plan.{Plan}
use Rattle.plan.specs.declared.ChannelId.{ChannelId}
use Rattle.plan.specs.declared.Word.{Word}
use Rattle.plan.specs.Programs.{Programs, programs}
use Rattle.plan.specs.Refusals.{plan_answer}
use Rattle.rules.specs.declared.step.Step.{Step}
use Rattle.rules.specs.declared.system.System.{System}
use Rattle.rules.specs.Networks.{messages}
use Rattle.rules.specs.Starts.{started}
use Rattle.rules.specs.Steps.{step_answer, performed, step, steps_by, steps}
use Rattle.transitions.specs.Readings.{reading}
use Rattle.invariant.proofs.StartViews.{read_started}
use Rattle.invariant.proofs.Next.{Kept}
use Rattle.claim.specs.Chase.{is_offer, posts_offer, OneOffer}
use Rattle.claim.proofs.Lists.{step_either, left, kept_step}
use Rattle.claim.proofs.Whole.{start_kept}
use Rattle.claim.proofs.OfferPostings.{onward_offer}
use Rattle.claim.proofs.MailCounts.{takes}
use Rattle.claim.proofs.Origins.{sends, sends_grow, Origin, by_letter, by_send, origin, offers_then}

-- at most one letter, and none before the send of its number
pub record Alone (m : Programs) (r : System) (c : ChannelId) (w : ℕ) : Type 0 where
  pub one : count (is_offer c w) (messages r.network) ≤ 1
  pub none : sends m r c < w → count (is_offer c w) (messages r.network) ≡ 0

module _ (p : Plan) (a : plan_answer (programs p) ≡ Ok tt) (c : ChannelId) (w : ℕ) where
  accepted_alone : {r : System} {got : ChannelId → List Word} → Kept p r got → (s : Step) → step_answer r s ≡ Ok tt → Alone (programs p) r c w
      → Alone (programs p) (step r s).system c w
  accepted_alone {r} k s fine x = go (posts_offer c w (performed r s).posting) refl
    where
      balance : count (is_offer c w) (messages (step r s).system.network) + takes r s (is_offer c w)
          ≡ count (is_offer c w) (messages r.network) + pick (posts_offer c w (performed r s).posting) 1 0
      balance = offers_then p a k s fine c w

      from_origin : Origin (programs p) r s c w → posts_offer c w (performed r s).posting ≡ true → Alone (programs p) (step r s).system c w
      from_origin (by_letter kind on) posts =
          let one : pick {A = ℕ} (posts_offer c w (performed r s).posting) 1 0 ≡ 1 = rw posts refl in
          let its : takes r s (is_offer c w) ≡ 1 = rw (kind, onward_offer c w on posts) refl in
          record {
            one = omega (arith, balance, one, its, x.one);
            none = λ l. omega (arith, balance, one, its, x.none (omega (arith, l, sends_grow p a k s fine c)));
          }
      from_origin (by_send before then) posts =
          let one : pick {A = ℕ} (posts_offer c w (performed r s).posting) 1 0 ≡ 1 = rw posts refl in
          record { one = omega (arith, balance, one, x.none before); none = λ l. absurd (omega (arith, l, then)) }

      go : (b : Bool) → posts_offer c w (performed r s).posting ≡ b → Alone (programs p) (step r s).system c w
      go true posts = from_origin (origin p a k s fine c w posts) posts
      go false quiet =
          let zero : pick {A = ℕ} (posts_offer c w (performed r s).posting) 1 0 ≡ 0 = rw quiet refl in
          record { one = omega (arith, balance, zero, x.one); none = λ l. omega (arith, balance, zero, x.none (omega (arith, l, sends_grow p a k s fine c))) }

  alone_steps : {r : System} {got : ChannelId → List Word} → Kept p r got → (ss : List Step) → Alone (programs p) r c w
      → Alone (programs p) (steps r ss).system c w
  unfolding steps_by
  alone_steps k [] x = x
  alone_steps {r} k (s ∷ ss) x =
      alone_steps {r = (step r s).system} (kept_step p a k s) ss (step_either r s (λ e. rw (left r s e) x) (λ e. accepted_alone k s e x))

-- the mail is empty at the start
start_empty : (n : ℕ) (p : Plan) → messages (started n p).network ≡ []
unfolding reading
start_empty n p = ap (λ x. x.messages) (read_started n p)

pub alone : (n : ℕ) (p : Plan) (ss : List Step) → 1 ≤ n → n ≤ 6 → plan_answer (programs p) ≡ Ok tt → (c : ChannelId) (w : ℕ)
    → Alone (programs p) (steps (started n p) ss).system c w
unfolding count
alone n p ss some few a c w =
    let none : count (is_offer c w) (messages (started n p).network) ≡ 0 = rw (start_empty n p) refl in
    alone_steps p a c w (start_kept n p some few a) ss (record { one = omega (arith, none); none = λ l. none })

pub one_offer : OneOffer
one_offer n p ss c w some few a = (alone n p ss some few a c w).one
