-- The longest chase: after the send that posts an offer, over any list of steps.
use mathlib.Core.Path.{◌≡◌, refl, ap, ◌∙◌}
use mathlib.Core.Bool.{true, false}
use mathlib.Core.List.{List, [], ◌∷◌, ◌++◌}
use Prim.Native.Nat.{ℕ, ◌+◌, ◌≤◌}
use native.Mathlib.Omega.{arith}
use borrow.Author.Tests.{eqb-true, eq-eqb, ne_eqb, le-ltb}
use Rattle.std.specs.Prelude.{Ok}
use Rattle.base.specs.Choice.{pick}
use Rattle.base.specs.Lists.{count}
use Rattle.base.proofs.Counts.{count_append}
use Rattle.base.proofs.Tests.{and_left, and_right, and_both, tests_differ, is_false}
use Rattle.plan.specs.declared.Plan.{Plan}
use Rattle.plan.specs.declared.ChannelId.{ChannelId}
use Rattle.plan.specs.declared.Word.{Word}
use Rattle.plan.specs.Programs.{programs}
use Rattle.plan.specs.Refusals.{plan_answer}
use Rattle.plan.specs.Users.{receiver_of}
use Rattle.rules.specs.declared.channel.Hint.{Hint}
use Rattle.rules.specs.declared.channel.Offer.{Offer}
use Rattle.rules.specs.declared.message.Message.TheVariants.{Offered}
use Rattle.rules.specs.declared.message.Network.{Network}
use Rattle.rules.specs.declared.rule.Posting.{Posting}
use Rattle.rules.specs.declared.step.Step.{Step}
use Rattle.rules.specs.declared.system.System.{System}
use Rattle.rules.specs.Answers.{is_accepted}
use Rattle.rules.specs.Numbers.{channel_number_ok}
use Rattle.rules.specs.Networks.{messages, messages_of}
use Rattle.rules.specs.Systems.{task_at}
use Rattle.rules.specs.Starts.{started}
use Rattle.rules.specs.Steps.{is_deliver, step_answer, performed, step, steps_by, steps}
use Rattle.rules_laws.proofs.Steps.{accepted_is, steps_by_system}
use Rattle.rules_sound.proofs.Kept.{standing}
use Rattle.channel.specs.Bags.{In, one}
use Rattle.channel.proofs.Bags.{in_new}
use Rattle.invariant.proofs.Next.{Kept}
use Rattle.claim.specs.Statement.{from}
use Rattle.claim.specs.Chase.{is_offer, posts_offer, forwards, forwards_of, Posts, receiver_moves, LongestChase}
use Rattle.claim.proofs.Lists.{step_either, left, kept_step}
use Rattle.claim.proofs.Whole.{list_kept}
use Rattle.claim.proofs.MailCounts.{mail_joined}
use Rattle.claim.proofs.Origins.{Origin, by_letter, by_send, origin, offers_then}
use Rattle.claim.proofs.OneOffer.{Alone, alone}
use Rattle.claim.proofs.OfferLetters.{older, older_is, older_few, letter_channel, letter_count}
use Rattle.claim.proofs.Chased.{Chased, step_keeps}

module _ (p : Plan) (a : plan_answer (programs p) ≡ Ok tt) (c : ChannelId) (w : ℕ) (number : channel_number_ok c ≡ true) where
  -- a list of steps; a refused one forwards nothing
  refused_off : (r : System) (s : Step) → is_accepted (step_answer r s) ≡ false → forwards c w r s ≡ false
  unfolding forwards
  refused_off r s e = is_false _ (λ z. tests_differ (and_left (is_accepted (step_answer r s)) _ (and_right (is_deliver s) _ z)) e)

  chase : {r : System} {got : ChannelId → List Word} → Kept p r got → (us : List Step) (k : ℕ) → Chased (programs p) r c w k
      → forwards_of c w r us + k ≤ (task_at (steps r us).system (receiver_of (programs p) c)).moves
  unfolding forwards_of steps_by
  chase h [] k x = omega (arith, x.below)
  chase {r} h (s ∷ us) k x =
      step_either r s
      (λ e.
      let none : pick {A = ℕ} (forwards c w r s) 1 0 ≡ 0 = rw (refused_off r s e) refl in
      let rest = ap (λ (q : System). forwards_of c w q us) (left r s e) in
      let same = ap (λ (q : System). (task_at (steps q us).system (receiver_of (programs p) c)).moves) (left r s e) in
      omega (arith, chase h us k x, none, rest, same))
      (λ e. omega (arith, chase {r = (step r s).system} (kept_step p a h s) us (pick (forwards c w r s) 1 0 + k) (step_keeps p a c w number h s e x)))

-- a send that posts an offer along the pointer `hint`
module _ (p : Plan) (a : plan_answer (programs p) ≡ Ok tt) {r : System} {got : ChannelId → List Word} (k : Kept p r got) (s : Step)
    (c : ChannelId) (o : Offer) (hint : Hint) (posts : Posts r s c o hint) where
  abbrev w : ℕ
  w = o.number

  yes : step_answer r s ≡ Ok tt
  yes = accepted_is (step_answer r s) posts.accepted

  no_delivery : is_deliver s ≡ false
  no_delivery = ne_eqb s.kind 2 (λ e. omega (arith, eqb-true s.kind 1 posts.run))

  its : is_offer c w (Offered c o hint) ≡ true
  unfolding is_offer
  its = and_both _ _ (eq-eqb c.0 c.0 refl) (eq-eqb w w refl)

  posted : posts_offer c w (performed r s).posting ≡ true
  unfolding posts_offer
  posted = ap (posts_offer c w) posts.posts ∙ its

  mail : messages (step r s).system.network ≡ messages r.network ++ one (Offered c o hint)
  unfolding messages_of
  mail =
      let here : standing r s ≡ r.network = rw no_delivery refl in
      mail_joined r s k.shaped yes
      ∙ ap (λ (q : Posting). messages (standing r s) ++ messages_of r.processors q) posts.posts
      ∙ ap (λ (n : Network). messages n ++ one (Offered c o hint)) here

  there : In (Offered c o hint) (messages (step r s).system.network)
  there = rw mail (in_new (messages r.network) (Offered c o hint))

  channel : channel_number_ok c ≡ true
  channel = letter_channel (kept_step p a k s) c o hint there

  begins : Alone (programs p) r c w → Origin (programs p) r s c w → Chased (programs p) (step r s).system c w hint.moves
  unfolding count
  begins x (by_letter kind u) = absurd (tests_differ kind no_delivery)
  begins x (by_send before then) =
      let one_posted : pick {A = ℕ} (posts_offer c w (performed r s).posting) 1 0 ≡ 1 = rw posted refl in
      let none = x.none before in
      let test = older c w hint.moves in
      let last : older c w hint.moves (Offered c o hint) ≡ false =
      older_is c w hint.moves c o hint its ∙ le-ltb hint.moves hint.moves (omega arith) in
      let none_last : count test (one (Offered c o hint)) ≡ 0 = rw last refl in
      record {
        single = omega (arith, offers_then p a k s yes c w, one_posted, none);
        sent = then;
        young =
            omega (
              arith,
              ap (count test) mail,
              count_append test (messages r.network) (one (Offered c o hint)),
              older_few c w hint.moves (messages r.network),
              none,
              none_last,
            );
        below = letter_count (kept_step p a k s) c o hint there;
      }

  pub chase_from : Alone (programs p) r c w → (us : List Step)
      → forwards_of c w (step r s).system us + hint.moves ≤ (task_at (steps (step r s).system us).system (receiver_of (programs p) c)).moves
  chase_from x us = chase p a c w channel (kept_step p a k s) us hint.moves (begins x (origin p a k s yes c w posted))

pub longest_chase_lem : LongestChase
unfolding steps_by
longest_chase_lem n p ss us s c o h some few a posts =
    let r = (from n p ss).system in
    let end = (from n p (ss ++ (s ∷ us))).system in
    let most = chase_from p a (list_kept n p some few a ss) s c o h posts (alone n p ss some few a c o.number) us in
    let plan = (list_kept n p some few a (ss ++ (s ∷ us))).plan in
    let same : receiver_moves end c ≡ (task_at (steps (step r s).system us).system (receiver_of (programs p) c)).moves =
    ap (λ (z : Plan). (task_at end (receiver_of (programs z) c)).moves) plan
    ∙ ap (λ (q : System). (task_at q (receiver_of (programs p) c)).moves) (steps_by_system step (started n p) ss (s ∷ us)) in
    omega (arith, most, same)
