-- An offer that has been posted: with each forwarding its letter gets a larger count, and no count in a letter is above the receiver's.
use mathlib.Core.Path.{◌≡◌, refl, sym, ap, ◌∙◌, subst}
use mathlib.Core.Bool.{Bool, true, false}
use mathlib.Core.List.{List, ◌++◌}
use Prim.Native.Nat.{ℕ, suc, ◌+◌, ◌≤◌}
use native.Mathlib.Omega.{arith}
use lib.Dec.{ltb}
use borrow.Author.Tests.{ltb-false, le-ltb}
use Rattle.std.specs.Prelude.{Ok}
use Rattle.base.specs.Choice.{pick}
use Rattle.base.specs.Lists.{count}
use Rattle.base.proofs.Counts.{count_append}
use Rattle.base.proofs.Tests.{and_right, within_low, within_high, tests_differ, is_false}
use Rattle.plan.specs.declared.Plan.{Plan}
use Rattle.plan.specs.declared.ChannelId.{ChannelId}
use Rattle.plan.specs.declared.Word.{Word}
use Rattle.plan.specs.Numbers.{channel_id}
use Rattle.plan.specs.Programs.{Programs, programs}
use Rattle.plan.specs.Refusals.{plan_answer}
use Rattle.plan.specs.Users.{receiver_of}
use Rattle.rules.specs.declared.message.Message.{Message}
use Rattle.rules.specs.declared.message.Message.TheVariants.{Offered}
use Rattle.rules.specs.declared.rule.Posting.{Posting}
use Rattle.rules.specs.declared.step.Step.{Step}
use Rattle.rules.specs.declared.system.System.{System}
use Rattle.rules.specs.Answers.{is_accepted}
use Rattle.rules.specs.Numbers.{channel_number_ok}
use Rattle.rules.specs.Networks.{messages, message_at, messages_of}
use Rattle.rules.specs.Systems.{task_at}
use Rattle.rules.specs.Steps.{is_deliver, step_answer, performed, step}
use Rattle.rules_sound.proofs.Kept.{standing}
use Rattle.channel.specs.Bags.{one}
use Rattle.channel.proofs.Bags.{in_new}
use Rattle.channel.proofs.Moves.{change_moves}
use Rattle.transitions.specs.Readings.{reading}
use Rattle.transitions.specs.Views.{view_of, receiver_view}
use Rattle.invariant.proofs.Next.{Kept, next}
use Rattle.claim.specs.Chase.{is_offer, posts_offer, forwards}
use Rattle.claim.proofs.Lists.{either, kept_step}
use Rattle.claim.proofs.OfferPostings.{Onward, offer_is, onward_offer}
use Rattle.claim.proofs.MailCounts.{mail_joined, takes, left_count, mail_count, posted_offers}
use Rattle.claim.proofs.Origins.{sends, sends_grow, Origin, by_letter, by_send, origin, offers_then}
use Rattle.claim.proofs.OfferLetters.{older, older_is, older_few, letter_count}

-- what counts for nothing fails
unpicked : (b : Bool) → pick {A = ℕ} b 1 0 ≡ 0 → b ≡ false
unpicked true e = absurd (omega (arith, e))
unpicked false e = refl

-- the offer (c, w) has been posted, and its letter, if there is one, has a count of at least k
pub record Chased (m : Programs) (r : System) (c : ChannelId) (w k : ℕ) : Type 0 where
  pub single : count (is_offer c w) (messages r.network) ≤ 1
  pub sent : w ≤ sends m r c
  pub young : count (older c w k) (messages r.network) ≡ 0
  pub below : k ≤ (task_at r (receiver_of m c)).moves

module _ (p : Plan) (a : plan_answer (programs p) ≡ Ok tt) (c : ChannelId) (w : ℕ) (number : channel_number_ok c ≡ true) where
  abbrev m : Programs
  m = programs p

  abbrev moves : System → ℕ
  moves r = (task_at r (receiver_of m c)).moves

  module _ {r : System} {got : ChannelId → List Word} (h : Kept p r got) (s : Step) (yes : step_answer r s ≡ Ok tt) where
    abbrev then : System
    then = (step r s).system

    abbrev posting : Posting
    posting = (performed r s).posting

    abbrev letter : Message
    letter = message_at r.network s.number

    moves_grow : moves r ≤ moves then
    unfolding view_of receiver_view reading
    moves_grow = change_moves ((next p a h s yes).changes c (within_low 1 128 c.0 number) (within_high 1 128 c.0 number))

    -- a step that posts no such offer
    quiet_keeps : {k : ℕ} → Chased m r c w k → posts_offer c w posting ≡ false → Chased m then c w k
    quiet_keeps {k} x quiet =
        let none : pick {A = ℕ} (posts_offer c w posting) 1 0 ≡ 0 = rw quiet refl in
        record {
          single = omega (arith, offers_then p a h s yes c w, none, x.single);
          sent = omega (arith, x.sent, sends_grow p a h s yes c);
          young =
              omega (
                arith,
                mail_count r s h.shaped yes (older c w k),
                x.young,
                older_few c w k (messages_of r.processors posting),
                posted_offers c w r.processors posting,
                none,
              );
          below = omega (arith, x.below, moves_grow);
        }

    -- one that forwards it
    onward_keeps : {k : ℕ} → Chased m r c w k → is_deliver s ≡ true → posts_offer c w posting ≡ true → Onward letter posting → Chased m then c w (suc k)
    unfolding count messages_of posts_offer
    onward_keeps {k} x kind posts u =
        let e = u.channel in
        let o = u.offered in
        let old = u.along in
        let new = u.onward in
        let its = onward_offer c w u posts in
        let was : is_offer c w (Offered e o old) ≡ true = ap (is_offer c w) (sym u.letter) ∙ its in
        let is : is_offer c w (Offered e o new) ≡ true = ap (posts_offer c w) (sym u.posted) ∙ posts in
        let one_posted : pick {A = ℕ} (posts_offer c w posting) 1 0 ≡ 1 = rw posts refl in
        let one-taken : takes r s (is_offer c w) ≡ 1 = rw (kind, its) refl in
        let rest : count (is_offer c w) (messages (standing r s)) ≡ 0 = omega (arith, left_count r s h.shaped yes (is_offer c w), one-taken, x.single) in
        let tested : takes r s (older c w k) ≡ pick (ltb old.moves k) 1 0 = rw (kind, u.letter, older_is c w k e o old was) refl in
        let high : k ≤ old.moves =
        ltb-false old.moves k (unpicked (ltb old.moves k) (omega (arith, tested, left_count r s h.shaped yes (older c w k), x.young))) in
        let ms = messages (standing r s) in
        let mail : messages then.network ≡ ms ++ one (Offered e o new) =
        mail_joined r s h.shaped yes ∙ ap (λ (q : Posting). ms ++ messages_of r.processors q) u.posted in
        let last : older c w (suc k) (Offered e o new) ≡ false =
        older_is c w (suc k) e o new is ∙ le-ltb new.moves (suc k) (omega (arith, high, u.newer)) in
        let none_last : count (older c w (suc k)) (one (Offered e o new)) ≡ 0 = rw last refl in
        let same : e ≡ c = ap channel_id (offer_is c w e o old was).0 in
        let bound = letter_count (kept_step p a h s) e o new (rw mail (in_new ms (Offered e o new))) in
        record {
          single = omega (arith, offers_then p a h s yes c w, one_posted, one-taken, x.single);
          sent = omega (arith, x.sent, sends_grow p a h s yes c);
          young =
              omega (
                arith,
                ap (count (older c w (suc k))) mail,
                count_append (older c w (suc k)) ms (one (Offered e o new)),
                older_few c w (suc k) ms,
                rest,
                none_last,
              );
          below = omega (arith, high, u.newer, bound, ap (λ (z : ChannelId). (task_at then (receiver_of m z)).moves) same);
        }

    -- either
    off : posts_offer c w posting ≡ false → forwards c w r s ≡ false
    unfolding forwards
    off quiet =
        is_false _ (λ z.
        tests_differ (and_right (is_offer c w letter) _ (and_right (is_accepted (step_answer r s)) _ (and_right (is_deliver s) _ z))) quiet)

    on : is_deliver s ≡ true → posts_offer c w posting ≡ true → Onward letter posting → forwards c w r s ≡ true
    unfolding forwards
    on kind posts u = rw (kind, ap is_accepted yes, onward_offer c w u posts) posts

    by_origin : {k : ℕ} → Chased m r c w k → posts_offer c w posting ≡ true → Origin m r s c w → Chased m then c w (pick (forwards c w r s) 1 0 + k)
    by_origin {k} x posts (by_letter kind u) =
        let e : suc k ≡ pick {A = ℕ} (forwards c w r s) 1 0 + k = rw (on kind posts u) (omega arith) in
        subst (Chased m then c w) e (onward_keeps x kind posts u)
    by_origin x posts (by_send before after) = absurd (omega (arith, before, x.sent))

    pub step_keeps : {k : ℕ} → Chased m r c w k → Chased m then c w (pick (forwards c w r s) 1 0 + k)
    step_keeps {k} x =
        either (posts_offer c w posting)
        (λ posts. by_origin x posts (origin p a h s yes c w posts))
        (λ quiet.
        let e : k ≡ pick {A = ℕ} (forwards c w r s) 1 0 + k = rw (off quiet) (omega arith) in
        subst (Chased m then c w) e (quiet_keeps x quiet))
