-- A delivery: of each channel, the words under way and the one that leaves are the one received and those under way then.
use mathlib.Core.Path.{◌≡◌, refl, sym, ap, subst, ◌∙◌}
use mathlib.Core.Logic.{by_cases}
use mathlib.Core.Bool.{true}
use mathlib.Core.List.{List, [], ◌∷◌, ◌++◌}
use Prim.Native.Nat.{ℕ, ◌+◌, ◌-◌, ◌≤◌}
use native.Mathlib.Decide.{ℕ_discrete}
use native.Mathlib.Omega.{arith}
use lib.ListN.{length, length-append, take, drop}
use Rattle.std.specs.Prelude.{None, Some, Ok}
use Rattle.base.proofs.Tests.{within_low, within_high, and_left}
use Rattle.plan.specs.declared.Plan.{Plan}
use Rattle.plan.specs.declared.ProcessorId.{ProcessorId}
use Rattle.plan.specs.declared.ChannelId.{ChannelId}
use Rattle.plan.specs.declared.Word.{Word as WordOf}
use Rattle.plan.specs.Programs.{programs}
use Rattle.plan.specs.Refusals.{plan_answer}
use Rattle.rules.specs.declared.message.Message.{Message}
use Rattle.rules.specs.declared.message.Network.{Network}
use Rattle.rules.specs.declared.message.Message.TheVariants.{Empty, Offered, Advert, ReadyToReceive, Data, Terminated, Migration}
use Rattle.rules.specs.declared.rule.Posting.TheVariants.{Nothing}
use Rattle.rules.specs.declared.system.System.{System}
use Rattle.rules.specs.Numbers.{channel_number_ok}
use Rattle.rules.specs.Networks.{messages, message_at, dequeued, messages_of}
use Rattle.rules.specs.Systems.{with_network, meaning, channel_at}
use Rattle.rules.specs.Effects.{Effect, completed, site_at, with_outcome}
use Rattle.rules.specs.Calls.{data_rule}
use Rattle.rules.specs.Deliver.{opened, delivered}
use Rattle.rules.specs.Sound.{message_ok}
use Rattle.rules.specs.Steps.{word_on}
use Rattle.rules.specs.Logs.{letter_word, posted_word, words_on, under_way_on}
use Rattle.rules_laws.proofs.Changes.{opened_network}
use Rattle.rules_laws.proofs.Messages.{messages_enqueued_all, messages_split, messages_dequeued, dequeued_used, dequeued_size}
use Rattle.rules_laws.proofs.Sound.{messages_fit}
use Rattle.net.specs.Nets.{Reached}
use Rattle.channel.proofs.Claims.{few_messages}
use Rattle.transitions.specs.Messages.{messages_on}
use Rattle.transitions.specs.Readings.{reading}
use Rattle.transitions.specs.Views.{view_of}
use Rattle.transitions.specs.Agreement.{Running}
use Rattle.transitions.proofs.Flats.{words_length}
use Rattle.transitions.proofs.Rigs.{message_ok_lem}
use Rattle.invariant.proofs.Next.{Kept}
use Rattle.claim.specs.Statement.{finds_its}
use Rattle.claim.proofs.Finds.{finds}
use Rattle.claim.proofs.SentWords.{under_way_append, posted_words, under_way_words}
use Rattle.claim.proofs.SentPostings.{handled, data_posts}
use Rattle.claim.proofs.PassingWords.{no_word_before, no_word_behind, word_elsewhere, word_here}

-- the letters of an effect join the mail
module _ (e : Effect) (room : e.system.network.used + length (messages_of e.system.processors e.posting) ≤ length e.system.network.slots) where
  pub joined_mail : (c : ChannelId) → under_way_on c (messages (completed e).network) ≡ under_way_on c (messages e.system.network) ++ word_on c (posted_word e.posting)
  unfolding completed
  joined_mail c =
      ap (under_way_on c) (messages_enqueued_all e.system.network (messages_of e.system.processors e.posting) room)
      ∙ under_way_append c (messages e.system.network) (messages_of e.system.processors e.posting)
      ∙ ap (under_way_on c (messages e.system.network) ++◌) (posted_words c e.system.processors e.posting)

-- a word letter that finds its receiver is received
word_supposed : (r : System) (network : Network) (c : ChannelId) (d : ProcessorId) (w : WordOf) → finds_its r (Data c d w) ≡ true
    → (opened (with_network r network) (Data c d w)).received ≡ Some (c, w)
unfolding finds_its opened with_outcome site_at data_rule channel_at
word_supposed r network c d w e = rw e refl

word_posts : (r : System) (c : ChannelId) (d : ProcessorId) (w : WordOf) → (opened r (Data c d w)).posting ≡ Nothing
unfolding opened with_outcome
word_posts r c d w = data_posts _ c d w

word_channel : (n m : ℕ) (c : ChannelId) (d : ProcessorId) (w : WordOf) → message_ok n m (Data c d w) ≡ true → channel_number_ok c ≡ true
unfolding message_ok
word_channel n m c d w e = and_left (channel_number_ok c) _ e

-- one letter out of a list of which it is the only one
taken_out : (F B : List WordOf) (w : WordOf) → length (F ++ (w ∷ B)) ≤ 1 → F ++ (w ∷ B) ≡ w ∷ (F ++ B)
taken_out [] B w l = refl
taken_out (v ∷ F) B w l = absurd (omega (arith, length-append F (w ∷ B)))

module _ (p : Plan) (a : plan_answer (programs p) ≡ Ok tt) {r : System} {w : ChannelId → List WordOf} (k : Kept p r w) where
  -- what holds of r, said with the plan that it has
  pub here : Running (meaning r) k.histories k.state (reading r) w
  here = subst (λ (z : Plan). Running (programs z) k.histories k.state (reading r) w) (sym k.plan) k.running

  pub here_reached : Reached (meaning r) k.labels k.state
  here_reached = subst (λ (z : Plan). Reached (programs z) k.labels k.state) (sym k.plan) k.reached

  -- at most one word of a channel is under way
  pub few_under_way : (c : ChannelId) → 1 ≤ c.0 → c.0 ≤ 128 → length (under_way_on c (messages r.network)) ≤ 1
  unfolding view_of reading
  few_under_way c low high =
      let view = view_of (programs p) k.histories (reading r) c in
      omega (arith, ap length (under_way_words c (messages r.network)), words_length (messages_on c (messages r.network)), few_messages view (k.running.views c low high))

  -- a delivery, by its letter
  module _ (i : ℕ) (low : 1 ≤ i) (high : i ≤ r.network.used) where
    abbrev emptied : System
    emptied = with_network r (dequeued r.network i)

    abbrev Delivers : ChannelId → Type 0
    Delivers c =
        under_way_on c (messages r.network) ++ word_on c (posted_word (delivered r i).posting)
        ≡ word_on c (delivered r i).received ++ under_way_on c (messages (completed (delivered r i)).network)

    slots : r.network.used ≤ length r.network.slots
    slots = omega (arith, k.shaped.slots, messages_fit r k.ok)

    module _ (c : ChannelId) where
      -- the words before the letter and behind it
      abbrev before : List WordOf
      before = under_way_on c (take (i - 1) (messages r.network))

      abbrev behind : List WordOf
      behind = under_way_on c (drop i (messages r.network))

      with_letter : under_way_on c (messages r.network) ≡ before ++ (word_on c (letter_word (message_at r.network i)) ++ behind)
      unfolding words_on
      with_letter =
          ap (under_way_on c) (messages_split r.network i low high slots)
          ∙ under_way_append c (take (i - 1) (messages r.network)) (message_at r.network i ∷ drop i (messages r.network))

      without_letter : under_way_on c (messages emptied.network) ≡ before ++ behind
      without_letter =
          ap (under_way_on c) (messages_dequeued r.network i low high slots)
          ∙ under_way_append c (take (i - 1) (messages r.network)) (drop i (messages r.network))

      mail : under_way_on c (messages (completed (delivered r i)).network) ≡ (before ++ behind) ++ word_on c (posted_word (delivered r i).posting)
      unfolding delivered
      mail =
          let e = opened emptied (message_at r.network i) in
          let network = opened_network emptied (message_at r.network i) in
          let few = (handled emptied (message_at r.network i)).few e.system.processors in
          let room : e.system.network.used + length (messages_of e.system.processors e.posting) ≤ length e.system.network.slots =
          rw network (omega (arith, few, low, high, dequeued_used r.network i, dequeued_size r.network i low high slots, slots)) in
          joined_mail e room c ∙ ap (◌++ word_on c (posted_word e.posting)) (ap (λ (n : Network). under_way_on c (messages n)) network ∙ without_letter)

      -- a letter without a word
      plain_moves : letter_word (message_at r.network i) ≡ None → Delivers c
      plain_moves none =
          let got : (delivered r i).received ≡ None = unfold delivered in (handled emptied (message_at r.network i)).received none in
          rw (mail, got, with_letter, none, no_word_before c behind, no_word_before c ((before ++ behind) ++ word_on c (posted_word (delivered r i).posting))) refl

      -- a word letter, which finds its receiver
      word_moves : (e : ChannelId) (d : ProcessorId) (v : WordOf) → message_at r.network i ≡ Data e d v → Delivers c
      unfolding delivered letter_word posted_word
      word_moves e d v is =
          let found : finds_its r (Data e d v) ≡ true = rw is at (finds r k.shaped k.ok k.histories here i low high) in
          let got : (opened emptied (message_at r.network i)).received ≡ Some (e, v) = rw is (word_supposed r (dequeued r.network i) e d v found) in
          let none : (opened emptied (message_at r.network i)).posting ≡ Nothing = rw is (word_posts emptied e d v) in
          let fine = message_ok_lem r k.shaped k.ok i low high (Data e d v) is in
          let number = word_channel r.processors r.plan.tasks e d v fine in
          let letter : letter_word (message_at r.network i) ≡ Some (e, v) = ap letter_word is in
          rw (mail, got, with_letter, letter, none, no_word_behind c (before ++ (word_on c (Some (e, v)) ++ behind)), no_word_behind c (before ++ behind))
          (by_cases
          (ℕ_discrete c.0 e.0)
          (λ (q : c.0 ≡ e.0).
          let few = few_under_way c (omega (arith, within_low 1 128 e.0 number)) (omega (arith, within_high 1 128 e.0 number)) in
          rw (word_here e c v q) (taken_out before behind v (rw (with_letter, letter, word_here e c v q) at few)))
          (λ ne. rw (word_elsewhere e c v ne) refl))

    pub delivered_moves : (c : ChannelId) → Delivers c
    unfolding letter_word
    delivered_moves c = go (message_at r.network i) refl
      where
        go : (m : Message) → message_at r.network i ≡ m → Delivers c
        go Empty e = plain_moves c (ap letter_word e)
        go (Offered f o h) e = plain_moves c (ap letter_word e)
        go (Advert f d from) e = plain_moves c (ap letter_word e)
        go (ReadyToReceive f d h) e = plain_moves c (ap letter_word e)
        go (Data f d v) e = word_moves c f d v e
        go (Terminated h t) e = plain_moves c (ap letter_word e)
        go (Migration d t) e = plain_moves c (ap letter_word e)
