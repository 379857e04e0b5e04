-- What the rules post, as far as offers go: a run posts an offer only by a send, with that send's number, and a delivery only where it forwards one.
use mathlib.Core.Path.{◌≡◌, refl, sym, ap, ◌∙◌}
use mathlib.Core.Bool.{true, false, not, ◌&&◌, true≢false}
use Prim.Native.Nat.{ℕ, ◌<◌}
use lib.Dec.{eqb}
use borrow.Author.Tests.{eqb-true, ltb-true}
use Rattle.base.specs.Sets.{member}
use Rattle.base.proofs.Choices.{pick_cases, pick_either}
use Rattle.base.proofs.Tests.{and_left, and_right}
use Rattle.plan.specs.declared.ChannelId.{ChannelId}
use Rattle.plan.specs.declared.ProcessorId.{ProcessorId}
use Rattle.plan.specs.declared.TaskId.{TaskId}
use Rattle.plan.specs.declared.Word.{Word as WordOf}
use Rattle.plan.specs.Kinds.{op_create, op_sync, op_finish, op_send, op_receive, op_set}
use Rattle.plan.specs.Numbers.{task_id, channel_id, same_task, same_processor}
use Rattle.plan.specs.Users.{receiver_of}
use Rattle.rules.specs.declared.channel.Hint.{Hint}
use Rattle.rules.specs.declared.channel.Offer.{Offer}
use Rattle.rules.specs.declared.message.Message.{Message}
use Rattle.rules.specs.declared.message.Message.TheVariants.{Empty, Offered, Advert, ReadyToReceive, Data, Terminated, Migration}
use Rattle.rules.specs.declared.rule.Outcome.{Outcome}
use Rattle.rules.specs.declared.rule.Site.{Site}
use Rattle.rules.specs.declared.rule.Posting.{Posting}
use Rattle.rules.specs.declared.rule.Posting.TheVariants.{Single}
use Rattle.rules.specs.declared.rule.Finished.{Finished}
use Rattle.rules.specs.declared.rule.Ended.{Ended}
use Rattle.rules.specs.declared.system.ParentEntry.{ParentEntry}
use Rattle.rules.specs.declared.system.System.{System}
use Rattle.rules.specs.declared.task.Task.{Task}
use Rattle.rules.specs.Numbers.{is_none}
use Rattle.rules.specs.Hints.{is_unknown, newer, points_on}
use Rattle.rules.specs.Tasks.{is_at}
use Rattle.rules.specs.Cells.{counts, none_called, offer}
use Rattle.rules.specs.Places.{send_number}
use Rattle.rules.specs.Systems.{task_at, task_program, meaning}
use Rattle.rules.specs.Effects.{Effect, site_at, with_outcome}
use Rattle.rules.specs.Local.{finish_rule}
use Rattle.rules.specs.Send.{send_passes, send_waits, send_rule}
use Rattle.rules.specs.Receive.{receive_passes, receive_waits, receive_rule}
use Rattle.rules.specs.Offers.{offer_rule, advert_rule}
use Rattle.rules.specs.Calls.{call_rule, data_rule}
use Rattle.rules.specs.Arrivals.{terminated_rule}
use Rattle.rules.specs.Runs.{ran_create, ran_finish, ran_send, ran_receive, executed, ran, next_of}
use Rattle.rules.specs.Deliver.{got_terminated, opened}
use Rattle.claim.specs.Chase.{is_offer, posts_offer}

-- task t is to send on channel c, and w is that send's number
pub record SendsNumber (r : System) (t : TaskId) (c : ChannelId) (w : ℕ) : Type 0 where
  pub kind : (next_of r t).opcode ≡ op_send
  pub operand : (next_of r t).operand ≡ c.0
  pub number : w ≡ send_number (task_program r t) c (task_at r t).pc

-- the letter m is an offer, and is posted again along a pointer with a larger count
pub record Onward (m : Message) (p : Posting) : Type 0 where
  pub channel : ChannelId
  pub offered : Offer
  pub along : Hint
  pub onward : Hint
  pub letter : m ≡ Offered channel offered along
  pub posted : p ≡ Single (Offered channel offered onward)
  pub newer : along.moves < onward.moves

-- a test that fails does not hold
none : {C : Type 0} → false ≡ true → C
none e = absurd (true≢false (sym e))

module _ (c : ChannelId) (w : ℕ) where
  -- the offer is posted
  abbrev Posted : Posting → Type 0
  Posted p = posts_offer c w p ≡ true

  pub offer_is : (e : ChannelId) (o : Offer) (h : Hint) → is_offer c w (Offered e o h) ≡ true → (e.0 ≡ c.0) × (o.number ≡ w)
  unfolding is_offer
  offer_is e o h z = (eqb-true e.0 c.0 (and_left (eqb e.0 c.0) _ z), eqb-true o.number w (and_right (eqb e.0 c.0) _ z))

  -- by a send
  send_posts : (x : Site) (e : ChannelId) (v : ℕ) → Posted (send_rule x e v).posting → (e.0 ≡ c.0) × (v ≡ w)
  unfolding send_rule send_passes send_waits posts_offer
  send_posts x e v =
      let Q : Outcome → Type 0 = λ o. Posted o.posting → (e.0 ≡ c.0) × (v ≡ w) in
      let d = x.sender.processor in
      let h = x.cell.entry.hint in
      pick_either Q (is_at d x.receiver && (x.receiving && not x.cell.channel.awaiting)) _ _ (λ z. none z)
      (pick_either Q (is_at d x.receiver) _ _ (λ z. none z)
      (pick_either Q (is_unknown h) _ _ (λ z. none z) (pick_either Q (same_processor h.processor d) _ _ (λ z. none z) (offer_is e (offer d v) h))))

  -- by nothing else that a task runs
  receive_quiet : {C : Type 0} (x : Site) (e : ChannelId) (v : ℕ) → Posted (receive_rule x e v).posting → C
  unfolding receive_rule receive_passes receive_waits posts_offer is_offer
  receive_quiet {C} x e v =
      let Q : Outcome → Type 0 = λ o. Posted o.posting → C in
      pick_either Q (x.sending && is_at x.receiver.processor x.sender) _ _ (λ z. none z)
      (pick_either Q (counts x.cell x.cell.channel.carried) _ _ (λ z. none z)
      (pick_either Q (none_called x.cell && not (is_none x.cell.entry.noted)) _ _ (λ z. none z) (λ z. none z)))

  finish_quiet : {C : Type 0} (t : TaskId) (x parent : Task) (e : ParentEntry) → Posted (finish_rule t x parent e).posting → C
  unfolding finish_rule posts_offer is_offer
  finish_quiet {C} t x parent e =
      let Q : Finished → Type 0 = λ o. Posted o.posting → C in
      pick_either Q (same_task t (task_id 1)) _ _ (λ z. none z)
      (pick_either Q (is_at x.processor parent) _ _ (λ z. none z)
      (pick_either Q (same_processor (newer e.hint x.origin).processor x.processor) _ _ (λ z. none z) (λ z. none z)))

  pub ran_posts : (r : System) (t : TaskId) → Posted (ran r t).posting → SendsNumber r t c w
  unfolding ran executed ran_create ran_finish ran_send ran_receive with_outcome site_at posts_offer
  ran_posts r t =
      let i = next_of r t in
      let e = channel_id i.operand in
      let x = site_at r t (receiver_of (meaning r) e) e (task_at r t).processor in
      let v = send_number (task_program r t) e (task_at r t).pc in
      let Q : Effect → Type 0 = λ f. Posted f.posting → SendsNumber r t c w in
      pick_either Q (eqb i.opcode op_create) _ _ (λ z. none z)
      (pick_either Q (eqb i.opcode op_sync) _ _ (λ z. none z)
      (pick_either Q (eqb i.opcode op_finish) _ _ (finish_quiet t _ _ _)
      (pick_cases Q (eqb i.opcode op_send) _ _
      (λ kind z.
      let (channel, number) = send_posts x e v z in
      record {
        kind = eqb-true i.opcode op_send kind;
        operand = channel;
        number = sym number ∙ ap (λ (n : ℕ). send_number (task_program r t) (channel_id n) (task_at r t).pc) channel;
      })
      (λ kind.
      pick_either Q (eqb i.opcode op_receive) _ _ (receive_quiet _ _ _)
      (pick_either Q (eqb i.opcode op_set) _ _ (λ z. none z) (λ z. none z))))))

  -- by a letter that is delivered
  offer_posts : (x : Site) (e : ChannelId) (o : Offer) (h : Hint) → Posted (offer_rule x e o h).posting → Onward (Offered e o h) (offer_rule x e o h).posting
  unfolding offer_rule posts_offer is_offer
  offer_posts x e o h =
      let Q : Outcome → Type 0 = λ q. Posted q.posting → Onward (Offered e o h) q.posting in
      let d = h.processor in
      let own = x.cell.entry.hint in
      pick_either Q (not (counts x.cell o) && is_at d x.receiver) _ _ (λ z. none z)
      (pick_either Q (is_at d x.receiver && (x.receiving && not x.cell.channel.awaiting)) _ _ (λ z. none z)
      (pick_either Q (is_at d x.receiver) _ _ (λ z. none z)
      (pick_cases Q (points_on own h d) _ _
      (λ on z.
      record {
        channel = e;
        offered = o;
        along = h;
        onward = own;
        letter = refl;
        posted = refl;
        newer = ltb-true h.moves own.moves (and_right (not (same_processor own.processor d)) _ on);
      })
      (λ off z. none z))))

  advert_quiet : {C : Type 0} (x : Site) (e : ChannelId) (d from : ProcessorId) → Posted (advert_rule x e d from).posting → C
  unfolding advert_rule posts_offer is_offer
  advert_quiet {C} x e d from =
      let Q : Outcome → Type 0 = λ o. Posted o.posting → C in
      pick_either Q (is_at d x.receiver && (x.receiving && none_called x.cell)) _ _ (λ z. none z) (λ z. none z)

  call_quiet : {C : Type 0} (x : Site) (e : ChannelId) (d : ProcessorId) (h : Hint) → Posted (call_rule x e d h).posting → C
  unfolding call_rule posts_offer is_offer
  call_quiet {C} x e d h =
      let Q : Outcome → Type 0 = λ o. Posted o.posting → C in
      pick_either Q (x.sending && is_at d x.sender) _ _ (λ z. none z) (λ z. none z)

  data_quiet : {C : Type 0} (x : Site) (e : ChannelId) (d : ProcessorId) (v : WordOf) → Posted (data_rule x e d v).posting → C
  unfolding data_rule posts_offer is_offer
  data_quiet {C} x e d v =
      let Q : Outcome → Type 0 = λ o. Posted o.posting → C in
      pick_either Q (is_at d x.receiver && (x.receiving && x.cell.channel.awaiting)) _ _ (λ z. none z) (λ z. none z)

  ended_quiet : {C : Type 0} (parent : Task) (e : ParentEntry) (h : Hint) (t : TaskId) → Posted (terminated_rule parent e h t).posting → C
  unfolding terminated_rule posts_offer is_offer
  ended_quiet {C} parent e h t =
      let Q : Ended → Type 0 = λ o. Posted o.posting → C in
      let d = h.processor in
      pick_either Q (not (member t.0 parent.children)) _ _ (λ z. none z)
      (pick_either Q (is_at d parent) _ _ (λ z. none z) (pick_either Q (points_on e.hint h d) _ _ (λ z. none z) (λ z. none z)))

  pub opened_posts : (r : System) (m : Message) → Posted (opened r m).posting → Onward m (opened r m).posting
  unfolding opened with_outcome got_terminated posts_offer
  opened_posts r Empty = λ z. none z
  opened_posts r (Offered e o h) = offer_posts _ e o h
  opened_posts r (Advert e d from) = advert_quiet _ e d from
  opened_posts r (ReadyToReceive e d h) = call_quiet _ e d h
  opened_posts r (Data e d v) = data_quiet _ e d v
  opened_posts r (Terminated h t) = ended_quiet _ _ h t
  opened_posts r (Migration d t) = λ z. none z

  -- the letter is the offer that is posted again
  pub onward_offer : {m : Message} {p : Posting} → Onward m p → Posted p → is_offer c w m ≡ true
  unfolding is_offer posts_offer
  onward_offer u posts = ap (is_offer c w) u.letter ∙ ap (posts_offer c w) (sym u.posted) ∙ posts
