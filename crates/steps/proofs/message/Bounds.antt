-- A letter about a channel that can be opened: the numbers that it is opened by are within the limits.
use mathlib.Core.Path.{◌≡◌, sym, ap, ◌∙◌}
use mathlib.Core.Bool.{true}
use mathlib.Core.List.{List}
use mathlib.Core.Logic.{◌≢◌}
use Prim.Native.Nat.{ℕ, ◌-◌, ◌≤◌, ◌<◌}
use native.Mathlib.Omega.{arith}
use lib.ListN.{get_or}
use borrow.Author.Tests.{ne_eqb}
use Rattle.base.proofs.Tests.{and_left, and_right, within_low, within_high}
use Rattle.plan.specs.declared.TaskId.{TaskId}
use Rattle.plan.specs.declared.ChannelId.{ChannelId}
use Rattle.plan.specs.declared.ProcessorId.{ProcessorId}
use Rattle.plan.specs.declared.Word.{Word}
use Rattle.plan.specs.Programs.{programs}
use Rattle.plan.specs.Users.{sender_of, receiver_of}
use Rattle.plan_laws.proofs.Ends.{ends_differ}
use Rattle.rules.specs.declared.channel.Hint.{Hint}
use Rattle.rules.specs.declared.channel.Offer.{Offer}
use Rattle.rules.specs.declared.message.Message.{Message}
use Rattle.rules.specs.declared.message.Message.TheVariants.{Offered, Advert, ReadyToReceive, Data}
use Rattle.rules.specs.Numbers.{channel_number_ok, processor_ok}
use Rattle.rules.specs.Systems.{read_channel, task_in}
use Rattle.rules.specs.Sound.{made_ok, known_ok, message_ok}
use Rattle.rig_parts.specs.Facts.{Facts}
use Rattle.rig_parts.specs.Fetches.{cell_of}
use Rattle.rig_parts.specs.Scopes.{named_in, channel_scope}
use Rattle.rig_parts.proofs.Names.{sender_named, receiver_named}
use Rattle.rig_parts.proofs.BoundsParts.{within_wider, rig_sound, count_few, processors_few, sender_few, receiver_few}
use Rattle.rig_parts.proofs.BoundsScope.{Reached, scope_reached}
use Rattle.plan_index.specs.user_table.Users.{senders_of, receivers_of}
use Rattle.board.specs.declared.act.Size.{Size}
use Rattle.board.specs.Lent.{Lent, Whole, AtCell, tasks_on, channels_on, tasks_of, kept_of}
use Rattle.board.specs.Rigs.{RigOn, Opens}

-- the ends of channel c
abbrev pub sender_in : List ℕ → ChannelId → TaskId
sender_in users c = named_in (senders_of users) c.0

abbrev pub receiver_in : List ℕ → ChannelId → TaskId
receiver_in users c = named_in (receivers_of users) c.0

-- channel c at desk d
pub record Bounded (users board : List ℕ) (c : ChannelId) (d : ProcessorId) : Type 0 where
  pub whole : Whole board
  pub cell : AtCell d c
  pub sender : (sender_in users c).0 ≤ 64
  pub receiver : (receiver_in users c).0 ≤ 64
  pub sender_place : (task_in (tasks_on board) (sender_in users c)).pc ≤ 65
  pub receiver_place : (task_in (tasks_on board) (receiver_in users c)).pc ≤ 65
  pub called : (read_channel (channels_on board) (c.0 - 1)).granted < 255
  pub apart : 1 ≤ (sender_in users c).0 → (sender_in users c).0 ≢ (receiver_in users c).0

module _ {codes numbers users : List ℕ} {n : Size} {l : Lent} (g : RigOn codes numbers users n l) (c : ChannelId) (d : ProcessorId)
    (ck : channel_number_ok c ≡ true) (dk : processor_ok n.processors d ≡ true) where
  -- what is reached from there
  reached : Reached (tasks_of l) (kept_of l) (channel_scope (senders_of users) (receivers_of users) c d)
  reached =
      let p = g.parts in
      scope_reached p _ (sender_few p c.0) (receiver_few p c.0) (within_high 1 128 c.0 ck) (within_wider n.processors 6 (processors_few p) d.0 dk)

  -- so many calls at most have left
  granted_few : (read_channel (channels_on l.board) (c.0 - 1)).granted ≤ 64
  unfolding cell_of
  granted_few = rw (ne_eqb c.0 0 (λ z. omega (arith, within_low 1 128 c.0 ck))) at reached.called

  -- nobody is at both ends
  ends_apart : 1 ≤ (sender_in users c).0 → (sender_in users c).0 ≢ (receiver_in users c).0
  ends_apart low same =
      let p = g.parts in
      let q = p.system.plan in
      let few = within_high 1 128 c.0 ck in
      let s : (sender_in users c).0 ≡ (sender_of (programs q) c).0 = ap (λ (f : Facts). get_or f.senders c.0 0) p.facts_of_lem ∙ ap (λ (t : TaskId). t.0) (sender_named q c few) in
      let u : (receiver_in users c).0 ≡ (receiver_of (programs q) c).0 = ap (λ (f : Facts). get_or f.receivers c.0 0) p.facts_of_lem ∙ ap (λ (t : TaskId). t.0) (receiver_named q c few) in
      ends_differ (programs q) (rig_sound p).frame.plan c (omega arith) (sym s ∙ same ∙ u)

  -- all of it
  bounded : Bounded users l.board c d
  bounded =
      let p = g.parts in
      let h = reached in
      record {
        whole = g.whole;
        cell = record { processor_low = within_low 1 6 d.0 h.processor; processor = within_high 1 6 d.0 h.processor; channel_low = within_low 1 128 c.0 ck; channel = within_high 1 128 c.0 ck };
        sender = omega (arith, sender_few p c.0, count_few p);
        receiver = omega (arith, receiver_few p c.0, count_few p);
        sender_place = h.sender_place;
        receiver_place = h.receiver_place;
        called = omega (arith, granted_few);
        apart = ends_apart;
      }

module _ {codes users : List ℕ} {l : Lent} {m : Message} (o : Opens codes users l m) where
  -- 9 does not refuse the letter
  abbrev fine : {x : Message} → m ≡ x → message_ok o.size.processors o.size.tasks x ≡ true
  fine e = rw e at o.ok

  -- each kind of letter
  pub offer_bounded : {c : ChannelId} {q : Offer} {h : Hint} → m ≡ Offered c q h → Bounded users l.board c h.processor
  unfolding message_ok
  offer_bounded {c} {q} {h} e =
      let n = o.size.processors in
      let processor = and_right (made_ok n q) (known_ok n h) (and_right (channel_number_ok c) _ (fine e)) in
      bounded o.rig c h.processor (and_left (channel_number_ok c) _ (fine e)) (and_left (processor_ok n h.processor) _ processor)

  pub advert_bounded : {c : ChannelId} {d from : ProcessorId} → m ≡ Advert c d from → Bounded users l.board c d
  unfolding message_ok
  advert_bounded {c} {d} e =
      bounded o.rig c d (and_left (channel_number_ok c) _ (fine e)) (and_left (processor_ok o.size.processors d) _ (and_right (channel_number_ok c) _ (fine e)))

  pub call_bounded : {c : ChannelId} {d : ProcessorId} {h : Hint} → m ≡ ReadyToReceive c d h → Bounded users l.board c d
  unfolding message_ok
  call_bounded {c} {d} e =
      bounded o.rig c d (and_left (channel_number_ok c) _ (fine e)) (and_left (processor_ok o.size.processors d) _ (and_right (channel_number_ok c) _ (fine e)))

  pub word_bounded : {c : ChannelId} {d : ProcessorId} {w : Word} → m ≡ Data c d w → Bounded users l.board c d
  unfolding message_ok
  word_bounded {c} {d} e = bounded o.rig c d (and_left (channel_number_ok c) _ (fine e)) (and_right (channel_number_ok c) _ (fine e))
