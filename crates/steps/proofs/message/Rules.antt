-- What the rule of a letter about a channel leaves: what it does not store stays as the site has it.
use mathlib.Core.Path.{◌≡◌, refl}
use mathlib.Core.Bool.{Bool, true, false, not, ◌&&◌}
use mathlib.Core.List.{List}
use Prim.Native.Nat.{ℕ}
use Rattle.base.specs.Choice.{pick}
use Rattle.plan.specs.declared.ChannelId.{ChannelId}
use Rattle.plan.specs.declared.ProcessorId.{ProcessorId}
use Rattle.plan.specs.declared.Word.{Word}
use Rattle.rules.specs.declared.task.Task.{Task}
use Rattle.rules.specs.declared.channel.Hint.{Hint}
use Rattle.rules.specs.declared.channel.Offer.{Offer}
use Rattle.rules.specs.declared.channel.Cell.{Cell}
use Rattle.rules.specs.declared.message.Message.{Message}
use Rattle.rules.specs.declared.message.Message.TheVariants.{Offered, Advert, ReadyToReceive, Data}
use Rattle.rules.specs.declared.rule.Site.{Site}
use Rattle.rules.specs.declared.system.ParentEntry.{ParentEntry}
use Rattle.rules.specs.declared.rule.Outcome.{Outcome}
use Rattle.rules.specs.Tasks.{is_at}
use Rattle.rules.specs.Cells.{counts, none_called}
use Rattle.rules.specs.Offers.{offer_rule, advert_rule, points_on}
use Rattle.rules.specs.Calls.{call_rule, data_rule}
use Rattle.channel_rules.specs.offers.Offers.{on_offer, on_advert}
use Rattle.channel_rules.specs.messages.Messages.{on_call, on_data}
use Rattle.rig_parts.specs.declared.change.Scope.{Scope}
use Rattle.rig_parts.specs.declared.sweep.Sweep.TheVariants.{Nothing}
use Rattle.rig_parts.specs.Scopes.{message_scope, channel_scope}
use Rattle.rig_parts.specs.RunVerdicts.{change}
use Rattle.rig_parts.specs.Openings.{message_change}
use Rattle.steps.specs.message.Seen.{offer_sees, advert_sees, call_sees, word_sees}

-- what a rule says and posts, with these tasks and this cell left
abbrev pub left : Task → Task → Cell → Outcome → Outcome
left a b y o = record { sender = a; receiver = b; cell = y; posting = o.posting; received = o.received }

-- the whole of what is left at a site, of what a rule leaves that did not see all of it: an offer stores held offer and channel
abbrev pub offer_leaves : Site → Outcome → Outcome
offer_leaves x o =
    left x.sender x.receiver
    (record { entry = record { hint = x.cell.entry.hint; held = o.cell.entry.held; noted = x.cell.entry.noted }; channel = o.cell.channel }) o

-- an advert stores note and channel
abbrev pub advert_leaves : Site → Outcome → Outcome
advert_leaves x o =
    left x.sender x.receiver
    (record { entry = record { hint = x.cell.entry.hint; held = x.cell.entry.held; noted = o.cell.entry.noted }; channel = o.cell.channel }) o

-- a call stores sender and pointer
abbrev pub call_leaves : Site → Outcome → Outcome
call_leaves x o =
    left o.sender x.receiver
    (record { entry = record { hint = o.cell.entry.hint; held = x.cell.entry.held; noted = x.cell.entry.noted }; channel = x.cell.channel }) o

-- a word letter stores receiver and channel
abbrev pub word_leaves : Site → Outcome → Outcome
word_leaves x o = left x.sender o.receiver (record { entry = x.cell.entry; channel = o.cell.channel }) o

-- under a choice
under : (f : Outcome → Outcome) (t : Bool) (p q : Outcome) {p' q' : Outcome} → p' ≡ f p → q' ≡ f q → pick t p' q' ≡ f (pick t p q)
under f true p q a b = a
under f false p q a b = b

module _ (x : Site) (c : ChannelId) where
  -- the rule of each kind, by what it sees
  offer_left : (o : Offer) (h : Hint) → offer_rule x c o h ≡ offer_leaves x (offer_rule (offer_sees x) c o h)
  unfolding offer_rule
  offer_left o h =
      let f : Outcome → Outcome = offer_leaves x in
      let here = is_at h.processor x.receiver in
      under f (not (counts x.cell o) && here) _ _ refl
      (under f (here && (x.receiving && not x.cell.channel.awaiting)) _ _ refl
      (under f here _ _ refl (under f (points_on x.cell.entry.hint h h.processor) _ _ refl refl)))

  advert_left : (d from : ProcessorId) → advert_rule x c d from ≡ advert_leaves x (advert_rule (advert_sees x) c d from)
  unfolding advert_rule
  advert_left d from = under (advert_leaves x) (is_at d x.receiver && (x.receiving && none_called x.cell)) _ _ refl refl

  call_left : (d : ProcessorId) (h : Hint) → call_rule x c d h ≡ call_leaves x (call_rule (call_sees x) c d h)
  unfolding call_rule
  call_left d h = under (call_leaves x) (x.sending && is_at d x.sender) _ _ refl refl

  word_left : (d : ProcessorId) (w : Word) → data_rule x c d w ≡ word_leaves x (data_rule (word_sees x) c d w)
  unfolding data_rule
  word_left d w = under (word_leaves x) (is_at d x.receiver && (x.receiving && x.cell.channel.awaiting)) _ _ refl refl

-- the letter m goes to channel c at desk d, where this rule is asked, which sees so much of the site and leaves the rest
pub record Kind (rule : Site → Message → Outcome) (sees : Site → Site) (leaves : Site → Outcome → Outcome) (m : Message) (c : ChannelId) (d : ProcessorId) : Type 0 where
  pub at : (senders receivers parents : List ℕ) → message_scope senders receivers parents m ≡ channel_scope senders receivers c d
  pub does : (k : Scope) (x : Site) (e : ParentEntry) → message_change k m x e ≡ change k (rule x m) Nothing
  pub rest : (x : Site) → rule x m ≡ leaves x (rule (sees x) m)

module _ (c : ChannelId) where
  -- the four kinds
  pub offer_kind : (o : Offer) (h : Hint) → Kind on_offer offer_sees offer_leaves (Offered c o h) c h.processor
  offer_kind o h = record { at = λ ss rs ps. refl; does = λ k x e. refl; rest = λ x. offer_left x c o h }

  pub advert_kind : (d from : ProcessorId) → Kind on_advert advert_sees advert_leaves (Advert c d from) c d
  advert_kind d from = record { at = λ ss rs ps. refl; does = λ k x e. refl; rest = λ x. advert_left x c d from }

  pub call_kind : (d : ProcessorId) (h : Hint) → Kind on_call call_sees call_leaves (ReadyToReceive c d h) c d
  call_kind d h = record { at = λ ss rs ps. refl; does = λ k x e. refl; rest = λ x. call_left x c d h }

  pub word_kind : (d : ProcessorId) (w : Word) → Kind on_data word_sees word_leaves (Data c d w) c d
  word_kind d w = record { at = λ ss rs ps. refl; does = λ k x e. refl; rest = λ x. word_left x c d w }
