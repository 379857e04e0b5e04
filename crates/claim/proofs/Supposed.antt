-- "Where that isn't so, the letter is removed without effect": a letter that does not find what it supposes changes nothing. The rig has the
-- letter no more, whatever its mail is then.
use mathlib.Core.Path.{◌≡◌, refl, ap, ◌∙◌}
use mathlib.Core.Bool.{false}
use Rattle.base.proofs.Tests.{tests_differ}
use Rattle.plan.specs.declared.TaskId.{TaskId}
use Rattle.plan.specs.declared.ProcessorId.{ProcessorId}
use Rattle.plan.specs.declared.ChannelId.{ChannelId}
use Rattle.plan.specs.declared.Word.{Word}
use Rattle.plan.specs.Users.{sender_of, receiver_of, parent_of}
use Rattle.rules.specs.declared.channel.Hint.{Hint}
use Rattle.rules.specs.declared.message.Network.{Network}
use Rattle.rules.specs.declared.message.Message.{Message}
use Rattle.rules.specs.declared.message.Message.TheVariants.{Empty, Offered, Advert, ReadyToReceive, Data, Terminated, Migration}
use Rattle.rules.specs.declared.rule.Site.{Site}
use Rattle.rules.specs.declared.rule.Posting.TheVariants.{Nothing}
use Rattle.rules.specs.declared.system.System.{System}
use Rattle.rules.specs.Systems.{with_network, meaning, channel_at}
use Rattle.rules.specs.Effects.{changed, site_at, with_outcome}
use Rattle.rules.specs.Calls.{call_rule, data_rule}
use Rattle.rules.specs.Offers.{kept}
use Rattle.rules.specs.Arrivals.{terminated_rule}
use Rattle.rules.specs.Deliver.{got_terminated, got_migration, opened}
use Rattle.rules_laws.proofs.TaskAt.{with_task_task_at}
use Rattle.rules_laws.proofs.CellAt.{with_cell_cell_at}
use Rattle.claim.specs.Statement.{finds_its}
use Rattle.rules_laws.proofs.ParentAt.{with_parent_parent_at}

module _ (r : System) (network : Network) where
  abbrev q : System
  q = with_network r network

  -- what a rule about channel c at desk d looks at
  module _ (c : ChannelId) (d : ProcessorId) where
    abbrev site : Site
    site = site_at q (sender_of (meaning q) c) (receiver_of (meaning q) c) c d

    -- a rule that leaves both tasks and the cell leaves the rig
    nothing_left : with_outcome q (sender_of (meaning q) c) (receiver_of (meaning q) c) c d (kept site site.cell Nothing) ≡ changed q
    unfolding with_outcome site_at
    nothing_left =
        rw (with_task_task_at q (sender_of (meaning q) c), with_task_task_at q (receiver_of (meaning q) c), with_cell_cell_at q d c) refl

    call_unsupposed : (h : Hint) → finds_its r (ReadyToReceive c d h) ≡ false → call_rule site c d h ≡ kept site site.cell Nothing
    unfolding finds_its site_at call_rule channel_at
    call_unsupposed h e = rw e refl

    word_unsupposed : (w : Word) → finds_its r (Data c d w) ≡ false → data_rule site c d w ≡ kept site site.cell Nothing
    unfolding finds_its site_at data_rule channel_at
    word_unsupposed w e = rw e refl

  ended_unsupposed : (h : Hint) (t : TaskId) → finds_its r (Terminated h t) ≡ false → got_terminated q h t ≡ changed q
  unfolding finds_its got_terminated terminated_rule
  ended_unsupposed h t e =
      let v = parent_of (meaning q) t in
      rw (e, with_task_task_at q v, with_parent_parent_at q h.processor v) refl

  mover_unsupposed : (d : ProcessorId) (t : TaskId) → finds_its r (Migration d t) ≡ false → got_migration q d t ≡ q
  unfolding finds_its got_migration
  mover_unsupposed d t e = rw e refl

  pub unsupposed : (a : Message) → finds_its r a ≡ false → opened q a ≡ changed q
  unfolding opened finds_its
  unsupposed Empty e = refl
  unsupposed (Offered c o h) e = absurd (tests_differ refl e)
  unsupposed (Advert c d x) e = absurd (tests_differ refl e)
  unsupposed (ReadyToReceive c d h) e =
      ap (with_outcome q (sender_of (meaning q) c) (receiver_of (meaning q) c) c d) (call_unsupposed c d h e) ∙ nothing_left c d
  unsupposed (Data c d w) e =
      ap (with_outcome q (sender_of (meaning q) c) (receiver_of (meaning q) c) c d) (word_unsupposed c d w e) ∙ nothing_left c d
  unsupposed (Terminated h t) e = ended_unsupposed h t e
  unsupposed (Migration d t) e = ap changed (mover_unsupposed d t e)
