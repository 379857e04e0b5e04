-- A delivery leaves good words of good ones, and receives none but such.
use mathlib.Core.Path.{◌≡◌, refl}
use mathlib.Core.Bool.{Bool, true, not}
use Prim.Native.Nat.{ℕ}
use Rattle.base.specs.Choice.{within}
use Rattle.base.specs.Sets.{member}
use Rattle.base.proofs.Choices.{pick_either}
use Rattle.base.proofs.Tests.{and_left, within_high}
use Rattle.plan.specs.declared.TaskId.{TaskId}
use Rattle.plan.specs.declared.ProcessorId.{ProcessorId}
use Rattle.plan.specs.Users.{parent_of}
use Rattle.plan.specs.declared.Word.{Word as WordOf}
use Rattle.rules.specs.declared.task.Task.{Task}
use Rattle.rules.specs.declared.task.TaskState.TheVariants.{Moving}
use Rattle.rules.specs.declared.channel.Hint.{Hint}
use Rattle.rules.specs.declared.message.Message.{Message}
use Rattle.rules.specs.declared.message.Message.TheVariants.{Empty, Offered, Advert, ReadyToReceive, Data, Terminated, Migration}
use Rattle.rules.specs.declared.rule.Ended.{Ended}
use Rattle.rules.specs.declared.system.ParentEntry.{ParentEntry}
use Rattle.rules.specs.declared.system.System.{System}
use Rattle.rules.specs.Hints.{points_on}
use Rattle.rules.specs.Tasks.{is_in, is_at}
use Rattle.rules.specs.Networks.{message_at}
use Rattle.rules.specs.Systems.{task_at, parent_at, meaning}
use Rattle.rules.specs.Effects.{site_at}
use Rattle.rules.specs.Sound.{message_ok}
use Rattle.rules.specs.Arrivals.{terminated_rule, arrival}
use Rattle.rules.specs.Deliver.{got_terminated, got_migration, opened, delivered}
use Rattle.rules_sound.specs.Words.{task_good, message_good, received_good, GoodPosting, GoodSystem, GoodEffect}
use Rattle.rules_sound.proofs.Words.Postings.{none_good, message_good_lem}
use Rattle.rules_sound.proofs.Words.Rules.{offer_good, advert_good, call_good, data_good}
use Rattle.rules_sound.proofs.Words.Systems.{task_good_lem, message_there, put_task, put_parent, put_cells, outcome_good, left_good}
use Rattle.rules_sound.proofs.Words.Runs.{changed_good, woken_good}

-- an ended letter
record GoodEnded (good : WordOf → Bool) (o : Ended) : Type 0 where
  parent : task_good good o.parent ≡ true
  posting : GoodPosting good o.posting

ended_good : (good : WordOf → Bool) (x : Task) (e : ParentEntry) (p : Hint) (t : TaskId) → task_good good x ≡ true → GoodEnded good (terminated_rule x e p t)
unfolding terminated_rule message_good
ended_good good x e p t h =
    pick_either (GoodEnded good) (not (member t.0 x.children)) _ _ (record { parent = h; posting = none_good })
    (pick_either (GoodEnded good) (is_at p.processor x) _ _ (record { parent = woken_good good _ h; posting = none_good })
    (pick_either (GoodEnded good) (points_on e.hint p p.processor) _ _ (record { parent = h; posting = message_good_lem (Terminated e.hint t) refl })
    (record { parent = h; posting = none_good })))

module _ {good : WordOf → Bool} where
  module _ (r : System) (h : GoodSystem good r) where
    terminated_good : (p : Hint) (t : TaskId) → GoodEffect good (got_terminated r p t)
    unfolding got_terminated received_good
    terminated_good p t =
        let u = parent_of (meaning r) t in
        let o = ended_good good (task_at r u) (parent_at r p.processor u) p t (task_good_lem r h u) in
        record { system = put_parent _ (put_task r h u _ o.parent) _ u _; posting = o.posting; received = refl }

    migrated_good : (d : ProcessorId) (t : TaskId) → GoodSystem good (got_migration r d t)
    unfolding got_migration arrival
    migrated_good d t =
        pick_either (GoodSystem good) (is_in Moving (task_at r t)) _ r
        (put_cells 128 _ _ _ _ (put_cells 128 _ _ _ _ (put_parent _ (put_task r h t _ (task_good_lem r h t)) d t _)))
        h

    opened_good : (n m : ℕ) (a : Message) → message_ok n m a ≡ true → message_good good a ≡ true → GoodEffect good (opened r a)
    unfolding opened site_at message_ok message_good
    opened_good n m Empty k w = changed_good r h
    opened_good n m (Offered c o p) k w = outcome_good r h _ _ c _ _ (offer_good c (site_at r _ _ c _) (task_good_lem r h _) (task_good_lem r h _) o p)
    opened_good n m (Advert c d from) k w = outcome_good r h _ _ c _ _ (advert_good c (site_at r _ _ c _) (task_good_lem r h _) (task_good_lem r h _) d from)
    opened_good n m (ReadyToReceive c d p) k w = outcome_good r h _ _ c _ _ (call_good c (site_at r _ _ c _) (task_good_lem r h _) (task_good_lem r h _) d p)
    opened_good n m (Data c d v) k w =
        outcome_good r h _ _ c _ _
        (data_good c (site_at r _ _ c _) (task_good_lem r h _) (task_good_lem r h _) d v (within_high 1 128 c.0 (and_left (within 1 128 c.0) _ k)) w)
    opened_good n m (Terminated p t) k w = terminated_good p t
    opened_good n m (Migration d t) k w = changed_good _ (migrated_good d t)

  pub delivered_good : (r : System) → GoodSystem good r → (n m p : ℕ) → message_ok n m (message_at r.network p) ≡ true → GoodEffect good (delivered r p)
  unfolding delivered
  delivered_good r h n m p k = opened_good _ (left_good r h p) n m _ k (message_there r h p)
