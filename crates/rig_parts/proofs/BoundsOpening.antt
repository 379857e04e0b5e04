-- What a letter does can be carried out once it has left the mail, where 9 refuses neither the letter nor the rig.
use mathlib.Core.Path.{◌≡◌, refl, ◌∙◌, ap}
use mathlib.Core.Bool.{true}
use mathlib.Core.List.{List}
use Prim.Native.Nat.{ℕ, ◌≤◌}
use lib.ListN.{length}
use Rattle.base.specs.Choice.{within}
use Rattle.base.proofs.Choices.{pick_either}
use Rattle.rules.specs.declared.task.TaskState.TheVariants.{Moving}
use Rattle.rules.specs.declared.message.Message.{Message}
use Rattle.rules.specs.declared.message.Message.TheVariants.{Empty, Offered, Advert, ReadyToReceive, Data, Terminated, Migration}
use Rattle.rules.specs.declared.rule.Site.{Site}
use Rattle.rules.specs.declared.system.TaskTable.{TaskTable}
use Rattle.rules.specs.declared.system.System.{System}
use Rattle.rules.specs.declared.system.ParentEntry.{ParentEntry}
use Rattle.rules.specs.Tasks.{is_in}
use Rattle.rules.specs.Networks.{messages_of}
use Rattle.rules.specs.Effects.{Effect}
use Rattle.rules.specs.Deliver.{opened}
use Rattle.rules.specs.Sound.{message_ok}
use Rattle.rules_laws.specs.Shapes.{Shaped}
use Rattle.rules_sound.specs.Sound.{Sound}
use Rattle.rules_sound.specs.Stands.{Whole}
use Rattle.rules_sound.proofs.Deliveries.{open_fine}
use Rattle.rig_parts.specs.declared.kept.Kept.{Kept}
use Rattle.rig_parts.specs.Facts.{Facts, facts_of, PartsOf, kept_in}
use Rattle.rig_parts.specs.Fetches.{scope_ok}
use Rattle.rig_parts.specs.Scopes.{message_scope}
use Rattle.rig_parts.specs.Openings.{message_change, opened_in}
use Rattle.rig_parts.proofs.Effects.{effect_posting}
use Rattle.rig_parts.proofs.Openings.{open_effect}
use Rattle.rig_parts.proofs.BoundsParts.{rig_sound}
use Rattle.rig_parts.proofs.BoundsVerdicts.{Placed}
use Rattle.rig_parts.proofs.BoundsMessage.{message_reached}

-- a letter changes its scope, and an arrival or an end is at the desk of the scope
message_placed : (senders receivers parents : List ℕ) (m : Message) (x : Site) (y : ParentEntry)
    → let k = message_scope senders receivers parents m in
    scope_ok k ≡ true → within 1 6 k.processor.0 ≡ true → Placed (message_change k m x y)
message_placed senders receivers parents Empty x y ok d = (ok, refl)
message_placed senders receivers parents (Offered c o h) x y ok d = (ok, refl)
message_placed senders receivers parents (Advert c e from) x y ok d = (ok, refl)
message_placed senders receivers parents (ReadyToReceive c e h) x y ok d = (ok, refl)
message_placed senders receivers parents (Data c e w) x y ok d = (ok, refl)
message_placed senders receivers parents (Terminated h t) x y ok d = (ok, d)
message_placed senders receivers parents (Migration e t) x y ok d = pick_either Placed (is_in Moving x.sender) _ _ (ok, d) (ok, refl)

-- it posts at most one letter
opened_few : (r : System) → Shaped r → Sound r → (m : Message) → message_ok r.processors r.plan.tasks m ≡ true
    → length (messages_of r.processors (opened_in (facts_of r.plan) r.tasks (kept_in r) m).outcome.posting) ≤ 1
opened_few r z f m o =
    let k = opened_in (facts_of r.plan) r.tasks (kept_in r) m in
    let whole : Whole r = record { processors = refl; plan = refl; network = refl; shaped = z; holds = f.rig } in
    let same : (opened r m).posting ≡ k.outcome.posting = ap (λ (e : Effect). e.posting) (open_effect r f.frame f.rig m o) ∙ effect_posting r k in
    rw same at (open_fine r f.frame whole m o).posting.few

module _ {f : Facts} {n : ℕ} {ts : TaskTable} {s : Kept} {used : ℕ} (p : PartsOf f n ts s used) (m : Message) (o : message_ok n f.tasks m ≡ true) where
  opened_placed : Placed (opened_in f ts s m)
  unfolding opened_in
  opened_placed =
      let h = message_reached p m o in
      message_placed f.senders f.receivers f.parents m _ _ h.ok h.processor

  messages_few : length (messages_of n (opened_in f ts s m).outcome.posting) ≤ 1
  messages_few =
      rw (p.facts_of_lem, p.processors, p.tasks, p.kept)
      (opened_few p.system p.shaped (rig_sound p) m (rw (p.facts_of_lem, p.processors) at o))
