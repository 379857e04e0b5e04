-- What a letter does where it goes to.
use Rattle.std.specs.Prelude.{◌≡◌, true, ◌<◌}
use Rattle.base.specs.Choice.{pick, within}
use Rattle.rules.specs.declared.task.TaskState.TheVariants.{Moving}
use Rattle.rules.specs.declared.message.Message.{Message}
use Rattle.rules.specs.declared.message.Message.TheVariants.{Empty, Offered, Advert, ReadyToReceive, Data, Terminated, Migration}
use Rattle.rules.specs.declared.rule.Site.{Site}
use Rattle.rules.specs.declared.system.TaskTable.{TaskTable}
use Rattle.rules.specs.declared.system.ParentEntry.{ParentEntry}
use Rattle.rules.specs.Tasks.{is_in, arrived, without_children}
use Rattle.rules.specs.Offers.{offer_rule, advert_rule}
use Rattle.rules.specs.Calls.{call_rule, data_rule}
use Rattle.rules.specs.Arrivals.{terminated_rule}
use Rattle.rules_laws.specs.Children.{child_of}
use Rattle.rig_parts.specs.declared.sweep.Sweep.TheVariants.{Nothing, Arrival, Ending}
use Rattle.rig_parts.specs.declared.change.Scope.{Scope}
use Rattle.rig_parts.specs.declared.change.Change.{Change}
use Rattle.rig_parts.specs.declared.kept.Kept.{Kept}
use Rattle.rig_parts.specs.Sweeps.{parent_in}
use Rattle.rig_parts.specs.Facts.{Facts}
use Rattle.rig_parts.specs.Fetches.{site_in}
use Rattle.rig_parts.specs.Scopes.{message_scope}
use Rattle.rig_parts.specs.RunVerdicts.{change, tasks_only, task_change}

-- what a letter supposes of a site: numbers that can go on
pub record OpenableAt (m : Message) (x : Site) : Type 0 where
  pub called : x.cell.channel.granted < 255
  pub child : within 1 64 (child_of m) ≡ true

-- at a site; e is what the letter's desk keeps for the parent, or for the task that arrives
abbrev pub message_change : Scope → Message → Site → ParentEntry → Change
message_change k Empty x e = task_change k x x.sender
message_change k (Offered c o h) x e = change k (offer_rule x c o h) Nothing
message_change k (Advert c d from) x e = change k (advert_rule x c d from) Nothing
message_change k (ReadyToReceive c d h) x e = change k (call_rule x c d h) Nothing
message_change k (Data c d w) x e = change k (data_rule x c d w) Nothing
message_change k (Terminated h t) x e =
    let o = terminated_rule x.sender e h t in
    change k (tasks_only x o.parent x.receiver o.posting) (Ending k.sender k.processor o.entry)
message_change k (Migration d t) x e =
    pick (is_in Moving x.sender)
    (record { scope = k; outcome = (task_change k x (without_children (arrived x.sender d) e.held)).outcome; sweep = Arrival t d x.sender.moves })
    (task_change k x x.sender)

unfoldable pub opened_in : Facts → TaskTable → Kept → Message → Change
opened_in f ts s m =
    let k = message_scope f.senders f.receivers f.parents m in
    message_change k m (site_in f.codes ts s.store k) (parent_in s.parents k.processor k.sender)
