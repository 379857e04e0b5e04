-- One step carried out on the parts of a rig that 9 does not refuse.
use Rattle.std.specs.Prelude.{◌≡◌, List, ℕ, None, Ok, Err}
use Rattle.base.specs.Choice.{unless, within}
use Rattle.rules.specs.declared.message.Network.{Network}
use Rattle.rules.specs.declared.step.Step.{Step}
use Rattle.rules.specs.Answers.{StepAnswer}
use Rattle.rules.specs.declared.step.StepRefusal.TheVariants.{NoMessage, BadStep}
use Rattle.rules.specs.declared.step.Report.{Report}
use Rattle.rules.specs.declared.step.Stepped.{Stepped}
use Rattle.rules.specs.declared.system.TaskTable.{TaskTable}
use Rattle.rules.specs.Numbers.{task_id, processor_id}
use Rattle.rules.specs.Networks.{message_at, dequeued, posted}
use Rattle.rules.specs.Steps.{by_kind, well_formed}
use Rattle.rig_parts.specs.declared.kept.Kept.{Kept}
use Rattle.rig_parts.specs.declared.turn.Turn.{Turn}
use Rattle.rig_parts.specs.declared.change.Change.{Change}
use Rattle.rig_parts.specs.Answers.{Verdict}
use Rattle.rig_parts.specs.Facts.{Facts, PartsOf, kept_in}
use Rattle.rig_parts.specs.Effects.{changed_tasks, changed_kept}
use Rattle.rig_parts.specs.RunVerdicts.{judged_run}
use Rattle.rig_parts.specs.MoveVerdicts.{judged_move}
use Rattle.rig_parts.specs.Openings.{opened_in}

-- what a step leaves: its report, and the parts then
abbrev pub turned : Report → TaskTable → Network → Kept → Turn
turned q ts k s = record { report = q; tasks = ts; network = k; kept = s }

abbrev pub report_of : StepAnswer → Report
report_of a = record { answer = a; received = None }

-- a refused step leaves the parts as they were
abbrev pub refused_turn : StepAnswer → TaskTable → Network → Kept → Turn
refused_turn a ts k s = turned (report_of a) ts k s

-- a change carried out, and its letters posted, on n desks
unfoldable pub carried_out : List ℕ → List ℕ → ℕ → Change → TaskTable → Network → Kept → Turn
carried_out senders receivers n x ts k s =
    turned (record { answer = Ok tt; received = x.outcome.received })
    (changed_tasks x ts)
    (posted n x.outcome.posting k)
    (changed_kept senders receivers x s)

abbrev pub settled : List ℕ → List ℕ → ℕ → Verdict → TaskTable → Network → Kept → Turn
settled senders receivers n (Err a) ts k s = refused_turn (Err a) ts k s
settled senders receivers n (Ok x) ts k s = carried_out senders receivers n x ts k s

unfoldable pub delivered_turn : Facts → ℕ → TaskTable → Network → Kept → ℕ → Turn
delivered_turn f n ts k s p =
    unless (within 1 k.used p) (refused_turn (Err NoMessage) ts k s)
    (carried_out f.senders f.receivers n (opened_in f ts s (message_at k p)) ts (dequeued k p) s)

-- one step
unfoldable pub turn_of : Facts → ℕ → TaskTable → Network → Kept → Step → Turn
turn_of f n ts k s x =
    unless (well_formed x) (refused_turn (Err BadStep) ts k s)
    (by_kind x
    (settled f.senders f.receivers n (judged_run f n ts s k.used (task_id x.task)) ts k s)
    (delivered_turn f n ts k s x.number)
    (settled f.senders f.receivers n (judged_move f.tasks n ts k.used (task_id x.task) (processor_id x.number)) ts k s))

-- the parts of what a step of the rig gives
abbrev pub parts_of : Stepped → Turn
parts_of o = turned o.report o.system.tasks o.system.network (kept_in o.system)

-- these are the parts of a rig that 9 does not refuse, its mail among them
pub record Rig (f : Facts) (n : ℕ) (ts : TaskTable) (k : Network) (s : Kept) : Type 0 where
  pub parts : PartsOf f n ts s k.used
  pub network : k ≡ parts.system.network
