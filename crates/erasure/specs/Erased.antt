-- What a rule takes and gives back, without words and marks: what `erase` is for a rig, for the parts that a step is made with.
use Rattle.std.specs.Prelude.{map}
use Rattle.rules.specs.declared.rule.Site.{Site}
use Rattle.rules.specs.declared.rule.Posting.{Posting}
use Rattle.rules.specs.declared.rule.Posting.TheVariants.{Nothing, Single, Adverts}
use Rattle.rules.specs.declared.rule.Outcome.{Outcome}
use Rattle.rules.specs.declared.rule.Finished.{Finished}
use Rattle.rules.specs.declared.rule.Ended.{Ended}
use Rattle.rules.specs.Effects.{Effect}
use Rattle.rules.specs.Steps.{History}
use Rattle.rules.specs.Erasures.{erased_task, erased_message, erased_received, erased_report, erase}

-- what is posted
unfoldable pub erased_posting : Posting → Posting
erased_posting Nothing = Nothing
erased_posting (Single m) = Single (erased_message m)
erased_posting (Adverts c d) = Adverts c d

-- what a rule about one channel takes and leaves
abbrev pub erased_site : Site → Site
erased_site x = record { sender = erased_task x.sender; receiver = erased_task x.receiver; sending = x.sending; receiving = x.receiving; cell = x.cell }

abbrev pub erased_outcome : Outcome → Outcome
erased_outcome o =
    record {
      sender = erased_task o.sender;
      receiver = erased_task o.receiver;
      cell = o.cell;
      posting = erased_posting o.posting;
      received = erased_received o.received;
    }

-- what a finish and an ended letter leave
abbrev pub erased_finished : Finished → Finished
erased_finished o = record { task = erased_task o.task; parent = erased_task o.parent; entry = o.entry; posting = erased_posting o.posting }

abbrev pub erased_ended : Ended → Ended
erased_ended o = record { parent = erased_task o.parent; entry = o.entry; posting = erased_posting o.posting }

-- what a step does, and what a list of steps gives
abbrev pub erased_effect : Effect → Effect
erased_effect e = record { system = erase e.system; posting = erased_posting e.posting; received = erased_received e.received }

abbrev pub erased_history : History → History
erased_history h = record { reports = map erased_report h.reports; system = erase h.system }
