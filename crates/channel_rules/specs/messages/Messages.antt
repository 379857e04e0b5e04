-- What each letter does, by cases on the letter; one that it isn't about changes nothing.
use Rattle.rules.specs.declared.message.Message.{Message}
use Rattle.rules.specs.declared.message.Message.TheVariants.{Empty, Offered, Advert, ReadyToReceive, Data, Terminated, Migration}
use Rattle.rules.specs.declared.rule.Site.{Site}
use Rattle.rules.specs.declared.rule.Outcome.{Outcome}
use Rattle.rules.specs.Calls.{call_rule, data_rule}
use Rattle.channel_rules.specs.outcomes.Outcomes.{untouched}

-- a call
abbrev pub on_call : Site → Message → Outcome
on_call x Empty = untouched x
on_call x (Offered c o h) = untouched x
on_call x (Advert c d from) = untouched x
on_call x (ReadyToReceive c d h) = call_rule x c d h
on_call x (Data c d w) = untouched x
on_call x (Terminated h t) = untouched x
on_call x (Migration d t) = untouched x

-- a word letter
abbrev pub on_data : Site → Message → Outcome
on_data x Empty = untouched x
on_data x (Offered c o h) = untouched x
on_data x (Advert c d from) = untouched x
on_data x (ReadyToReceive c d h) = untouched x
on_data x (Data c d w) = data_rule x c d w
on_data x (Terminated h t) = untouched x
on_data x (Migration d t) = untouched x
