-- What an offer letter and an advert do, by cases on the letter; another letter changes nothing.
use Rattle.rules.specs.declared.message.Message.{Message}
use Rattle.rules.specs.declared.message.Message.TheVariants.{Empty, Offered, Advert, ReadyToReceive, Data, Terminated, Migration}
use Rattle.rules.specs.declared.rule.Site.{Site}
use Rattle.rules.specs.declared.rule.Outcome.{Outcome}
use Rattle.rules.specs.Offers.{offer_rule, advert_rule}
use Rattle.channel_rules.specs.outcomes.Outcomes.{untouched}

-- an offer letter
abbrev pub on_offer : Site → Message → Outcome
on_offer x Empty = untouched x
on_offer x (Offered c o h) = offer_rule x c o h
on_offer x (Advert c d from) = untouched x
on_offer x (ReadyToReceive c d h) = untouched x
on_offer x (Data c d w) = untouched x
on_offer x (Terminated h t) = untouched x
on_offer x (Migration d t) = untouched x

-- an advert
abbrev pub on_advert : Site → Message → Outcome
on_advert x Empty = untouched x
on_advert x (Offered c o h) = untouched x
on_advert x (Advert c d from) = advert_rule x c d from
on_advert x (ReadyToReceive c d h) = untouched x
on_advert x (Data c d w) = untouched x
on_advert x (Terminated h t) = untouched x
on_advert x (Migration d t) = untouched x
