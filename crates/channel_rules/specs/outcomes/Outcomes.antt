-- What a letter without effect leaves at its site.
use Rattle.rules.specs.declared.rule.Site.{Site}
use Rattle.rules.specs.declared.rule.Posting.TheVariants.{Nothing}
use Rattle.rules.specs.declared.rule.Outcome.{Outcome}
use Rattle.rules.specs.Offers.{kept}

-- everything stays as it is
abbrev pub untouched : Site → Outcome
untouched x = kept x x.cell Nothing
