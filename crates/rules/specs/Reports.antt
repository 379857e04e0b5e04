-- What a report holds, and what a call of a dispatcher makes.
use Rattle.std.specs.Prelude.{Option}
use Rattle.plan.specs.declared.ChannelId.{ChannelId}
use Rattle.plan.specs.declared.Word.{Word}
use Rattle.rules.specs.declared.step.Report.{Report}
use Rattle.rules.specs.declared.step.Step.{Step}

-- the word that was received, if one was, with its channel
abbrev pub Received : Type 0
Received = Option (ChannelId × Word)

-- the step that a call makes, if it makes one, with its report
abbrev pub Turn : Type 0
Turn = Option (Step × Report)
