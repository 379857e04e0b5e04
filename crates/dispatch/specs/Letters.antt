-- Whom a letter is for.
use Rattle.std.specs.Prelude.{Bool}
use Rattle.plan.specs.declared.ProcessorId.{ProcessorId}
use Rattle.rules.specs.declared.message.Message.{Message}
use Rattle.rules.specs.Numbers.{same_processor}
use Rattle.rules.specs.Dispatch.{addressee}

-- a letter is for desk d
abbrev pub is_for : ProcessorId → Message → Bool
is_for d m = same_processor (addressee m) d
