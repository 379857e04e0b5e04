-- Programs without a repeat.
use Rattle.std.specs.Prelude.{Bool, not}
use Rattle.base.specs.Lists.{every}
use Rattle.plan.specs.declared.Instruction.{Instruction}
use Rattle.plan.specs.Programs.{Programs}
use Rattle.repeat_laws.specs.Left.{is_mark}

-- neither "kind 8, repeat" nor "kind 9, end of repeat"
abbrev pub is_plain : Instruction → Bool
is_plain i = not (is_mark i)

abbrev pub without_repeats : Programs → Bool
without_repeats m = every (every is_plain) m
