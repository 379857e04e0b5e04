-- Pointers to a task that moves: to a channel's receiver, and to a parent.
use Rattle.std.specs.Prelude.{Bool, not, ◌&&◌, ℕ, ltb}
use Rattle.base.specs.Choice.{pick}
use Rattle.plan.specs.declared.ProcessorId.{ProcessorId}
use Rattle.rules.specs.declared.channel.Hint.{Hint}
use Rattle.rules.specs.Numbers.{no_processor, is_none, same_processor}

abbrev pub hint : ProcessorId → ℕ → Hint
hint d n = record { processor = d; moves = n }

-- "both 0 is unknown"; 9 refuses a count without a desk
abbrev pub unknown : Hint
unknown = hint no_processor 0

abbrev pub is_unknown : Hint → Bool
is_unknown h = is_none h.processor

-- "The newer pointer has the larger count; of equals the desk's own stays."
unfoldable pub newer : Hint → Hint → Hint
newer own other = pick (ltb own.moves other.moves) other own

-- "d's pointer names another desk with a larger count than the letter's": the desk's own, and the one that the letter came along
abbrev pub points_on : Hint → Hint → ProcessorId → Bool
points_on own along d = not (same_processor own.processor d) && ltb along.moves own.moves
