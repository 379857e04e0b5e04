-- A desk of a rig of n desks with a number beside it, from 1 to a limit: a pointer (`known_ok`, `hint_ok`) and an offer (`made_ok`, `offer_ok`)
-- have different limits.
use Rattle.std.specs.Prelude.{Bool, ◌&&◌, ℕ, eqb}
use Rattle.base.specs.Choice.{pick, within}
use Rattle.plan.specs.declared.ProcessorId.{ProcessorId}
use Rattle.rules.specs.Numbers.{is_none, processor_ok}

abbrev pub pair_ok : ℕ → ℕ → ProcessorId → ℕ → Bool
pair_ok n limit d k = processor_ok n d && within 1 limit k

-- the two, or neither
abbrev pub entry_ok : ℕ → ℕ → ProcessorId → ℕ → Bool
entry_ok n limit d k = pick (is_none d) (eqb k 0) (pair_ok n limit d k)
