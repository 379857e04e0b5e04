-- When a change can be carried out.
use Rattle.std.specs.Prelude.{Bool, true, ◌&&◌, ℕ, Ok, Err}
use Rattle.rules.specs.Networks.{fits_in}
use Rattle.rig_parts.specs.Sweeps.{sweep_ok}
use Rattle.rig_parts.specs.declared.change.Change.{Change}
use Rattle.rig_parts.specs.Answers.{Verdict}
use Rattle.rig_parts.specs.Fetches.{scope_ok}

-- a change can be carried out: it is about tasks and channels, its letters fit
abbrev pub change_ok : ℕ → ℕ → Change → Bool
change_ok n used x = scope_ok x.scope && (sweep_ok x.sweep && fits_in n x.outcome.posting used)

abbrev pub verdict_ok : ℕ → ℕ → Verdict → Bool
verdict_ok n used (Err a) = true
verdict_ok n used (Ok x) = change_ok n used x
