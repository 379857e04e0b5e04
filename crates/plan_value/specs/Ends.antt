-- How many channels have one end only, by the first tasks at one end and at the other.
use Rattle.std.specs.Prelude.{◌≡◌, List, ℕ, suc, ◌+◌, ◌-◌, length, get_or, eqb}
use Rattle.base.specs.Choice.{pick}
use Rattle.base.specs.Range.{sum_below}
use Rattle.plan_value.specs.declared.pass.End.{End}
use Rattle.plan_value.specs.Marks.{end_mark, Entered}

-- of two first tasks, 0 for none, just one is there: 1, else 0
abbrev pub one_there : ℕ → ℕ → ℕ
one_there a b = pick (eqb a 0) (pick (eqb b 0) 0 1) (pick (eqb b 0) 1 0)

-- of the channels 1 to 128
unfoldable pub unpaired_in : List ℕ → List ℕ → ℕ
unpaired_in ends others = sum_below 128 (λ k. one_there (get_or ends (suc k) 0) (get_or others (suc k) 0))

-- n of them, by tables of 129 entries
pub record Counted (n : ℕ) (ends others : List ℕ) : Type 0 where
  pub size : length ends ≡ 129
  pub other_size : length others ≡ 129
  pub count : n ≡ unpaired_in ends others

-- n of them, with the first task at an end whose other end is task `other`
abbrev pub unpaired_then : ℕ → ℕ → ℕ
unpaired_then n other = pick (eqb other 0) (n + 1) (n - 1)

-- task t enters the table of an end at a: what is answered, and the table then
pub record EndEntered (a t : ℕ) (before others : List ℕ) (r : End) (after : List ℕ) : Type 0 where
  pub entered : Entered a t (end_mark (get_or before a 0) (get_or others a 0) t) before r.fits after
  pub unpaired : r.unpaired ≡ unpaired_in after others
