-- The channels that have the same task at one end, as links: the first of each task, and the next after each channel.
use Rattle.std.specs.Prelude.{◌≡◌, List, ℕ, zero, suc, ◌-◌, ◌≤◌, eqb, get_or}
use Rattle.base.specs.Choice.{pick}

-- among the last j of the channels 1 .. 128, the first that has task t at this end; 0 if there is none
unfoldable pub next_in : List ℕ → ℕ → ℕ → ℕ
next_in ends t zero = 0
next_in ends t (suc j) = pick (eqb (get_or ends (128 - j) 0) t) (128 - j) (next_in ends t j)

-- the links of these ends, as they are followed
pub record Linked (ends firsts nexts : List ℕ) : Type 0 where
  pub first : (t : ℕ) → t ≤ 64 → get_or firsts t 0 ≡ next_in ends t 128
  pub next : (c : ℕ) → 1 ≤ c → c ≤ 128 → get_or nexts c 0 ≡ next_in ends (get_or ends c 0) (128 - c)
