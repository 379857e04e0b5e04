-- What one instruction more of task t says, where `old` is the first task that has such an instruction, 0 for none.
use Rattle.std.specs.Prelude.{◌≡◌, Bool, true, false, not, ◌&&◌, ◌||◌, List, ℕ, get_or, set, eqb, ltb}
use Rattle.base.specs.Choice.{pick}

-- the first of them then
abbrev pub kept_of : ℕ → ℕ → ℕ
kept_of old t = pick (eqb old 0) t old

-- of the creates of task u: it is the only one, in a lower task
abbrev pub create_mark : ℕ → ℕ → ℕ → Bool
create_mark old t u = eqb old 0 && ltb t u

-- of one end of a channel, whose other end is task `other`: t is the only task at this end and not at the other
abbrev pub end_mark : ℕ → ℕ → ℕ → Bool
end_mark old other t = not (eqb other t) && (eqb old 0 || eqb old t)

-- task t enters a table of first tasks at a: what is answered, and the table then
pub record Entered (a t : ℕ) (fits : Bool) (before : List ℕ) (r : Bool) (after : List ℕ) : Type 0 where
  pub answer : r ≡ fits
  pub table : after ≡ set before a (kept_of (get_or before a 0) t)

-- both hold or neither
abbrev pub same_test : Bool → Bool → Bool
same_test true b = b
same_test false b = not b
