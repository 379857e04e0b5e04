-- Locating a moving task by counted pointers: over any table of pointers and any history. A history says to which desk the task was sent with
-- each move count; birth is count 1. Desks are numbers here, 0 is none.
use Rattle.std.specs.Prelude.{◌≡◌, ℕ, zero, suc, ◌≤◌, ◌<◌, eqb, ltb}
use Rattle.base.specs.Choice.{pick}
use Rattle.base.specs.Range.{sum_below}
use Rattle.plan.specs.Numbers.{processor_id}
use Rattle.rules.specs.declared.channel.Hint.{Hint}
use Rattle.rules.specs.Hints.{hint}

abbrev pub hint_to : ℕ → ℕ → Hint
hint_to d k = hint (processor_id d) k

-- a pointer is right if the task was sent there with that count; the unknown one is, since nothing was sent with count 0
pub record Right (history : ℕ → ℕ) (moves : ℕ) (p : Hint) : Type 0 where
  pub old : p.moves ≤ moves
  pub says : p.processor.0 ≡ history p.moves

-- a letter to desk `to` with count k goes where the task was sent with that count
pub record Way (history : ℕ → ℕ) (moves to k : ℕ) : Type 0 where
  pub some : 1 ≤ k
  pub old : k ≤ moves
  pub says : to ≡ history k

-- the task is on its way to desk x
pub record Coming (at moves x last : ℕ) : Type 0 where
  pub moving : at ≡ 0
  pub born : 1 ≤ moves
  pub sent : x ≡ last

-- the task has the move count `moves` and stands at the desk `at`, or at none; each of n desks has a pointer
pub record Table (n : ℕ) (history : ℕ → ℕ) (moves at : ℕ) (hints : ℕ → Hint) : Type 0 where
  pub none : history 0 ≡ 0
  pub low : (k : ℕ) → 1 ≤ k → k ≤ moves → 1 ≤ history k
  pub high : (k : ℕ) → k ≤ moves → history k ≤ n
  pub right : (x : ℕ) → Right history moves (hints x)
  -- a desk that the task has left knows of a later count
  pub past : (j : ℕ) → 1 ≤ j → j < moves → j < (hints (history j)).moves
  -- where it stands it was sent last, and the desk knows it
  pub here : 1 ≤ at → at ≡ history moves
  pub born : 1 ≤ at → 1 ≤ moves
  pub top : 1 ≤ at → (hints at).moves ≡ moves

-- How often a letter with count m can still be forwarded: the desks that the task has left with a count above m.

-- the count with which the task last left desk x; 0, never
unfoldable pub left_with : (ℕ → ℕ) → ℕ → ℕ → ℕ
left_with history zero x = 0
left_with history (suc k) x = pick (eqb (history k) x) (suc k) (left_with history k x)

unfoldable pub over : ℕ → ℕ → ℕ
over m k = pick (ltb m k) 1 0

unfoldable pub forwards : (ℕ → ℕ) → ℕ → ℕ → ℕ → ℕ
forwards history moves n m = sum_below n (λ x. over m (left_with history moves (suc x)))
