-- A line put behind what is filled of the output.
use Rattle.std.specs.Prelude.{◌≡◌, List, ◌++◌, ℕ, ◌+◌, ◌≤◌, length, take, drop, leb}
use Rattle.base.specs.Choice.{pick}

-- the line t behind the first `filled` bytes, where it fits; r is how many
-- bytes were written. Where it does not fit, the output stays as it was.
pub record Emitted (before : List ℕ) (filled : ℕ) (t : List ℕ) (r : ℕ) (after : List ℕ) : Type 0 where
  pub count : r ≡ pick (leb (filled + length t) (length before)) (length t) 0
  pub bytes : after ≡ pick (leb (filled + length t) (length before)) (take filled before ++ (t ++ drop (filled + length t) before)) before

-- out is o with t written at its front: bytes behind it are unchanged; `filled` is where t ends
pub record Filled (o t : List ℕ) (filled : ℕ) (out : List ℕ) : Type 0 where
  pub bytes : out ≡ t ++ drop (length t) o
  pub end : filled ≡ length t
  pub room : length t ≤ length o

-- after is o with t written from the place `at` on, which has room for it
pub record Put (o : List ℕ) (at : ℕ) (t : List ℕ) (after : List ℕ) : Type 0 where
  pub bytes : after ≡ take at o ++ (t ++ drop (at + length t) o)
  pub room : at + length t ≤ length o

-- the same; t ends at r
pub record PutTo (o : List ℕ) (at : ℕ) (t : List ℕ) (r : ℕ) (after : List ℕ) : Type 0 where
  pub put : Put o at t after
  pub end : r ≡ at + length t
