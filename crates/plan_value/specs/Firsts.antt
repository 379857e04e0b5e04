-- The first task of each use of a plan.
use Rattle.std.specs.Prelude.{◌≡◌, Bool, not, ◌||◌, List, ℕ, ◌+◌, get_or, replicate, eqb, leb}
use Rattle.base.specs.Range.{below}
use Rattle.base.specs.Lists.{table}
use Rattle.plan.specs.Kinds.{op_create, op_send, op_receive}
use Rattle.plan.specs.Programs.{Programs}
use Rattle.plan.specs.Users.{users, first_of}

-- for each argument the first task that has an instruction of kind k with it, 0 for none
abbrev pub first_users : Programs → ℕ → List ℕ
first_users m k = table 129 (λ a. first_of (users m k a))

-- each task's parent, and each channel's sender and receiver
pub record Firsts (m : Programs) (p s r : List ℕ) : Type 0 where
  pub parents : p ≡ first_users m op_create
  pub senders : s ≡ first_users m op_send
  pub receivers : r ≡ first_users m op_receive

-- nobody yet
pub record NoFirsts (p s r : List ℕ) : Type 0 where
  pub parents : p ≡ replicate 129 0
  pub senders : s ≡ replicate 129 0
  pub receivers : r ≡ replicate 129 0

-- each task but the first has a parent
abbrev pub has_parent : List ℕ → ℕ → Bool
has_parent parents k = leb (k + 1) 1 || not (eqb (get_or parents (k + 1) 0) 0)

abbrev pub all_created : ℕ → List ℕ → Bool
all_created n parents = below n (has_parent parents)
