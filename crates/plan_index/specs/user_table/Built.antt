-- The table of who uses what, as it is built.
use Rattle.std.specs.Prelude.{List, ◌≡◌, ℕ, zero, suc, ◌+◌, ◌*◌, ◌≤◌, ◌<◌, get_or, set, length}
use Rattle.plan_index.specs.user_table.Users.{senders_of, receivers_of, parents_of, Indexed}

-- the parents of the tasks below n are stored
unfoldable pub with_parents : List ℕ → ℕ → List ℕ → List ℕ
with_parents parents zero users = users
with_parents parents (suc n) users = set (with_parents parents n users) (640 + 4 * n) (get_or parents n 0)

-- channel c has task t at one end, and goes before the channels that the task has there
unfoldable pub with_end : List ℕ → ℕ → ℕ → ℕ → ℕ → ℕ → List ℕ
with_end users c t end first next =
    set (set (set users (640 + 4 * t + first) c) (4 * c + next) (get_or users (640 + 4 * t + first) 0)) (4 * c + end) t

-- c is a channel, t a task or none, and each has four bytes
pub record AtEnd (c t end first next : ℕ) : Type 0 where
  pub channel_low : 1 ≤ c
  pub channel : c ≤ 128
  pub task : t ≤ 64
  pub end_few : end < 4
  pub first_few : first < 4
  pub next_few : next < 4

-- the first channel without a task is apart from the table, the given one before and the answered one then
abbrev pub EndLinked : List ℕ → ℕ → ℕ → ℕ → ℕ → ℕ → ℕ → ℕ → List ℕ → Type 0
EndLinked users c t none end first next r after =
    set after (640 + first) r ≡ with_end (set users (640 + first) none) c t end first next

-- the senders and the receivers of 128 channels are among 64 tasks, and only these have parents
pub record Few (senders receivers parents : List ℕ) : Type 0 where
  pub senders_long : length senders ≡ 129
  pub receivers_long : length receivers ≡ 129
  pub parents_long : length parents ≡ 129
  pub sender : (c : ℕ) → get_or senders c 0 ≤ 64
  pub receiver : (c : ℕ) → get_or receivers c 0 ≤ 64
  pub parent : (t : ℕ) → 64 < t → get_or parents t 0 ≡ 0

-- the table has these senders, receivers and parents, with their links
pub record Built (senders receivers parents users : List ℕ) : Type 0 where
  pub senders_of_lem : senders_of users ≡ senders
  pub receivers_of_lem : receivers_of users ≡ receivers
  pub parents_of_lem : parents_of users ≡ parents
  pub indexed : Indexed users
