-- Who uses what, from one table of bytes: of channel c at 4 c its sender, its receiver, the next channel with the same receiver and the
-- next with the same sender; of task t at 640 + 4 t its parent, the first channel that it receives on and the first that it sends on.
use Rattle.std.specs.Prelude.{List, ℕ, ◌+◌, ◌*◌, get_or}
use Rattle.base.specs.Lists.{table}
use Rattle.plan_index.specs.user_table.Links.{Linked}

unfoldable pub senders_of : List ℕ → List ℕ
senders_of users = table 129 (λ c. get_or users (4 * c) 0)

unfoldable pub receivers_of : List ℕ → List ℕ
receivers_of users = table 129 (λ c. get_or users (4 * c + 1) 0)

unfoldable pub parents_of : List ℕ → List ℕ
parents_of users = table 129 (λ t. get_or users (640 + 4 * t) 0)

-- the links of each task's channels: the first, and after each channel the next
unfoldable pub firsts_received : List ℕ → List ℕ
firsts_received users = table 65 (λ t. get_or users (640 + 4 * t + 1) 0)

unfoldable pub nexts_received : List ℕ → List ℕ
nexts_received users = table 129 (λ c. get_or users (4 * c + 2) 0)

unfoldable pub firsts_sent : List ℕ → List ℕ
firsts_sent users = table 65 (λ t. get_or users (640 + 4 * t + 2) 0)

unfoldable pub nexts_sent : List ℕ → List ℕ
nexts_sent users = table 129 (λ c. get_or users (4 * c + 3) 0)

-- its links are those of its own senders and receivers
pub record Indexed (users : List ℕ) : Type 0 where
  pub receiving : Linked (receivers_of users) (firsts_received users) (nexts_received users)
  pub sending : Linked (senders_of users) (firsts_sent users) (nexts_sent users)
