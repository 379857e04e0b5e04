-- The numbers of sends, by the slots.
use Rattle.std.specs.Prelude.{◌≡◌, Bool, ◌&&◌, List, ℕ, ◌+◌, ◌*◌, ◌/◌, ◌%◌, ◌<◌, ◌≤◌, get_or, eqb, ltb}
use Rattle.base.specs.Choice.{pick}
use Rattle.base.specs.Range.{sum_below}
use Rattle.base.specs.Lists.{table}
use Rattle.plan.specs.Kinds.{op_send, is_use}
use Rattle.plan_value.specs.Slots.{slot_in}

-- a send among the first `count` instructions of task k + 1 names a channel up to 128
abbrev pub SendsFit : List ℕ → ℕ → ℕ → Type 0
SendsFit codes k count =
    (i : ℕ) → i < count → (slot_in codes (64 * k + i)).opcode ≡ op_send → (slot_in codes (64 * k + i)).operand ≤ 128

-- .. of each of n tasks, which has at most 64 instructions
abbrev pub SendsFitAll : ℕ → List ℕ → List ℕ → Type 0
SendsFitAll n lengths codes =
    (k : ℕ) → k < n → (get_or lengths k 0 ≤ 64) × SendsFit codes k (get_or lengths k 0)

-- how many of the first i instructions of task k + 1 send on channel c
abbrev pub sent_in : List ℕ → ℕ → ℕ → ℕ → ℕ
sent_in codes k i c = sum_below i (λ j. pick (is_use op_send c (slot_in codes (64 * k + j))) 1 0)

-- none of the channels that the first `count` instructions of task k + 1 send on was counted
abbrev pub Unsent : List ℕ → ℕ → ℕ → List ℕ → Type 0
Unsent codes k count sent =
    (i : ℕ) → i < count → (slot_in codes (64 * k + i)).opcode ≡ op_send → get_or sent (slot_in codes (64 * k + i)).operand 0 ≡ 0

-- `sent` with the sends among the first i instructions of task k + 1 counted by channel
abbrev pub counted_task : List ℕ → List ℕ → ℕ → ℕ → List ℕ
counted_task codes sent k i = table 129 (λ c. get_or sent c 0 + sent_in codes k i c)

-- how many instructions of the first n tasks send on channel c
abbrev pub sent_before : List ℕ → List ℕ → ℕ → ℕ → ℕ
sent_before lengths codes n c = sum_below n (λ k. sent_in codes k (get_or lengths k 0) c)

-- the number of the send in slot s
abbrev pub slot_number : List ℕ → ℕ → ℕ
slot_number codes s = sent_in codes (s / 64) (s % 64 + 1) (slot_in codes s).operand

-- slot s is a send among the first i instructions of task k + 1
abbrev pub send_of : List ℕ → ℕ → ℕ → ℕ → Bool
send_of codes k i s = eqb (s / 64) k && (ltb (s % 64) i && eqb (slot_in codes s).opcode op_send)

-- `numbers` with the sends among the first i instructions of task k + 1 numbered
abbrev pub numbered_task : List ℕ → List ℕ → ℕ → ℕ → List ℕ
numbered_task codes numbers k i =
    table 4096 (λ s. pick (send_of codes k i s) (slot_number codes s) (get_or numbers s 0))

-- slot s is a send of one of the first n tasks
abbrev pub send_among : List ℕ → List ℕ → ℕ → ℕ → Bool
send_among lengths codes n s = ltb (s / 64) n && (ltb (s % 64) (get_or lengths (s / 64) 0) && eqb (slot_in codes s).opcode op_send)

-- the numbers of the sends of n tasks, 0 elsewhere
abbrev pub send_numbers : ℕ → List ℕ → List ℕ → List ℕ
send_numbers n lengths codes = table 4096 (λ s. pick (send_among lengths codes n s) (slot_number codes s) 0)
