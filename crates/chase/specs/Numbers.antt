-- "It reads m from standard input, the digits before the first other byte (none is 0)".
use Rattle.std.specs.Prelude.{Bool, true, false, ◌&&◌, List, [], ◌∷◌, ℕ, ◌+◌, ◌*◌, ◌-◌, leb}
use Rattle.base.specs.Choice.{pick, within}
use Rattle.chase.specs.declared.number.Number.{Number}

-- the bytes `0` to `9`
abbrev pub is_digit : ℕ → Bool
is_digit b = within 48 57 b

-- the number that the digits before the first other byte say, behind digits that say n
unfoldable pub decimal_from : ℕ → List ℕ → ℕ
decimal_from n [] = n
decimal_from n (b ∷ bs) = pick (is_digit b) (decimal_from (10 * n + (b - 48)) bs) n

abbrev pub decimal : List ℕ → ℕ
decimal b = decimal_from 0 b

-- n, or 501 where it is more: all numbers above 500 are refused alike
abbrev pub at_most501 : ℕ → ℕ
at_most501 n = pick (leb n 501) n 501

-- a number that is read in parts: how it stands after one more byte, and after more
unfoldable pub read_byte : Number → ℕ → Number
read_byte x b =
    pick (x.more && is_digit b) (record { value = at_most501 (10 * x.value + (b - 48)); more = true })
    (record { value = x.value; more = false })

unfoldable pub read_on : Number → List ℕ → Number
read_on x [] = x
read_on x (b ∷ bs) = read_on (read_byte x b) bs

-- nothing is read
abbrev pub unread : Number
unread = record { value = 0; more = true }
