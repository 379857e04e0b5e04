-- A sum of 16 bits that wrapped is below what was added to, and no other is.
use Rattle.std.proofs.Common.{◌≡◌, ℕ, ◌+◌, ◌%◌, ◌<◌, ltb, sym, ◌∙◌, arith, le-ltb, lt-ltb}
use mathlib.Core.Logic.{by_cases}
use native.Mathlib.Decide.{dec_lt}

pub wraps : (x y : ℕ) → x < 65536 → y < 65536 → ltb ((x + y) % 65536) x ≡ ltb 65535 (x + y)
wraps x y h k =
    by_cases
    (dec_lt 65535 (x + y))
    (λ l. lt-ltb ((x + y) % 65536) x (omega arith) ∙ sym (lt-ltb 65535 (x + y) l))
    (λ l. le-ltb ((x + y) % 65536) x (omega arith) ∙ sym (le-ltb 65535 (x + y) (omega arith)))
