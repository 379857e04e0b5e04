-- A list of bytes.
use Rattle.std.specs.Prelude.{List, ℕ, ◌<◌, get_or}

-- each entry is below 256
abbrev pub Bytes : List ℕ → Type 0
Bytes b = (i : ℕ) → get_or b i 0 < 256
