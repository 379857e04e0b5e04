-- How long a trace can be, by the limits: 2,000 lines of steps of at most 35 bytes (`2000 0 128 65535 65535 65535 65535`), 9 lines of marked tasks
-- of 7 (`over 9`) and 55 of 8 (`over 64`), and the last of at most 10 (`end 0 256`).
use Rattle.std.specs.Prelude.{ℕ, ◌+◌, ◌*◌}

abbrev pub longest_trace : ℕ
longest_trace = 2000 * 35 + (9 * 7 + 55 * 8) + 10
