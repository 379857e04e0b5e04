-- A number of 64 bits, put together from its fields.
use mathlib.Core.Path.{◌≡◌}
use Prim.Native.Nat.{ℕ, ◌+◌, ◌*◌, ◌/◌, ◌%◌, ◌<◌}
use native.Mathlib.Omega.{arith}
use Rattle.board.specs.packing.Packed.{byte2, byte3}
use Rattle.image.specs.Letters.{letter_word, byte1, high16}
use Rattle.image_laws.specs.Held.{top64}

joined : (v a b c d e k r s t o u : ℕ) → v ≡ k + 256 * a → a ≡ r + 256 * b → b ≡ s + 256 * c → c ≡ t + 256 * d → d ≡ o + 65536 * e → u ≡ e
    → letter_word k r s t o u ≡ v
joined v a b c d e k r s t o u p q x y z g = omega arith

pub fields : (v : ℕ) → v < top64 → letter_word (v % 256) (byte1 v) (byte2 v) (byte3 v) (v / 4294967296 % 65536) (high16 v) ≡ v
fields v l =
    joined v (v / 256) (v / 65536) (v / 16777216) (v / 4294967296) (v / 281474976710656) (v % 256) (byte1 v) (byte2 v) (byte3 v) (v / 4294967296 % 65536) (high16 v)
    (omega arith) (omega arith) (omega arith) (omega arith) (omega arith) (omega arith)
