-- What is tested of the two numbers of a slot in use, by the kind of its letter: that what the kind does not have is 0, and the numbers
-- that it has.
use Rattle.std.specs.Prelude.{Bool, ◌&&◌, ℕ, ◌/◌, ◌%◌, eqb, ltb}
use Rattle.base.specs.Choice.{within}
use Rattle.board.specs.packing.Packed.{byte2, byte3, byte4, byte5}
use Rattle.image.specs.Letters.{byte1, high16}

abbrev pub offered_passes : ℕ → ℕ → ℕ → Bool
offered_passes n v w =
    (eqb (byte5 v) 0 && eqb 0 w)
    && (within 1 128 (byte1 v) && ((within 1 n (byte3 v) && within 1 64 (byte4 v)) && (within 1 n (byte2 v) && within 1 9999 (high16 v))))

abbrev pub advert_passes : ℕ → ℕ → ℕ → Bool
advert_passes n v w = (ltb v 4294967296 && eqb 0 w) && (within 1 128 (byte1 v) && (within 1 n (byte2 v) && within 1 n (byte3 v)))

abbrev pub call_passes : ℕ → ℕ → ℕ → Bool
call_passes n v w =
    (eqb (v / 4294967296 % 65536) 0 && eqb 0 w)
    && (within 1 128 (byte1 v) && (within 1 n (byte2 v) && (within 1 n (byte3 v) && within 1 9999 (high16 v))))

-- any word
abbrev pub word_passes : ℕ → ℕ → Bool
word_passes n v = ltb v 16777216 && (within 1 128 (byte1 v) && within 1 n (byte2 v))

abbrev pub ended_passes : ℕ → ℕ → ℕ → ℕ → Bool
ended_passes n m v w =
    (eqb (v / 16777216 % 16777216) 0 && eqb 0 w) && ((within 1 n (byte2 v) && within 1 9999 (high16 v)) && within 1 m (byte1 v))

abbrev pub mover_passes : ℕ → ℕ → ℕ → ℕ → Bool
mover_passes n m v w = (ltb v 16777216 && eqb 0 w) && (within 1 n (byte2 v) && within 1 m (byte1 v))
