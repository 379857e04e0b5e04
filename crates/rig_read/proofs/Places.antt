-- A number of some bytes at a place, byte by byte.
use mathlib.Core.Path.{◌≡◌, sym, ◌∙◌}
use mathlib.Core.List.{List}
use Prim.Native.Nat.{ℕ, suc, ◌+◌, ◌*◌, ◌≤◌}
use native.Mathlib.Omega.{arith}
use lib.ListN.{length, get_or}
use lib.Seq.{ext_get_or}
use Rattle.std.specs.List.{between}
use Rattle.std.proofs.lemmas.List.Edits.{length-between, get_or-between}
use Rattle.base.specs.Lists.{table}
use Rattle.base.proofs.Tables.{length_table, get_d_table}
use Rattle.image.specs.Numbers.{number_at, numbers_at}

module _ (b : List ℕ) (at : ℕ) where
  pub one_byte : number_at 1 b at ≡ get_or b at 0
  unfolding number_at
  one_byte = omega arith

  pub two_bytes : number_at 2 b at ≡ get_or b at 0 + 256 * get_or b (at + 1) 0
  unfolding number_at
  two_bytes = let e1 : at + 1 ≡ suc at = omega arith in rw e1 (omega arith)

  pub four_bytes : number_at 4 b at ≡ get_or b at 0 + 256 * get_or b (at + 1) 0 + 65536 * get_or b (at + 2) 0 + 16777216 * get_or b (at + 3) 0
  unfolding number_at
  four_bytes =
      let e1 : at + 1 ≡ suc at = omega arith in
      let e2 : at + 2 ≡ suc (suc at) = omega arith in
      let e3 : at + 3 ≡ suc (suc (suc at)) = omega arith in
      rw (e1, e2, e3) (omega arith)

  pub eight_bytes : number_at 8 b at
      ≡ get_or b at 0 + 256 * get_or b (at + 1) 0 + 65536 * get_or b (at + 2) 0 + 16777216 * get_or b (at + 3) 0 + 4294967296 * get_or b (at + 4) 0
      + 1099511627776 * get_or b (at + 5) 0 + 281474976710656 * get_or b (at + 6) 0 + 72057594037927936 * get_or b (at + 7) 0
  unfolding number_at
  eight_bytes =
      let e1 : at + 1 ≡ suc at = omega arith in
      let e2 : at + 2 ≡ suc (suc at) = omega arith in
      let e3 : at + 3 ≡ suc (suc (suc at)) = omega arith in
      let e4 : at + 4 ≡ suc (suc (suc (suc at))) = omega arith in
      let e5 : at + 5 ≡ suc (suc (suc (suc (suc at)))) = omega arith in
      let e6 : at + 6 ≡ suc (suc (suc (suc (suc (suc at))))) = omega arith in
      let e7 : at + 7 ≡ suc (suc (suc (suc (suc (suc (suc at)))))) = omega arith in
      rw (e1, e2, e3, e4, e5, e6, e7) (omega arith)

-- the byte after k others from a place on
pub byte_in : (b : List ℕ) (at k : ℕ) → get_or b (at + k) 0 ≡ number_at 1 b (at + 1 * k)
byte_in b at k = let e : at + 1 * k ≡ at + k = omega arith in rw e (sym (one_byte b (at + k)))

-- bytes from a place on are the numbers of one byte there
pub bytes_in : (b : List ℕ) (at n e : ℕ) → e ≡ at + n → e ≤ length b → between at e b ≡ numbers_at 1 n b at
unfolding numbers_at
bytes_in b at n e q h =
    let f : ℕ → ℕ = λ k. number_at 1 b (at + 1 * k) in
    let long : length (between at e b) ≡ n = length-between b at e h ∙ omega arith in
    ext_get_or 0 (between at e b) (table n f) (long ∙ sym (length_table n f))
    (λ i l.
    get_or-between b at e i 0 (omega (arith, long)) ∙ byte_in b at i ∙ sym (get_d_table n f i 0 (omega (arith, long))))
