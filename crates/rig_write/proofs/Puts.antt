-- Bytes put at a place: stores one behind the other, a run behind another, numbers and pairs of numbers one more.
use mathlib.Core.Path.{◌≡◌, refl, sym, ap, ◌∙◌}
use mathlib.Core.List.{List, [], ◌∷◌, ◌++◌, append_assoc, append-nil}
use Prim.Native.Nat.{ℕ, ◌+◌, ◌*◌, ◌/◌, ◌%◌, ◌<◌, ◌≤◌}
use native.Mathlib.Numerals.{add-one}
use native.Mathlib.Omega.{arith}
use lib.ListN.{length, take, drop, set, get_or, length-append, replicate, length-replicate}
use lib.Seq.{drop-drop, sets-eq, take-suc, length-take-le}
use borrow.Rule.Slice.PartMut.{put_mid}
use Rattle.std.specs.Int.{w16, w64, to_le_bytes}
use Rattle.base.specs.Lists.{table, table_before}
use Rattle.base.specs.Range.{joined}
use Rattle.base.proofs.Tables.{table_more, length_table}
use Rattle.base.proofs.Folds.{fold_none, fold_more}
use Rattle.plan_write.specs.output.Output.{overlay}
use Rattle.plan_write.proofs.output.Overlay.{overlay_none, overlay_more, length_overlay}
use Rattle.image.specs.Numbers.{number_bytes, numbers_bytes}
use Rattle.image_laws.proofs.Numbers.{length_number, length_numbers, numbers_append}
use Rattle.image_laws.proofs.Pieces.{length_rows}

-- the bytes of a number, the lowest first
module _ (v : ℕ) where
  bytes2 : number_bytes 2 v ≡ v % 256 ∷ v / 256 % 256 ∷ []
  unfolding number_bytes
  bytes2 = refl

  e2 : v / 256 / 256 ≡ v / 65536
  e2 = omega arith

  e3 : v / 65536 / 256 ≡ v / 16777216
  e3 = omega arith

  e4 : v / 16777216 / 256 ≡ v / 4294967296
  e4 = omega arith

  e5 : v / 4294967296 / 256 ≡ v / 1099511627776
  e5 = omega arith

  e6 : v / 1099511627776 / 256 ≡ v / 281474976710656
  e6 = omega arith

  e7 : v / 281474976710656 / 256 ≡ v / 72057594037927936
  e7 = omega arith

  bytes4 : number_bytes 4 v ≡ v % 256 ∷ v / 256 % 256 ∷ v / 65536 % 256 ∷ v / 16777216 % 256 ∷ []
  unfolding number_bytes
  bytes4 = rw (e2, e3) refl

  bytes8 : number_bytes 8 v
      ≡ v % 256 ∷ v / 256 % 256 ∷ v / 65536 % 256 ∷ v / 16777216 % 256 ∷ v / 4294967296 % 256 ∷ v / 1099511627776 % 256 ∷ v / 281474976710656 % 256 ∷ v / 72057594037927936 % 256 ∷ []
  unfolding number_bytes
  bytes8 = rw (e2, e3, e4, e5, e6, e7) refl

  pub le2 : to_le_bytes w16 v ≡ number_bytes 2 v
  le2 = sym bytes2

  pub le4 : take 4 (to_le_bytes w64 v) ≡ number_bytes 4 v
  le4 = sym bytes4

  pub le8 : to_le_bytes w64 v ≡ number_bytes 8 v
  le8 = sym bytes8

-- a part of the bytes overwritten
pub part_put : (out ys xs : List ℕ) (at k : ℕ) → ys ≡ xs → k ≡ length xs → put_mid at k out ys ≡ overlay out at xs
unfolding overlay
part_put out ys xs at k e h = rw (e, h) (ap (λ (l : List ℕ). take at out ++ (xs ++ l)) (drop-drop (length xs) at out))

pub zeros_put : (out ys : List ℕ) (at n k m : ℕ) → ys ≡ replicate m 0 → m ≡ n → k ≡ n → put_mid at k out ys ≡ overlay out at (replicate n 0)
zeros_put out ys at n k m e h q =
    part_put out ys (replicate n 0) at k (e ∙ ap (λ (i : ℕ). replicate i 0) h) (q ∙ sym (length-replicate n 0))

-- one number, and two
module _ (w : ℕ) where
  numbers_one : (v : ℕ) → numbers_bytes w (v ∷ []) ≡ number_bytes w v
  unfolding numbers_bytes
  numbers_one v = append-nil (number_bytes w v)

  pub numbers_two : (v u : ℕ) → numbers_bytes w (v ∷ u ∷ []) ≡ number_bytes w v ++ number_bytes w u
  unfolding numbers_bytes
  numbers_two v u = ap (λ (l : List ℕ). number_bytes w v ++ l) (append-nil (number_bytes w u))

-- ys behind xs
pub put_more : (out now after : List ℕ) (at p : ℕ) (xs ys : List ℕ) → at ≤ length out → now ≡ overlay out at xs → p ≡ at + length xs → after ≡ overlay now p ys
    → after ≡ overlay out at (xs ++ ys)
put_more out now after at p xs ys h e q r = r ∙ rw (e, q) (overlay_more out at xs ys h)

-- the bytes stay as many
pub put_length : (out now : List ℕ) (at : ℕ) (xs : List ℕ) → at + length xs ≤ length out → now ≡ overlay out at xs → length now ≡ length out
put_length out now at xs h e = ap length e ∙ length_overlay out at xs h

module _ (w : ℕ) (out : List ℕ) (at : ℕ) where
  -- numbers by a rule: none, one more, how long
  pub table_none : (f : ℕ → ℕ) → out ≡ overlay out at (numbers_bytes w (table 0 f))
  unfolding table table_before numbers_bytes
  table_none f = sym (overlay_none out at)

  pub table_step : (f : ℕ → ℕ) (now after : List ℕ) (k p v : ℕ) → at ≤ length out → now ≡ overlay out at (numbers_bytes w (table k f))
      → p ≡ at + w * k → after ≡ overlay now p (number_bytes w v) → v ≡ f k
      → after ≡ overlay out at (numbers_bytes w (table (k + 1) f))
  table_step f now after k p v h e q r s =
      let xs = numbers_bytes w (table k f) in
      let place : p ≡ at + length xs = q ∙ ap (λ (n : ℕ). at + n) (sym (length_numbers w (table k f) ∙ ap (λ (n : ℕ). w * n) (length_table k f))) in
      let all : numbers_bytes w (table (k + 1) f) ≡ xs ++ number_bytes w (f k) =
      rw (table_more k f, numbers_append w (table k f) (f k ∷ []), numbers_one w (f k)) refl in
      put_more out now after at p xs (number_bytes w v) h e place r ∙ rw (all, s) refl

  pub table_length : (f : ℕ → ℕ) (k : ℕ) (now : List ℕ) → at + w * k ≤ length out → now ≡ overlay out at (numbers_bytes w (table k f)) → length now ≡ length out
  table_length f k now h e =
      put_length out now at (numbers_bytes w (table k f)) (rw (length_numbers w (table k f), length_table k f) h) e

  -- pairs of numbers by a rule
  pub pairs_none : (f : ℕ → List ℕ) → out ≡ overlay out at (numbers_bytes w (joined 0 f))
  unfolding numbers_bytes
  pairs_none f = rw (fold_none ◌++◌ [] f) (sym (overlay_none out at))

  pub pairs_step : (f : ℕ → List ℕ) (now mid after : List ℕ) (k p q v u : ℕ) → ((i : ℕ) → length (f i) ≡ 2) → at ≤ length out
      → now ≡ overlay out at (numbers_bytes w (joined k f)) → p ≡ at + w * (2 * k) → mid ≡ overlay now p (number_bytes w v) → q ≡ p + w
      → after ≡ overlay mid q (number_bytes w u) → f k ≡ v ∷ u ∷ []
      → after ≡ overlay out at (numbers_bytes w (joined (k + 1) f))
  pairs_step f now mid after k p q v u two h e pe r qe s fe =
      let xs = numbers_bytes w (joined k f) in
      let long : length xs ≡ w * (2 * k) = length_numbers w (joined k f) ∙ ap (λ (n : ℕ). w * n) (length_rows k f two) in
      let first : mid ≡ overlay out at (xs ++ number_bytes w v) =
      put_more out now mid at p xs (number_bytes w v) h e (pe ∙ ap (λ (n : ℕ). at + n) (sym long)) r in
      let longer : length (xs ++ number_bytes w v) ≡ w * (2 * k) + w =
      length-append xs (number_bytes w v) ∙ rw (long, length_number w v) refl in
      let place : q ≡ at + length (xs ++ number_bytes w v) = omega (arith, longer) in
      let all : numbers_bytes w (joined (k + 1) f) ≡ (xs ++ number_bytes w v) ++ number_bytes w u =
      rw (fold_more ◌++◌ [] k f, numbers_append w (joined k f) (f k), fe, numbers_two w v u) (sym (append_assoc xs (number_bytes w v) (number_bytes w u))) in
      put_more out mid after at q (xs ++ number_bytes w v) (number_bytes w u) h first place s ∙ rw all refl

  pub pairs_length : (f : ℕ → List ℕ) (k : ℕ) (now : List ℕ) → ((i : ℕ) → length (f i) ≡ 2) → at + w * (2 * k) ≤ length out
      → now ≡ overlay out at (numbers_bytes w (joined k f)) → length now ≡ length out
  pairs_length f k now two h e =
      put_length out now at (numbers_bytes w (joined k f)) (rw (length_numbers w (joined k f), length_rows k f two) h) e

pub none_put : (out : List ℕ) (at : ℕ) → out ≡ overlay out at []
none_put out at = sym (overlay_none out at)

-- the first bytes of a list, one more
pub bytes_step : (out now xs : List ℕ) (at k : ℕ) → k < length xs → at + k < length out → now ≡ overlay out at (take k xs)
    → set now (at + k) (get_or xs k 0) ≡ overlay out at (take (k + 1) xs)
unfolding overlay
bytes_step out now xs at k l h e =
    let v = get_or xs k 0 in
    let few : length (take k xs) ≡ k = length-take-le k xs (omega arith) in
    let long : length now ≡ length out = put_length out now at (take k xs) (omega (arith, few)) e in
    let one : set now (at + k) v ≡ overlay now (at + k) (v ∷ []) =
    sets-eq (v ∷ []) now (at + k) (omega (arith, long)) ∙ append_assoc (take (at + k) now) (v ∷ []) (drop (at + k + 1) now) in
    put_more out now (set now (at + k) v) at (at + k) (take k xs) (v ∷ []) (omega arith) e (omega (arith, few)) one ∙ rw (add-one k, take-suc xs k 0 l) refl

-- three runs, and five, one behind the other
pub three_puts : (out o1 o2 o3 x1 x2 x3 : List ℕ) (a1 a2 a3 : ℕ) → a1 ≤ length out → a2 ≡ a1 + length x1 → a3 ≡ a2 + length x2
    → o1 ≡ overlay out a1 x1 → o2 ≡ overlay o1 a2 x2 → o3 ≡ overlay o2 a3 x3
    → o3 ≡ overlay out a1 (x1 ++ (x2 ++ x3))
three_puts out o1 o2 o3 x1 x2 x3 a1 a2 a3 h p2 p3 e1 e2 e3 =
    let s2 : o2 ≡ overlay out a1 (x1 ++ x2) = put_more out o1 o2 a1 a2 x1 x2 h e1 p2 e2 in
    let q3 : a3 ≡ a1 + length (x1 ++ x2) = omega (arith, length-append x1 x2) in
    put_more out o2 o3 a1 a3 (x1 ++ x2) x3 h s2 q3 e3 ∙ ap (overlay out a1) (append_assoc x1 x2 x3)

pub five_puts : (out o1 o2 o3 o4 o5 x1 x2 x3 x4 x5 : List ℕ) (a1 a2 a3 a4 a5 : ℕ) → a1 ≤ length out
    → a2 ≡ a1 + length x1 → a3 ≡ a2 + length x2 → a4 ≡ a3 + length x3 → a5 ≡ a4 + length x4
    → o1 ≡ overlay out a1 x1 → o2 ≡ overlay o1 a2 x2 → o3 ≡ overlay o2 a3 x3 → o4 ≡ overlay o3 a4 x4 → o5 ≡ overlay o4 a5 x5
    → o5 ≡ overlay out a1 (x1 ++ (x2 ++ (x3 ++ (x4 ++ x5))))
five_puts out o1 o2 o3 o4 o5 x1 x2 x3 x4 x5 a1 a2 a3 a4 a5 h p2 p3 p4 p5 e1 e2 e3 e4 e5 =
    let s3 : o3 ≡ overlay out a1 (x1 ++ (x2 ++ x3)) = three_puts out o1 o2 o3 x1 x2 x3 a1 a2 a3 h p2 p3 e1 e2 e3 in
    let long : length (x1 ++ (x2 ++ x3)) ≡ length x1 + (length x2 + length x3) = simp length-append in
    let q4 : a4 ≡ a1 + length (x1 ++ (x2 ++ x3)) = omega arith in
    three_puts out o3 o4 o5 (x1 ++ (x2 ++ x3)) x4 x5 a1 a4 a5 h q4 p5 s3 e4 e5 ∙ ap (overlay out a1) (simp append_assoc)
