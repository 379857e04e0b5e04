-- The mail lent out of the bytes of a rig, and back in them.
use mathlib.Core.Path.{◌≡◌, refl, sym, ap, ◌∙◌}
use mathlib.Core.List.{List, [], ◌++◌, append-nil}
use Prim.Native.Nat.{ℕ}
use native.Mathlib.Omega.{arith}
use lib.ListN.{length, take, drop, length-append, length-drop}
use lib.Seq.{take_at, drop_at, drop-drop, drop-length, take_all, length-take-le}
use Rattle.rules.specs.declared.message.Network.{Network}
use Rattle.board.specs.Lent.{Lent}
use Rattle.rig_write.specs.Mail.{mail_bytes}
use Rattle.rig_write.specs.Written.{lent_written, parts_written}
use Rattle.rig_write.proofs.Written.{lent_parts}

-- what is lent, and the bytes when m is back in its place
abbrev pub mail_of : List ℕ → List ℕ
mail_of b = take 4096 (drop 30024 b)

abbrev pub back_in : List ℕ → List ℕ → List ℕ
back_in b m = take 30024 b ++ (m ++ drop 4096 (drop 30024 b))

module _ (b : List ℕ) (h : length b ≡ 34120) where
  pub lent_all : mail_of b ≡ drop 30024 b
  lent_all = take_all 4096 (drop 30024 b) (omega (arith, length-drop 30024 b))

  pub lent_long : length (mail_of b) ≡ 4096
  lent_long = ap length lent_all ∙ length-drop 30024 b ∙ omega arith

  none_behind : drop 4096 (drop 30024 b) ≡ []
  none_behind =
      let e : 34120 ≡ length b = omega arith in
      drop-drop 4096 30024 b ∙ ap (λ (i : ℕ). drop i b) e ∙ drop-length b

  module _ (m : List ℕ) where
    pub back_bytes : back_in b m ≡ take 30024 b ++ m
    back_bytes = ap (λ (z : List ℕ). take 30024 b ++ (m ++ z)) none_behind ∙ ap (λ (z : List ℕ). take 30024 b ++ z) (append-nil m)

    front_long : length (take 30024 b) ≡ 30024
    front_long = length-take-le 30024 b (omega arith)

    pub back_long : length m ≡ 4096 → length (back_in b m) ≡ 34120
    back_long l = ap length back_bytes ∙ length-append (take 30024 b) m ∙ omega (arith, front_long)

    pub back_front : take 30024 (back_in b m) ≡ take 30024 b
    back_front = ap (take 30024) back_bytes ∙ take_at (take 30024 b) m 30024 front_long

    pub back_mail : drop 30024 (back_in b m) ≡ m
    back_mail = ap (drop 30024) back_bytes ∙ drop_at (take 30024 b) m 30024 front_long

    -- lent again
    pub back_lent : length m ≡ 4096 → mail_of (back_in b m) ≡ m
    back_lent l = ap (take 4096) back_mail ∙ take_all 4096 m (omega arith)

    -- the bytes of a mail back, and the other parts written: all parts
    pub back_written : (l : Lent) (k : Network) (chosen : List ℕ) → m ≡ mail_bytes k → lent_written (back_in b m) l k.used chosen ≡ parts_written b l k chosen
    back_written l k chosen e = lent_parts b h (back_in b m) l k chosen back_front (back_mail ∙ e)

  -- back a second time
  pub back_again : (m n : List ℕ) → length m ≡ 4096 → back_in (back_in b m) n ≡ back_in b n
  back_again m n l =
      let none : drop 4096 (drop 30024 (back_in b m)) ≡ [] =
      ap (drop 4096) (back_mail m) ∙ ap (λ (i : ℕ). drop i m) (sym l) ∙ drop-length m in
      rw (back_front m, none, none_behind) refl
