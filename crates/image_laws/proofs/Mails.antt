-- The mail as numbers: two for each of 256 slots.
use mathlib.Core.Path.{◌≡◌, refl, sym, ◌∙◌, ap}
use mathlib.Core.Bool.{true}
use mathlib.Core.List.{List, [], ◌∷◌, ◌++◌}
use mathlib.Core.Logic.{by_cases}
use Prim.Native.Nat.{ℕ, suc, ◌+◌, ◌*◌, ◌-◌, ◌<◌}
use native.Mathlib.Nat.{zero-add}
use native.Mathlib.Omega.{arith}
use native.Mathlib.Decide.{dec_lt}
use lib.Dec.{ltb}
use lib.ListN.{length, get_or}
use borrow.Author.Tests.{lt-ltb, le-ltb}
use Rattle.base.specs.Choice.{pick}
use Rattle.base.specs.Range.{joined}
use Rattle.base.specs.Lists.{table}
use Rattle.base.proofs.Choices.{pick_either}
use Rattle.base.proofs.Tests.{below_at, below_all}
use Rattle.base.proofs.Folds.{fold_same}
use Rattle.base.proofs.Tables.{get_d_table}
use Rattle.plan_laws.proofs.Pieces.{whole}
use Rattle.plan_laws.proofs.Held.{Held, held_all}
use Rattle.rules.specs.declared.message.Message.{Message}
use Rattle.rules.specs.declared.message.Slot.{Slot}
use Rattle.rules.specs.declared.message.Network.{Network}
use Rattle.rules.specs.Networks.{slot, no_slot, message_at}
use Rattle.image.specs.Numbers.{number_at, numbers_at}
use Rattle.image.specs.Letters.{letter_numbers, letter_of, mail_numbers}
use Rattle.image.specs.Image.{network_in}
use Rattle.image_laws.specs.Parts.{slot_tidy, mail_tidy}
use Rattle.image_laws.specs.Held.{top64, AllBelow, LetterFits, MailFits}
use Rattle.image_laws.proofs.Same.{same_bytes_true, same_bytes_refl}
use Rattle.image_laws.proofs.Numbers.{length_numbers_at}
use Rattle.image_laws.proofs.Pieces.{piece_all, two, rows_piece, held_rows, length_rows, joined_below}
use Rattle.image_laws.proofs.Letters.{letter_two, letter_again, letter_numbers_below, zeros_below, letter_fits}

-- the numbers of the letter in a slot, if it is used
abbrev pub row : ℕ → ℕ → Message → List ℕ
row used k m = pick (ltb k used) (letter_numbers m) (0 ∷ 0 ∷ [])

row_two : (used k : ℕ) (m : Message) → length (row used k m) ≡ 2
row_two used k m = pick_either (λ (l : List ℕ). length l ≡ 2) (ltb k used) (letter_numbers m) (0 ∷ 0 ∷ []) (letter_two m) refl

row_below : (used k : ℕ) (m : Message) → (k < used → LetterFits m) → AllBelow top64 (row used k m)
row_below used k m f =
    by_cases
    (dec_lt k used)
    (λ l. rw (lt-ltb k used l) (letter_numbers_below m (f l)))
    (λ l. rw (le-ltb k used (omega arith)) zeros_below)

list_of_two : (xs : List ℕ) → length xs ≡ 2 → xs ≡ get_or xs 0 0 ∷ get_or xs 1 0 ∷ []
list_of_two [] h = absurd (omega arith)
list_of_two (x ∷ []) h = absurd (omega arith)
list_of_two (x ∷ y ∷ []) h = refl
list_of_two (x ∷ y ∷ z ∷ zs) h = absurd (omega arith)

module _ (n : Network) where
  abbrev pub letter_in : ℕ → Message
  letter_in k = (get_or n.slots k no_slot).message

  abbrev pub row_in : ℕ → List ℕ
  row_in k = row n.used k (letter_in k)

  pub mail_rows : mail_numbers n ≡ joined 256 row_in
  unfolding mail_numbers message_at
  mail_rows =
      fold_same ◌++◌ [] 256 (λ k. row n.used k (get_or n.slots (suc k - 1) no_slot).message) row_in
      (λ k l. let e : suc k - 1 ≡ k = omega arith in rw e refl)

  pub length_mail : length (mail_numbers n) ≡ 512
  length_mail = rw mail_rows (length_rows 256 row_in (λ k. row_two n.used k (letter_in k)))

  pub mail_below : ((k : ℕ) → k < n.used → k < 256 → LetterFits (letter_in k)) → AllBelow top64 (mail_numbers n)
  mail_below f = rw mail_rows (joined_below top64 (omega arith) 256 row_in (λ k l. row_below n.used k (letter_in k) (λ q. f k q l)))

  -- the two numbers of a slot
  module _ (x : List ℕ) (same : x ≡ mail_numbers n) (k : ℕ) (l : k < 256) where
    slot_held : Held x (2 * k) (row_in k)
    slot_held =
        rw (zero-add (2 * k))
        at (held_rows x 0 256 row_in k (λ i. row_two n.used i (letter_in i)) (rw (← mail_rows, ← same) (held_all x)) l)

    pub slot_first : get_or x (2 * k) 0 ≡ get_or (row_in k) 0 0
    slot_first = let e : 2 * k + 0 ≡ 2 * k = omega arith in rw e at (slot_held 0 (omega (arith, row_two n.used k (letter_in k))))

    pub slot_second : get_or x (2 * k + 1) 0 ≡ get_or (row_in k) 1 0
    slot_second = slot_held 1 (omega (arith, row_two n.used k (letter_in k)))

    pub slot_row : get_or x (2 * k) 0 ∷ get_or x (2 * k + 1) 0 ∷ [] ≡ row_in k
    slot_row = rw (slot_first, slot_second) (sym (list_of_two (row_in k) (row_two n.used k (letter_in k))))

    -- the letter that they hold
    pub slot_letter : MailFits n → slot (letter_of (get_or x (2 * k) 0) (get_or x (2 * k + 1) 0)) ≡ get_or n.slots k no_slot
    slot_letter f =
        rw (slot_first, slot_second)
        (by_cases
        (dec_lt k n.used)
        (λ q. rw (lt-ltb k n.used q) (ap slot (letter_again (letter_in k) (f.letters k q l))))
        (λ q. rw (le-ltb k n.used (omega arith), f.unused k (omega arith) l) (unfold letter_of in refl)))

-- the numbers of the mail in an image, one by one
abbrev pub mail_in : List ℕ → List ℕ
mail_in b = numbers_at 8 512 b 30024

module _ (b : List ℕ) where
  abbrev first : ℕ → ℕ
  first k = number_at 8 b (30024 + 16 * k)

  abbrev second : ℕ → ℕ
  second k = number_at 8 b (30032 + 16 * k)

  pub first_in : (k : ℕ) → k < 256 → get_or (mail_in b) (2 * k) 0 ≡ first k
  unfolding numbers_at
  first_in k l =
      let e : 30024 + 8 * (2 * k) ≡ 30024 + 16 * k = omega arith in
      get_d_table 512 (λ j. number_at 8 b (30024 + 8 * j)) (2 * k) 0 (omega arith) ∙ ap (number_at 8 b) e

  pub second_in : (k : ℕ) → k < 256 → get_or (mail_in b) (2 * k + 1) 0 ≡ second k
  unfolding numbers_at
  second_in k l =
      let e : 30024 + 8 * (2 * k + 1) ≡ 30032 + 16 * k = omega arith in
      get_d_table 512 (λ j. number_at 8 b (30024 + 8 * j)) (2 * k + 1) 0 (omega arith) ∙ ap (number_at 8 b) e

  -- the mail that it holds is the mail whose numbers they are
  pub mail_held : (n : Network) → MailFits n → mail_in b ≡ mail_numbers n → number_at 4 b 8 ≡ n.used → network_in b ≡ n
  unfolding network_in
  mail_held n f same u =
      let s : table 256 (λ k. slot (letter_of (first k) (second k))) ≡ n.slots =
      whole n.slots no_slot 256 f.long (λ k. slot (letter_of (first k) (second k)))
      (λ k l. rw (← first_in k l, ← second_in k l) (slot_letter n (mail_in b) same k l f)) in
      rw (s, u) refl

  -- the mail of an image, as numbers again
  abbrev letter : ℕ → Message
  letter k = letter_of (first k) (second k)

  pub letter_in_lem : (k : ℕ) → k < 256 → letter_in (network_in b) k ≡ letter k
  unfolding network_in
  letter_in_lem k l = ap (λ (s : Slot). s.message) (get_d_table 256 (λ k. slot (letter_of (first k) (second k))) k no_slot l)

  used_in : (network_in b).used ≡ number_at 4 b 8
  unfolding network_in
  used_in = refl

  row_in_lem : (k : ℕ) → k < 256 → row_in (network_in b) k ≡ row (number_at 4 b 8) k (letter k)
  row_in_lem k l = rw (letter_in_lem k l, used_in) refl

  pub again_fits : AllBelow top64 (mail_numbers (network_in b))
  again_fits = mail_below (network_in b) (λ k q l. rw (letter_in_lem k l) (letter_fits (first k) (second k)))

  pub tidy_mail : mail_tidy b ≡ true → mail_numbers (network_in b) ≡ mail_in b
  unfolding mail_tidy
  tidy_mail h =
      mail_rows (network_in b)
      ∙ rows_piece (mail_in b) 0 256 (row_in (network_in b))
      (λ k l.
      let t = same_bytes_true _ _ (below_at (λ k. slot_tidy (number_at 4 b 8) k (first k) (second k)) 256 k l h) in
      row_in_lem k l ∙ t
      ∙ rw (zero-add (2 * k), ← first_in k l, ← second_in k l) (two (mail_in b) (2 * k) (omega (arith, length_numbers_at 8 512 b 30024))))
      ∙ piece_all (mail_in b) 512 (length_numbers_at 8 512 b 30024)

  pub mail_tidy_lem : mail_numbers (network_in b) ≡ mail_in b → mail_tidy b ≡ true
  unfolding mail_tidy
  mail_tidy_lem e =
      below_all _ 256
      (λ k l.
      let t : row (number_at 4 b 8) k (letter k) ≡ first k ∷ second k ∷ [] =
      sym (row_in_lem k l) ∙ sym (slot_row (network_in b) (mail_in b) (sym e) k l) ∙ rw (first_in k l, second_in k l) refl in
      rw t (same_bytes_refl (first k ∷ second k ∷ [])))
