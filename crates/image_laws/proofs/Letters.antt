-- A letter as two numbers: read again, it is the letter; and what is read from two numbers fits its fields.
use mathlib.Core.Path.{◌≡◌, refl, ◌∙◌, ap}
use mathlib.Core.List.{[], ◌∷◌}
use Prim.Native.Nat.{ℕ, ◌+◌, ◌*◌, ◌/◌, ◌%◌, ◌<◌}
use native.Mathlib.Omega.{arith}
use lib.Dec.{eqb}
use lib.ListN.{length, get_or}
use Rattle.base.specs.Choice.{pick}
use Rattle.base.proofs.Choices.{pick_either}
use Rattle.plan.specs.declared.Word.{Word}
use Rattle.plan.specs.Numbers.{channel_id}
use Rattle.rules.specs.declared.message.Message.{Message}
use Rattle.rules.specs.declared.message.Message.TheVariants.{Empty, Offered, Advert, ReadyToReceive, Data, Terminated, Migration}
use Rattle.rules.specs.Numbers.{task_id, processor_id}
use Rattle.rules.specs.Cells.{hint, offer}
use Rattle.board.specs.packing.Packed.{byte2, byte3, byte4, word_of, word_number}
use Rattle.image.specs.Letters.{letter_word, letter_numbers, byte1, high16, letter_of}
use Rattle.image_laws.specs.Held.{top64, AllBelow, WordFits, LetterFits}
use Rattle.image_laws.proofs.Pieces.{none_below, cons_below}

-- words
pub word_again : (w : Word) → WordFits w → word_of (word_number w) ≡ w
unfolding word_of
word_again w n = rw (p0, p1, p2, p3) refl
  where
    p0 : word_number w % 65536 ≡ w.0
    p0 = omega (arith, n)

    p1 : word_number w / 65536 % 65536 ≡ w.1
    p1 = omega (arith, n)

    p2 : word_number w / 4294967296 % 65536 ≡ w.2
    p2 = omega (arith, n)

    p3 : word_number w / 281474976710656 % 65536 ≡ w.3
    p3 = omega (arith, n)

pub word_below : (w : Word) → WordFits w → word_number w < top64
word_below w n = omega (arith, n)

pub word_fits_lem : (v : ℕ) → WordFits (word_of v)
unfolding word_of
word_fits_lem v = (omega arith, omega arith, omega arith, omega arith)

put_together_lem : (v a c d r s t u : ℕ) → v ≡ r + 65536 * a → a ≡ s + 65536 * c → c ≡ t + 65536 * d → u ≡ d
    → r + 65536 * s + 4294967296 * t + 281474976710656 * u ≡ v
put_together_lem v a c d r s t u p q n o = omega arith

pub number_again : (v : ℕ) → v < top64 → word_number (word_of v) ≡ v
unfolding word_of
number_again v l =
    put_together_lem v (v / 65536) (v / 4294967296) (v / 281474976710656) (v % 65536) (v / 65536 % 65536) (v / 4294967296 % 65536) (v / 281474976710656 % 65536)
    (omega arith) (omega arith) (omega arith) (omega arith)

-- the letter of its fields
letter_by : ℕ → ℕ → ℕ → ℕ → ℕ → ℕ → ℕ → Message
letter_by kind number to second offered moves w =
    pick (eqb kind 1) (Offered (channel_id number) (offer (processor_id second) offered) (hint (processor_id to) moves))
    (pick (eqb kind 2) (Advert (channel_id number) (processor_id to) (processor_id second))
    (pick (eqb kind 3) (ReadyToReceive (channel_id number) (processor_id to) (hint (processor_id second) moves))
    (pick (eqb kind 4) (Data (channel_id number) (processor_id to) (word_of w))
    (pick (eqb kind 5) (Terminated (hint (processor_id to) moves) (task_id number))
    (pick (eqb kind 6) (Migration (processor_id to) (task_id number))
    Empty)))))

letter_by_lem : (v w : ℕ) → letter_of v w ≡ letter_by (v % 256) (byte1 v) (byte2 v) (byte3 v) (byte4 v) (high16 v) w
unfolding letter_of letter_by
letter_by_lem v w = refl

-- fields that are put together, and taken apart
module _ (kind number to second offered moves : ℕ) (k : kind < 256) (n : number < 256) (t : to < 256) (s : second < 256) (o : offered < 256) (m : moves < 65536) where
  abbrev v : ℕ
  v = letter_word kind number to second offered moves

  kind_of_lem : v % 256 ≡ kind
  kind_of_lem = omega arith

  number_of : byte1 v ≡ number
  number_of = omega arith

  to_of : byte2 v ≡ to
  to_of = omega arith

  second_of : byte3 v ≡ second
  second_of = omega arith

  offered_of : byte4 v ≡ offered
  offered_of = omega arith

  moves_of : high16 v ≡ moves
  moves_of = omega arith

  fields : (w : ℕ) → letter_of v w ≡ letter_by kind number to second offered moves w
  fields w = letter_by_lem v w ∙ (λ i. letter_by (kind_of_lem i) (number_of i) (to_of i) (second_of i) (offered_of i) (moves_of i) w)

  letter_below : v < top64
  letter_below = omega arith

-- the numbers of a letter
pub letter_two : (m : Message) → length (letter_numbers m) ≡ 2
unfolding letter_numbers
letter_two Empty = refl
letter_two (Offered c o h) = refl
letter_two (Advert c d from) = refl
letter_two (ReadyToReceive c d h) = refl
letter_two (Data c d w) = refl
letter_two (Terminated h t) = refl
letter_two (Migration d t) = refl

pub letter_again : (m : Message) → LetterFits m → letter_of (get_or (letter_numbers m) 0 0) (get_or (letter_numbers m) 1 0) ≡ m
unfolding letter_numbers letter_by
letter_again Empty f = letter_by_lem 0 0
letter_again (Offered c o h) f = fields 1 c.0 h.processor.0 o.processor.0 o.number h.moves (omega arith) f.0 f.2.0 f.1.0 f.1.1 f.2.1 0
letter_again (Advert c d from) f = fields 2 c.0 d.0 from.0 0 0 (omega arith) f.0 f.1 f.2 (omega arith) (omega arith) 0
letter_again (ReadyToReceive c d h) f = fields 3 c.0 d.0 h.processor.0 0 h.moves (omega arith) f.0 f.1 f.2.0 (omega arith) f.2.1 0
letter_again (Data c d w) f =
    fields 4 c.0 d.0 0 0 0 (omega arith) f.0 f.1 (omega arith) (omega arith) (omega arith) (word_number w)
    ∙ ap (λ (x : Word). Data c d x) (word_again w f.2)
letter_again (Terminated h t) f = fields 5 t.0 h.processor.0 0 0 h.moves (omega arith) f.1 f.0.0 (omega arith) (omega arith) f.0.1 0
letter_again (Migration d t) f = fields 6 t.0 d.0 0 0 0 (omega arith) f.1 f.0 (omega arith) (omega arith) (omega arith) 0

-- two numbers of 64 bits
two_below : (x y : ℕ) → x < top64 → y < top64 → AllBelow top64 (x ∷ y ∷ [])
two_below x y p q = cons_below top64 (omega arith) x (y ∷ []) p (cons_below top64 (omega arith) y [] q (none_below top64 (omega arith)))

pub zeros_below : AllBelow top64 (0 ∷ 0 ∷ [])
zeros_below = two_below 0 0 (omega arith) (omega arith)

pub letter_numbers_below : (m : Message) → LetterFits m → AllBelow top64 (letter_numbers m)
unfolding letter_numbers
letter_numbers_below Empty f = zeros_below
letter_numbers_below (Offered c o h) f =
    two_below _ 0 (letter_below 1 c.0 h.processor.0 o.processor.0 o.number h.moves (omega arith) f.0 f.2.0 f.1.0 f.1.1 f.2.1) (omega arith)
letter_numbers_below (Advert c d from) f =
    two_below _ 0 (letter_below 2 c.0 d.0 from.0 0 0 (omega arith) f.0 f.1 f.2 (omega arith) (omega arith)) (omega arith)
letter_numbers_below (ReadyToReceive c d h) f =
    two_below _ 0 (letter_below 3 c.0 d.0 h.processor.0 0 h.moves (omega arith) f.0 f.1 f.2.0 (omega arith) f.2.1) (omega arith)
letter_numbers_below (Data c d w) f =
    two_below _ (word_number w) (letter_below 4 c.0 d.0 0 0 0 (omega arith) f.0 f.1 (omega arith) (omega arith) (omega arith)) (word_below w f.2)
letter_numbers_below (Terminated h t) f =
    two_below _ 0 (letter_below 5 t.0 h.processor.0 0 0 h.moves (omega arith) f.1 f.0.0 (omega arith) (omega arith) f.0.1) (omega arith)
letter_numbers_below (Migration d t) f =
    two_below _ 0 (letter_below 6 t.0 d.0 0 0 0 (omega arith) f.1 f.0 (omega arith) (omega arith) (omega arith)) (omega arith)

-- what is read from two numbers
pub letter_fits : (v w : ℕ) → LetterFits (letter_of v w)
letter_fits v w =
    rw (letter_by_lem v w)
    (unfold letter_by in
    pick_either LetterFits (eqb (v % 256) 1) _ _ (omega arith, (omega arith, omega arith), (omega arith, omega arith))
    (pick_either LetterFits (eqb (v % 256) 2) _ _ (omega arith, omega arith, omega arith)
    (pick_either LetterFits (eqb (v % 256) 3) _ _ (omega arith, omega arith, (omega arith, omega arith))
    (pick_either LetterFits (eqb (v % 256) 4) _ _ (omega arith, omega arith, word_fits_lem w)
    (pick_either LetterFits (eqb (v % 256) 5) _ _ ((omega arith, omega arith), omega arith)
    (pick_either LetterFits (eqb (v % 256) 6) _ _ (omega arith, omega arith)
    (omega arith)))))))
