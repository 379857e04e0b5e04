-- A mail whose numbers fit keeps that when a letter leaves and when letters that fit join; and the mail of an image as bytes.
use mathlib.Core.Path.{◌≡◌, sym, ◌∙◌, ap}
use mathlib.Core.Bool.{true}
use mathlib.Core.List.{List, [], ◌∷◌, ◌++◌}
use mathlib.Core.Logic.{by_cases}
use Prim.Native.Nat.{ℕ, zero, suc, ◌+◌, ◌-◌, ◌*◌, ◌<◌, ◌≤◌}
use native.Mathlib.Omega.{arith}
use native.Mathlib.Decide.{dec_lt, ℕ_discrete}
use lib.Dec.{eqb}
use lib.ListN.{length, get_or, take, drop, length-take, length-drop, get_or-append}
use lib.Seq.{get_or-append-add, get_or-set_same, get_or-set_other, get_or-take, get_or-drop, take_all}
use Rattle.base.specs.Choice.{pick}
use Rattle.base.specs.Range.{fold, joined}
use Rattle.base.proofs.Choices.{pick_either}
use Rattle.rules.specs.declared.message.Message.{Message}
use Rattle.rules.specs.declared.message.Message.TheVariants.{Empty, Advert}
use Rattle.rules.specs.declared.message.Slot.{Slot}
use Rattle.rules.specs.declared.message.Network.{Network}
use Rattle.rules.specs.declared.rule.Posting.{Posting}
use Rattle.rules.specs.declared.rule.Posting.TheVariants.{Nothing, Single, Adverts}
use Rattle.rules.specs.Numbers.{processor_id}
use Rattle.rules.specs.Networks.{slot, no_slot, message_at, enqueued, enqueued_all, dequeued, messages_of}
use Rattle.rules_laws.proofs.Messages.{enqueued_used, dequeued_used}
use Rattle.image.specs.Numbers.{number_at, numbers_bytes}
use Rattle.image.specs.Letters.{letter_of, mail_numbers}
use Rattle.image.specs.Image.{image, network_in, rig_of, is_image}
use Rattle.image_laws.specs.Held.{LetterFits, PostingFits, MailFits}
use Rattle.image_laws.proofs.Same.{same_bytes_true}
use Rattle.image_laws.proofs.Numbers.{held_piece}
use Rattle.image_laws.proofs.Mails.{letter_in_lem}
use Rattle.image_laws.proofs.Sections.{mail_on, length_image, length_mail_bytes, mail_bytes_held}
use Rattle.image_laws.proofs.Parts.{rig_sizes, rig_parts}
use Rattle.image_laws.proofs.Unused.{Tidy, enqueued_tidy, dequeued_tidy}

fits_tidy : (k : Network) → MailFits k → Tidy k
fits_tidy k f = record { long = f.long; unused = f.unused }

-- the letter at position p leaves
module _ (k : Network) (p : ℕ) (some : 1 ≤ p) (there : p ≤ k.used) (few : k.used ≤ 256) (f : MailFits k) where
  abbrev front : List Slot
  front = take (p - 1) k.slots

  abbrev after : List Slot
  after = drop p (take k.used k.slots)

  abbrev rest : List Slot
  rest = no_slot ∷ drop k.used k.slots

  front_long : length front ≡ p - 1
  front_long = omega (arith, length-take (p - 1) k.slots, f.long)

  after_long : length after ≡ k.used - p
  after_long = omega (arith, length-drop p (take k.used k.slots), length-take k.used k.slots, f.long)

  -- the letters before it stay, and those behind it move up
  slot_before : (i : ℕ) → i < p - 1 → get_or (dequeued k p).slots i no_slot ≡ get_or k.slots i no_slot
  unfolding dequeued
  slot_before i l = get_or-append front (after ++ rest) no_slot i (omega (arith, front_long)) ∙ get_or-take (p - 1) k.slots i no_slot l

  slot_behind : (j : ℕ) → j < k.used - p → get_or (dequeued k p).slots (p - 1 + j) no_slot ≡ get_or k.slots (p + j) no_slot
  unfolding dequeued
  slot_behind j l =
      ap (λ (n : ℕ). get_or (front ++ (after ++ rest)) (n + j) no_slot) (sym front_long)
      ∙ get_or-append-add front (after ++ rest) j no_slot
      ∙ get_or-append after rest no_slot j (omega (arith, after_long))
      ∙ get_or-drop p (take k.used k.slots) j no_slot
      ∙ get_or-take k.used k.slots (p + j) no_slot (omega arith)

  letter_kept : (i : ℕ) → i < k.used - 1 → i < 256 → LetterFits (get_or (dequeued k p).slots i no_slot).message
  letter_kept i u l =
      by_cases
      (dec_lt i (p - 1))
      (λ q. rw (slot_before i q) (f.letters i (omega arith) l))
      (λ q.
      let j = i - (p - 1) in
      let e : i ≡ p - 1 + j = omega arith in
      let s : get_or (dequeued k p).slots i no_slot ≡ get_or k.slots (p + j) no_slot =
      ap (λ (n : ℕ). get_or (dequeued k p).slots n no_slot) e ∙ slot_behind j (omega arith) in
      rw s (f.letters (p + j) (omega arith) (omega arith)))

  pub dequeued_fits : MailFits (dequeued k p)
  dequeued_fits =
      let t = dequeued_tidy k (fits_tidy k f) p some there few in
      let u = dequeued_used k p in
      record {
        long = t.long;
        used = omega (arith, f.used);
        letters = λ i q l. letter_kept i (omega arith) l;
        unused = t.unused;
      }

-- a letter joins
pub enqueued_fits : (k : Network) (m : Message) → k.used < 256 → LetterFits m → MailFits k → MailFits (enqueued k m)
enqueued_fits k m room h f =
    let t = enqueued_tidy k m (fits_tidy k f) in
    let u = enqueued_used k m in
    record {
      long = t.long;
      used = omega (arith, f.used);
      letters = λ i q l. letter i (omega arith) l;
      unused = t.unused;
    }
  where
    letter : (i : ℕ) → i < k.used + 1 → i < 256 → LetterFits (get_or (enqueued k m).slots i no_slot).message
    letter i q l =
        unfold enqueued in
        by_cases
        (ℕ_discrete i k.used)
        (λ (e : i ≡ k.used). rw (e, get_or-set_same k.slots k.used (slot m) no_slot (omega (arith, f.long))) h)
        (λ ne. rw (get_or-set_other k.slots k.used i (slot m) no_slot ne) (f.letters i (omega arith) l))

-- each letter of a list fits; what stands behind its end is no letter, which fits too
abbrev pub LettersFit : List Message → Type 0
LettersFit ms = (i : ℕ) → LetterFits (get_or ms i Empty)

pub enqueued_all_fits : (k : Network) (ms : List Message) → k.used + length ms ≤ 256 → LettersFit ms → MailFits k → MailFits (enqueued_all k ms)
unfolding enqueued_all
enqueued_all_fits k [] room h f = f
enqueued_all_fits k (m ∷ ms) room h f =
    enqueued_all_fits (enqueued k m) ms (omega (arith, enqueued_used k m)) (λ i. h (suc i)) (enqueued_fits k m (omega arith) (h 0) f)

no_letters : LettersFit []
no_letters i = omega arith

one_letter : (m : Message) → LetterFits m → LettersFit (m ∷ [])
one_letter m h zero = h
one_letter m h (suc i) = omega arith

letters_append : (xs ys : List Message) → LettersFit xs → LettersFit ys → LettersFit (xs ++ ys)
letters_append [] ys h q i = q i
letters_append (x ∷ xs) ys h q zero = h 0
letters_append (x ∷ xs) ys h q (suc i) = letters_append xs ys (λ j. h (suc j)) q i

letters_joined : (n : ℕ) (g : ℕ → List Message) → ((i : ℕ) → i < n → LettersFit (g i)) → LettersFit (joined n g)
unfolding fold
letters_joined zero g h = no_letters
letters_joined (suc n) g h = letters_append (joined n g) (g n) (letters_joined n g (λ i l. h i (omega arith))) (h n (omega arith))

-- the letters that a rule posts, in a rig of n desks
pub messages_fit : (n : ℕ) (x : Posting) → n ≤ 255 → PostingFits x → LettersFit (messages_of n x)
unfolding messages_of
messages_fit n Nothing few h = no_letters
messages_fit n (Single m) few h = one_letter m h
messages_fit n (Adverts c d) few h =
    letters_joined n (λ i. pick (eqb (suc i) d.0) [] (Advert c (processor_id (suc i)) d ∷ []))
    (λ i l.
    pick_either LettersFit (eqb (suc i) d.0) [] (Advert c (processor_id (suc i)) d ∷ []) no_letters
    (one_letter (Advert c (processor_id (suc i)) d) (h.0, omega arith, h.1)))

pub posted_fits : (n : ℕ) (x : Posting) (k : Network) → n ≤ 255 → PostingFits x → k.used + length (messages_of n x) ≤ 256 → MailFits k → MailFits (enqueued_all k (messages_of n x))
posted_fits n x k few h room f = enqueued_all_fits k (messages_of n x) room (messages_fit n x few h) f

-- the mail of an image
module _ (b : List ℕ) where
  mail_is : b ≡ image (rig_of b) → drop 30024 b ≡ mail_on (rig_of b)
  mail_is same =
      let s = rig_sizes b in
      let long : length b ≡ 34120 = ap length same ∙ length_image (rig_of b) s in
      let m = length_mail_bytes (rig_of b) s in
      sym (take_all (length (mail_on (rig_of b))) (drop 30024 b) (omega (arith, length-drop 30024 b)))
      ∙ held_piece (mail_on (rig_of b)) b 30024 (mail_bytes_held b (rig_of b) same s) (omega arith)

  pub image_mail : is_image b ≡ true → drop 30024 b ≡ numbers_bytes 8 (mail_numbers (network_in b))
  unfolding is_image
  image_mail h = mail_is (same_bytes_true b (image (rig_of b)) h) ∙ ap mail_on (rig_parts b)

  -- the letter at position p
  pub mail_letter : (p : ℕ) → 1 ≤ p → p ≤ 256 → message_at (network_in b) p ≡ letter_of (number_at 8 b (30024 + 16 * (p - 1))) (number_at 8 b (30032 + 16 * (p - 1)))
  unfolding message_at
  mail_letter p some few = letter_in_lem b (p - 1) (omega arith)
