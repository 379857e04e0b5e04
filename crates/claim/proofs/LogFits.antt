-- Every number of a log of a run is a byte, since every word of a run has levels of 16 bits.
use mathlib.Core.Path.{◌≡◌, refl, sym, ◌∙◌}
use mathlib.Core.Bool.{Bool, true}
use mathlib.Core.List.{List, [], ◌∷◌, ◌++◌, map}
use Prim.Native.Nat.{ℕ, zero, suc, ◌/◌, ◌%◌, ◌<◌}
use native.Mathlib.Omega.{arith}
use lib.ListN.{take}
use borrow.Author.Tests.{lt-ltb}
use Rattle.std.specs.Prelude.{None, Some}
use Rattle.base.specs.Choice.{pick, within}
use Rattle.base.specs.Lists.{every}
use Rattle.base.proofs.Choices.{pick_either}
use Rattle.base.proofs.Tests.{and_left, and_right, and_both, every_append, within_high}
use Rattle.plan.specs.declared.ChannelId.{ChannelId}
use Rattle.plan.specs.declared.Word.{Word as WordOf}
use Rattle.plan.specs.Numbers.{same_channel}
use Rattle.rules.specs.declared.message.Message.{Message}
use Rattle.rules.specs.declared.message.Message.TheVariants.{Empty, Offered, Advert, ReadyToReceive, Data, Terminated, Migration}
use Rattle.rules.specs.declared.message.Slot.{Slot}
use Rattle.rules.specs.Reports.{Received}
use Rattle.rules.specs.declared.system.System.{System}
use Rattle.rules.specs.Networks.{messages}
use Rattle.rules.specs.Steps.{word_on}
use Rattle.rules.specs.Logs.{letter_word, words_on, under_way_on, log_record, log_of}
use Rattle.rules_sound.specs.Words.{message_good, slot_good, GoodSystem}
use Rattle.rules_sound.proofs.Words.Fits.{word_fits, fits}
use Rattle.claim.specs.Logs.{is_byte}
use Rattle.claim.proofs.LogBytes.{channel_there}
use Rattle.claim.proofs.PassingWords.{word_here}

-- the words of the letters in the mail
module _ (good : WordOf → Bool) (c : ChannelId) where
  picked_good : (b : Bool) (w : WordOf) → good w ≡ true → every good (pick b (w ∷ []) []) ≡ true
  unfolding every
  picked_good b w h = pick_either (λ ws. every good ws ≡ true) b (w ∷ []) [] (rw h refl) refl

  letter_good : (m : Message) → message_good good m ≡ true → every good (word_on c (letter_word m)) ≡ true
  unfolding message_good letter_word word_on every
  letter_good Empty h = refl
  letter_good (Offered e o p) h = refl
  letter_good (Advert e d from) h = refl
  letter_good (ReadyToReceive e d p) h = refl
  letter_good (Data e d w) h = picked_good (same_channel e c) w h
  letter_good (Terminated p t) h = refl
  letter_good (Migration d t) h = refl

  slots_good : (k : ℕ) (ss : List Slot) → every (slot_good good) ss ≡ true → every good (under_way_on c (map (λ s. s.message) (take k ss))) ≡ true
  unfolding every words_on
  slots_good zero ss h = refl
  slots_good (suc k) [] h = refl
  slots_good (suc k) (s ∷ ss) h =
      every_append good (word_on c (letter_word s.message)) (under_way_on c (map (λ s. s.message) (take k ss)))
      ∙ and_both _ _ (letter_good s.message (and_left (slot_good good s) _ h)) (slots_good k ss (and_right (slot_good good s) _ h))

  pub under_way_good : (r : System) → GoodSystem good r → every good (under_way_on c (messages r.network)) ≡ true
  unfolding messages
  under_way_good r h = slots_good r.network.used r.network.slots h.slots

-- a number of 16 bits in two bytes
low_byte : (n : ℕ) → is_byte (n % 256) ≡ true
low_byte n = lt-ltb (n % 256) 256 (omega arith)

high_byte : (n : ℕ) → n < 65536 → is_byte (n / 256) ≡ true
high_byte n l = lt-ltb (n / 256) 256 (omega arith)

record_bytes : (c : ChannelId) (w : WordOf) → within 1 128 c.0 ≡ true → word_fits w ≡ true → every is_byte (log_record (Some (c, w))) ≡ true
unfolding log_record every
record_bytes c w there h =
    let f = fits w h in
    rw (low_byte c.0, high_byte c.0 (omega (arith, within_high 1 128 c.0 there)), low_byte w.0, high_byte w.0 f.first, low_byte w.1, high_byte w.1 f.second, low_byte w.2, high_byte w.2 f.third, low_byte w.3, high_byte w.3 f.last) refl

-- a log of words that fit
pub log_bytes : (xs : List Received) → every channel_there xs ≡ true → ((c : ChannelId) → every word_fits (words_on c xs) ≡ true) → every is_byte (log_of xs) ≡ true
unfolding log_of every channel_there words_on
log_bytes [] there all = refl
log_bytes (None ∷ xs) there all = nothing (log_bytes xs there (λ c. none c (all c)))
  where
    none : (c : ChannelId) → every word_fits (word_on c None ++ words_on c xs) ≡ true → every word_fits (words_on c xs) ≡ true
    none c e = unfold word_on in e

    nothing : every is_byte (log_of xs) ≡ true → every is_byte (log_record None ++ log_of xs) ≡ true
    nothing e = unfold log_record in e
log_bytes (Some (e, w) ∷ xs) there all =
    every_append is_byte (log_record (Some (e, w))) (log_of xs)
    ∙ and_both _ _ (record_bytes e w (and_left (within 1 128 e.0) _ there) (first (all e)))
    (log_bytes xs (and_right (within 1 128 e.0) _ there) (λ c. and_right (every word_fits (word_on c (Some (e, w)))) _ (sym (every_append word_fits (word_on c (Some (e, w))) (words_on c xs)) ∙ all c)))
  where
    first : every word_fits (word_on e (Some (e, w)) ++ words_on e xs) ≡ true → word_fits w ≡ true
    first h =
        let q : every word_fits (w ∷ words_on e xs) ≡ true = rw (word_here e e w refl) at h in
        and_left (word_fits w) _ q
