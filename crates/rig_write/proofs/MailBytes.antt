-- The bytes of a mail are those of its letters, one behind the other, and zeros.
use mathlib.Core.Path.{◌≡◌, refl, sym, ap, ◌∙◌}
use mathlib.Core.List.{List, [], ◌∷◌, ◌++◌, append_assoc, append-nil}
use Prim.Native.Nat.{ℕ, zero, suc, ◌*◌, ◌-◌, ◌≤◌}
use native.Mathlib.Omega.{arith}
use lib.ListN.{length, get_or, take, length-append, replicate}
use lib.Seq.{take-suc, take_all}
use borrow.Author.Tests.{lt-ltb}
use Rattle.base.specs.Range.{fold, joined}
use Rattle.rules.specs.declared.message.Message.{Message}
use Rattle.rules.specs.declared.message.Message.TheVariants.{Empty}
use Rattle.rules.specs.declared.message.Network.{Network}
use Rattle.rules.specs.Networks.{messages, message_at}
use Rattle.rules_laws.proofs.Messages.{length_messages, message_at_messages}
use Rattle.image.specs.Numbers.{numbers_bytes}
use Rattle.image.specs.Letters.{letter_numbers}
use Rattle.image_laws.proofs.Numbers.{length_numbers, numbers_append}
use Rattle.rig_write.specs.Sections.{slot_at}
use Rattle.rig_write.specs.Mail.{mail_bytes, letters_bytes}
use Rattle.rig_write.proofs.MailNumbers.{two_numbers, mail_rest}

pub letters_append : (xs ys : List Message) → letters_bytes (xs ++ ys) ≡ letters_bytes xs ++ letters_bytes ys
unfolding letters_bytes
letters_append [] ys = refl
letters_append (x ∷ xs) ys =
    rw (letters_append xs ys) (sym (append_assoc (numbers_bytes 8 (letter_numbers x)) (letters_bytes xs) (letters_bytes ys)))

pub letters_none : letters_bytes [] ≡ []
unfolding letters_bytes
letters_none = refl

pub letters_one : (m : Message) → letters_bytes (m ∷ []) ≡ numbers_bytes 8 (letter_numbers m)
unfolding letters_bytes
letters_one m = append-nil (numbers_bytes 8 (letter_numbers m))

-- 16 bytes a letter
pub letters_long : (ms : List Message) → length (letters_bytes ms) ≡ 16 * length ms
unfolding letters_bytes
letters_long [] = refl
letters_long (m ∷ ms) =
    let one : length (numbers_bytes 8 (letter_numbers m)) ≡ 16 = length_numbers 8 (letter_numbers m) ∙ ap (λ (l : List ℕ). 8 * length l) (two_numbers m) in
    length-append (numbers_bytes 8 (letter_numbers m)) (letters_bytes ms) ∙ omega (arith, one, letters_long ms)

-- the first m slots
slots_letters : (n : Network) (m : ℕ) → m ≤ n.used → n.used ≤ length n.slots → numbers_bytes 8 (joined m (slot_at n)) ≡ letters_bytes (take m (messages n))
unfolding fold
slots_letters n zero h room = unfold numbers_bytes letters_bytes in refl
slots_letters n (suc m) h room =
    let e : suc m - 1 ≡ m = omega arith in
    let letter : message_at n (suc m) ≡ get_or (messages n) m Empty =
    message_at_messages n (suc m) (omega arith) (omega arith) ∙ ap (λ (i : ℕ). get_or (messages n) i Empty) e in
    let last : slot_at n m ≡ letter_numbers (get_or (messages n) m Empty) = rw (lt-ltb m n.used (omega arith)) (ap letter_numbers letter) in
    let more : take (suc m) (messages n) ≡ take m (messages n) ++ (get_or (messages n) m Empty ∷ []) =
    take-suc (messages n) m Empty (omega (arith, length_messages n room)) in
    numbers_append 8 (joined m (slot_at n)) (slot_at n m)
    ∙ rw (slots_letters n m (omega arith) room, last, more, letters_append (take m (messages n)) (get_or (messages n) m Empty ∷ []), letters_one (get_or (messages n) m Empty)) refl

pub mail_letters : (k : Network) → length k.slots ≡ 256 → k.used ≤ 256 → mail_bytes k ≡ letters_bytes (messages k) ++ replicate (4096 - 16 * k.used) 0
mail_letters k full few =
    let all : take k.used (messages k) ≡ messages k = take_all k.used (messages k) (omega (arith, length_messages k (omega arith))) in
    mail_rest k k.used few (λ l. refl)
    ∙ ap (λ (l : List ℕ). l ++ replicate (4096 - 16 * k.used) 0) (slots_letters k k.used (omega arith) (omega arith) ∙ ap letters_bytes all)
