-- The bytes of a mail without a letter.
use mathlib.Core.Path.{◌≡◌, sym, ap, ◌∙◌}
use mathlib.Core.List.{List, [], ◌∷◌, ◌++◌, append_assoc}
use Prim.Native.Nat.{ℕ, ◌+◌, ◌*◌, ◌-◌, ◌≤◌}
use native.Mathlib.Omega.{arith}
use lib.ListN.{length, take, drop, length-drop, replicate, replicate-append-replicate}
use lib.Seq.{length-take-le}
use borrow.Author.Tests.{ne_eqb}
use Rattle.rules.specs.declared.message.Message.{Message}
use Rattle.rules.specs.declared.message.Network.{Network}
use Rattle.rules.specs.Networks.{messages, message_at, dequeued}
use Rattle.rules_laws.proofs.Messages.{length_messages, dequeued_used, messages_split, dequeued_size, messages_dequeued}
use Rattle.plan_write.specs.output.Output.{overlay}
use Rattle.rig_write.specs.Mail.{mail_bytes, letters_bytes, MailIn, TakenFrom}
use Rattle.rig_write.proofs.MailBytes.{letters_append, letters_long, mail_letters}
use Rattle.rig_write.proofs.Shift.{shifted, cut_out}

-- the letter at position p, of those in the mail
module _ (k : Network) (full : length k.slots ≡ 256) (few : k.used ≤ 256) (p : ℕ) (some : 1 ≤ p) (there : p ≤ k.used) where
  abbrev a : List Message
  a = take (p - 1) (messages k)

  abbrev d : List Message
  d = drop p (messages k)

  abbrev z : List ℕ
  z = replicate (4096 - 16 * k.used) 0

  abbrev own : List ℕ
  own = letters_bytes (message_at k p ∷ [])

  before : mail_bytes k ≡ letters_bytes a ++ (own ++ (letters_bytes d ++ z))
  before =
      mail_letters k full few
      ∙ ap (λ (l : List ℕ). l ++ z)
      (ap letters_bytes (messages_split k p some there (omega arith))
      ∙ letters_append a (message_at k p ∷ d)
      ∙ ap (λ (l : List ℕ). letters_bytes a ++ l) (letters_append (message_at k p ∷ []) d))
      ∙ append_assoc (letters_bytes a) (own ++ letters_bytes d) z
      ∙ ap (λ (l : List ℕ). letters_bytes a ++ l) (append_assoc own (letters_bytes d) z)

  after : mail_bytes (dequeued k p) ≡ letters_bytes a ++ (letters_bytes d ++ (replicate 16 0 ++ z))
  after =
      let u = dequeued_used k p in
      let e : 4096 - 16 * (dequeued k p).used ≡ 16 + (4096 - 16 * k.used) = omega arith in
      mail_letters (dequeued k p) (dequeued_size k p some there (omega arith) ∙ full) (omega arith)
      ∙ rw (messages_dequeued k p some there (omega arith), e, letters_append a d, ← replicate-append-replicate {A = ℕ} 16 (4096 - 16 * k.used) 0)
      (append_assoc (letters_bytes a) (letters_bytes d) (replicate 16 0 ++ z))

  front_long : length (letters_bytes a) ≡ 16 * (p - 1)
  front_long = letters_long a ∙ ap (λ (i : ℕ). 16 * i) (length-take-le (p - 1) (messages k) (omega (arith, length_messages k (omega arith))))

  back_long : length (letters_bytes d) ≡ 16 * (k.used - p)
  back_long =
      letters_long d ∙ ap (λ (i : ℕ). 16 * i) (length-drop p (messages k) ∙ ap (λ (i : ℕ). i - p) (length_messages k (omega arith)))

  cut_mail : overlay (shifted (mail_bytes k) (16 * (p - 1)) 16 (16 * (k.used - p))) (16 * (p - 1) + 16 * (k.used - p)) (replicate 16 0) ≡ mail_bytes (dequeued k p)
  cut_mail =
      rw before
      (cut_out (letters_bytes a) own (letters_bytes d) z (16 * (p - 1)) 16 (16 * (k.used - p)) front_long (letters_long (message_at k p ∷ [])) back_long
      ∙ sym after)

  pub cut_in : MailIn (overlay (shifted (mail_bytes k) (16 * (p - 1)) 16 (16 * (k.used - p))) (16 * (p - 1) + 16 * (k.used - p)) (replicate 16 0)) (dequeued k p)
  cut_in =
      record {
        bytes = cut_mail;
        slots = dequeued_size k p some there (omega arith) ∙ full;
        few = omega (arith, dequeued_used k p);
      }

-- none is taken
pub none_taken : (b : List ℕ) (p used : ℕ) → p ≡ 0 → TakenFrom b p used used b
none_taken b p used h k m u = rw h (sym u, m)

-- each byte behind the letter moved down, and zeros are in the last slot
pub letter_taken : (b now after : List ℕ) (p used : ℕ) → 1 ≤ p → p ≤ used → now ≡ shifted b (16 * (p - 1)) 16 (16 * (used - p))
    → after ≡ overlay now (16 * (p - 1) + 16 * (used - p)) (replicate 16 0) → TakenFrom b p used (used - 1) after
letter_taken b now after p used some there e q k m u =
    rw (ne_eqb p 0 (λ (z : p ≡ 0). omega arith))
    (rw (← u) (sym (dequeued_used k p)), rw (q, e, ← u, m.bytes) (cut_in k m.slots m.few p some (omega arith)))
