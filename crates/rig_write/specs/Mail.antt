-- The mail of a rig as bytes: what they hold when a letter is taken out of them, and when letters are put behind the last one.
use Rattle.std.specs.Prelude.{◌≡◌, List, [], ◌∷◌, ◌++◌, ℕ, ◌≤◌, length}
use Rattle.rules.specs.declared.message.Message.{Message}
use Rattle.rules.specs.declared.message.Network.{Network}
use Rattle.rules.specs.declared.rule.Posting.{Posting}
use Rattle.rules.specs.Networks.{posted}
use Rattle.network.specs.Positions.{mail_less}
use Rattle.image.specs.Numbers.{numbers_bytes}
use Rattle.image.specs.Letters.{letter_numbers, mail_numbers}

-- the bytes of a mail, and of letters one behind the other
abbrev pub mail_bytes : Network → List ℕ
mail_bytes k = numbers_bytes 8 (mail_numbers k)

unfoldable pub letters_bytes : List Message → List ℕ
letters_bytes [] = []
letters_bytes (m ∷ ms) = numbers_bytes 8 (letter_numbers m) ++ letters_bytes ms

-- the bytes b are those of the mail k of 256 slots
pub record MailIn (b : List ℕ) (k : Network) : Type 0 where
  pub bytes : b ≡ mail_bytes k
  pub slots : length k.slots ≡ 256
  pub few : k.used ≤ 256

-- b' are the bytes of the mail without that letter, whatever mail of so many letters the bytes b are; r letters are left
abbrev pub TakenFrom : List ℕ → ℕ → ℕ → ℕ → List ℕ → Type 0
TakenFrom b p used r b' = (k : Network) → MailIn b k → k.used ≡ used → (r ≡ (mail_less k p).used) × MailIn b' (mail_less k p)

-- the same of the mail with what is posted in a rig of n desks
abbrev pub PostedInto : List ℕ → ℕ → ℕ → Posting → ℕ → List ℕ → Type 0
PostedInto b used n x r b' = (k : Network) → MailIn b k → k.used ≡ used → (r ≡ (posted n x k).used) × MailIn b' (posted n x k)
