-- A letter as two numbers of 64 bits, 16 bytes: its kind, its channel or task, the desk that it goes to, a second desk, the number of an
-- offer, a zero byte, and a move count of 16 bits; then the four levels of a word. What a kind does not have is 0.
--
--   1 offer letter: channel, the pointer's desk, the offer's desk, the offer's number, the pointer's count
--   2 advert: channel, where to, the sender's desk
--   3 call: channel, where to, the receiver's desk, its move count
--   4 word letter: channel, where to, the word
--   5 ended letter: the child, the pointer's desk, the pointer's count
--   6 mover letter: task, where to
--   0 no letter
use Rattle.std.specs.Prelude.{List, [], ◌∷◌, ℕ, suc, ◌+◌, ◌*◌, ◌/◌, ◌%◌, eqb, ltb}
use Rattle.base.specs.Choice.{pick}
use Rattle.base.specs.Range.{joined}
use Rattle.plan.specs.Numbers.{channel_id}
use Rattle.rules.specs.declared.message.Message.{Message}
use Rattle.rules.specs.declared.message.Message.TheVariants.{Empty, Offered, Advert, ReadyToReceive, Data, Terminated, Migration}
use Rattle.rules.specs.declared.message.Network.{Network}
use Rattle.rules.specs.Numbers.{task_id, processor_id}
use Rattle.rules.specs.Cells.{hint, offer}
use Rattle.rules.specs.Networks.{message_at}
use Rattle.board.specs.packing.Packed.{byte2, byte3, byte4, word_of, word_number}

-- the first number of a letter, by its fields
abbrev pub letter_word : ℕ → ℕ → ℕ → ℕ → ℕ → ℕ → ℕ
letter_word kind number to second offer moves =
    kind + 256 * number + 65536 * to + 16777216 * second + 4294967296 * offer + 281474976710656 * moves

-- both numbers of a letter
unfoldable pub letter_numbers : Message → List ℕ
letter_numbers Empty = 0 ∷ 0 ∷ []
letter_numbers (Offered c o h) = letter_word 1 c.0 h.processor.0 o.processor.0 o.number h.moves ∷ 0 ∷ []
letter_numbers (Advert c d from) = letter_word 2 c.0 d.0 from.0 0 0 ∷ 0 ∷ []
letter_numbers (ReadyToReceive c d h) = letter_word 3 c.0 d.0 h.processor.0 0 h.moves ∷ 0 ∷ []
letter_numbers (Data c d w) = letter_word 4 c.0 d.0 0 0 0 ∷ word_number w ∷ []
letter_numbers (Terminated h t) = letter_word 5 t.0 h.processor.0 0 0 h.moves ∷ 0 ∷ []
letter_numbers (Migration d t) = letter_word 6 t.0 d.0 0 0 0 ∷ 0 ∷ []

-- the fields of a first number that the numbers of a board have not
abbrev pub byte1 : ℕ → ℕ
byte1 v = v / 256 % 256

abbrev pub high16 : ℕ → ℕ
high16 v = v / 281474976710656 % 65536

-- the letter of two numbers; an unknown kind is no letter
unfoldable pub letter_of : ℕ → ℕ → Message
letter_of v w =
    let kind = v % 256 in
    pick (eqb kind 1) (Offered (channel_id (byte1 v)) (offer (processor_id (byte3 v)) (byte4 v)) (hint (processor_id (byte2 v)) (high16 v)))
    (pick (eqb kind 2) (Advert (channel_id (byte1 v)) (processor_id (byte2 v)) (processor_id (byte3 v)))
    (pick (eqb kind 3) (ReadyToReceive (channel_id (byte1 v)) (processor_id (byte2 v)) (hint (processor_id (byte3 v)) (high16 v)))
    (pick (eqb kind 4) (Data (channel_id (byte1 v)) (processor_id (byte2 v)) (word_of w))
    (pick (eqb kind 5) (Terminated (hint (processor_id (byte2 v)) (high16 v)) (task_id (byte1 v)))
    (pick (eqb kind 6) (Migration (processor_id (byte2 v)) (task_id (byte1 v)))
    Empty)))))

-- the numbers of the mail: its letters in order, and zeros in the unused slots
unfoldable pub mail_numbers : Network → List ℕ
mail_numbers n = joined 256 (λ k. pick (ltb k n.used) (letter_numbers (message_at n (suc k))) (0 ∷ 0 ∷ []))
