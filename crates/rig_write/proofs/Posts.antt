-- The bytes of a mail with letters put behind its own, round by round.
use mathlib.Core.Path.{◌≡◌, refl, sym, ap, ◌∙◌}
use mathlib.Core.Bool.{Bool, true, false}
use mathlib.Core.List.{List, [], ◌∷◌, ◌++◌, append_assoc}
use Prim.Native.Nat.{ℕ, ◌+◌, ◌*◌, ◌-◌, ◌≤◌, ◌<◌}
use native.Mathlib.Omega.{arith}
use lib.ListN.{length, get_or, length-append, replicate, length-replicate, replicate-append-replicate}
use Rattle.base.specs.Choice.{pick}
use Rattle.base.specs.Range.{joined}
use Rattle.base.proofs.Folds.{fold_none, fold_more}
use Rattle.base.proofs.Joins.{length_joined, part_of_sum}
use Rattle.rules.specs.declared.message.Message.{Message}
use Rattle.rules.specs.declared.message.Network.{Network}
use Rattle.rules.specs.declared.rule.Posting.{Posting}
use Rattle.rules.specs.Networks.{messages, enqueued_all, messages_of}
use Rattle.rules_laws.proofs.Messages.{length_messages, enqueued_all_used, enqueued_all_size, messages_enqueued_all}
use Rattle.network.specs.Rounds.{rounds_of, skips_at, message_of, posted_at}
use Rattle.network.proofs.Posted.{rounds_all}
use Rattle.plan_write.specs.output.Output.{overlay}
use Rattle.image.specs.Numbers.{number_bytes, numbers_bytes}
use Rattle.image.specs.Letters.{letter_numbers}
use Rattle.image_laws.proofs.Numbers.{length_number}
use Rattle.rig_write.specs.Mail.{mail_bytes, letters_bytes, MailIn, PostedInto}
use Rattle.rig_write.proofs.MailNumbers.{two_numbers}
use Rattle.rig_write.proofs.MailBytes.{letters_none, letters_append, letters_one, letters_long, mail_letters}
use Rattle.rig_write.proofs.Puts.{numbers_two, none_put, put_more}
use Rattle.rig_write.proofs.Whole.{replaced}

-- letters behind those of a mail that has room for them
module _ (k : Network) (full : length k.slots ≡ 256) (few : k.used ≤ 256) (ms : List Message) (room : k.used + length ms ≤ 256) where
  abbrev old : List ℕ
  old = replicate (16 * length ms) 0

  abbrev rest : List ℕ
  rest = replicate (4096 - 16 * (k.used + length ms)) 0

  before : mail_bytes k ≡ letters_bytes (messages k) ++ (old ++ rest)
  before =
      let e : 16 * length ms + (4096 - 16 * (k.used + length ms)) ≡ 4096 - 16 * k.used = omega arith in
      mail_letters k full few
      ∙ ap (λ (l : List ℕ). letters_bytes (messages k) ++ l)
      (ap (λ (n : ℕ). replicate n 0) (sym e) ∙ sym (replicate-append-replicate (16 * length ms) (4096 - 16 * (k.used + length ms)) 0))

  slots_kept : length (enqueued_all k ms).slots ≡ 256
  slots_kept = enqueued_all_size k ms ∙ full

  after : mail_bytes (enqueued_all k ms) ≡ letters_bytes (messages k) ++ (letters_bytes ms ++ rest)
  after =
      mail_letters (enqueued_all k ms) slots_kept (omega (arith, enqueued_all_used k ms))
      ∙ ap (λ (n : ℕ). letters_bytes (messages (enqueued_all k ms)) ++ replicate (4096 - 16 * n) 0) (enqueued_all_used k ms)
      ∙ ap (λ (l : List ℕ). l ++ rest) (ap letters_bytes (messages_enqueued_all k ms (omega arith)) ∙ letters_append (messages k) ms)
      ∙ append_assoc (letters_bytes (messages k)) (letters_bytes ms) rest

  pub posted_in : MailIn (overlay (mail_bytes k) (16 * k.used) (letters_bytes ms)) (enqueued_all k ms)
  posted_in =
      let long : length (letters_bytes (messages k)) ≡ 16 * k.used =
      letters_long (messages k) ∙ ap (λ (n : ℕ). 16 * n) (length_messages k (omega arith)) in
      record {
        bytes =
            rw before (replaced (letters_bytes (messages k)) old rest (letters_bytes ms) (16 * k.used) long (length-replicate (16 * length ms) 0 ∙ sym (letters_long ms)) ∙ sym after);
        slots = slots_kept;
        few = omega (arith, enqueued_all_used k ms);
      }

pub letters_posted : (b after : List ℕ) (used n r : ℕ) (x : Posting) → used + length (messages_of n x) ≤ 256 → r ≡ used + length (messages_of n x)
    → after ≡ overlay b (16 * used) (letters_bytes (messages_of n x)) → PostedInto b used n x r after
letters_posted b after used n r x room q e k m u =
    let ms = messages_of n x in
    (omega (arith, enqueued_all_used k ms), rw (e, ← u, m.bytes) (posted_in k m.slots m.few ms (omega arith)))

-- a letter by its two numbers
pub letter_put : (out mid after : List ℕ) (at : ℕ) (m : Message) (v u : ℕ) → at ≤ length out → mid ≡ overlay out at (number_bytes 8 v)
    → after ≡ overlay mid (at + 8) (number_bytes 8 u) → v ≡ get_or (letter_numbers m) 0 0 → u ≡ get_or (letter_numbers m) 1 0
    → after ≡ overlay out at (letters_bytes (m ∷ []))
letter_put out mid after at m v u h e q p s =
    let both : letters_bytes (m ∷ []) ≡ number_bytes 8 v ++ number_bytes 8 u =
    letters_one m ∙ ap (numbers_bytes 8) (two_numbers m) ∙ numbers_two 8 (get_or (letter_numbers m) 0 0) (get_or (letter_numbers m) 1 0) ∙ rw (p, s) refl in
    put_more out mid after at (at + 8) (number_bytes 8 v) (number_bytes 8 u) h e (omega (arith, length_number 8 v)) q ∙ ap (overlay out at) (sym both)

-- what a round posts: nothing, or its letter
module _ (x : Posting) (j : ℕ) where
  pub none_posted : skips_at x j ≡ true → posted_at x j ≡ []
  none_posted e = ap (λ (b : Bool). pick b [] (message_of x j ∷ [])) e

  pub one_posted : skips_at x j ≡ false → (m : Message) → m ≡ message_of x j → posted_at x j ≡ m ∷ []
  one_posted e m q = ap (λ (b : Bool). pick b [] (message_of x j ∷ [])) e ∙ ap (λ (n : Message). n ∷ []) (sym q)

  pub round_skipped : (b : List ℕ) (free : ℕ) → skips_at x j ≡ true
      → (free ≡ free + length (posted_at x j)) × (b ≡ overlay b (16 * free) (letters_bytes (posted_at x j)))
  round_skipped b free e = rw (none_posted e, letters_none) (omega arith, none_put b (16 * free))

  pub round_posted : (b after : List ℕ) (free : ℕ) (m : Message) → skips_at x j ≡ false → m ≡ message_of x j → after ≡ overlay b (16 * free) (letters_bytes (m ∷ []))
      → (free + 1 ≡ free + length (posted_at x j)) × (after ≡ overlay b (16 * free) (letters_bytes (posted_at x j)))
  round_posted b after free m e q p = rw (one_posted e m q) (refl, p)

-- the rounds: none, one more, all, and room for each
module _ (x : Posting) (b : List ℕ) (used : ℕ) where
  abbrev pub Rounds : ℕ → ℕ → List ℕ → Type 0
  Rounds j free now = (free ≡ used + length (joined j (posted_at x))) × (now ≡ overlay b (16 * used) (letters_bytes (joined j (posted_at x))))

  pub no_round : Rounds 0 used b
  no_round = rw (fold_none ◌++◌ [] (posted_at x), letters_none) (omega arith, none_put b (16 * used))

  pub next_round : (j free r : ℕ) (now after : List ℕ) → 16 * used ≤ length b → Rounds j free now → r ≡ free + length (posted_at x j)
      → after ≡ overlay now (16 * free) (letters_bytes (posted_at x j)) → Rounds (j + 1) r after
  next_round j free r now after h (q, e) p s =
      let xs = joined j (posted_at x) in
      let place : 16 * free ≡ 16 * used + length (letters_bytes xs) = omega (arith, letters_long xs) in
      rw (fold_more ◌++◌ [] j (posted_at x), letters_append xs (posted_at x j))
      (omega (arith, length-append xs (posted_at x j)), put_more b now after (16 * used) (16 * free) (letters_bytes xs) (letters_bytes (posted_at x j)) h e place s)

  pub all_rounds : (n j free : ℕ) (now : List ℕ) → j ≡ rounds_of n x → used + length (messages_of n x) ≤ 256 → Rounds j free now → PostedInto b used n x free now
  all_rounds n j free now e room (q, p) =
      let all : joined j (posted_at x) ≡ messages_of n x = ap (λ (i : ℕ). joined i (posted_at x)) e ∙ rounds_all n x in
      letters_posted b now used n free x room (q ∙ ap (λ (l : List Message). used + length l) all)
      (p ∙ ap (λ (l : List Message). overlay b (16 * used) (letters_bytes l)) all)

  pub round_room : (n j : ℕ) → j < rounds_of n x → used + length (messages_of n x) ≤ 256 → used + length (joined j (posted_at x)) + length (posted_at x j) ≤ 256
  round_room n j l h =
      let part = part_of_sum (rounds_of n x) (λ i. length (posted_at x i)) j l in
      let sum = ap length (sym (rounds_all n x)) ∙ length_joined (rounds_of n x) (posted_at x) in
      omega (arith, part, sum, length_joined j (posted_at x), h)
