-- What is posted into the mail: a letter, or letters round by round, and to how many desks.
use Rattle.std.specs.Prelude.{Bool, true, false, List, [], ◌∷◌, ℕ, suc, ◌-◌, eqb}
use Rattle.base.specs.Choice.{pick, within}
use Rattle.plan.specs.declared.ProcessorId.{ProcessorId}
use Rattle.rules.specs.declared.message.Message.{Message}
use Rattle.rules.specs.declared.message.Message.TheVariants.{Empty, Advert}
use Rattle.rules.specs.declared.rule.Posting.{Posting}
use Rattle.rules.specs.declared.rule.Posting.TheVariants.{Nothing, Single, Adverts}
use Rattle.rules.specs.Numbers.{processor_id}

-- a letter, and nothing but that
abbrev pub is_message : Posting → Bool
is_message Nothing = false
is_message (Single m) = true
is_message (Adverts c d) = false

-- how many desks are gone by, in a rig of n: none, one for a letter, all for adverts
abbrev pub rounds_of : ℕ → Posting → ℕ
rounds_of n Nothing = 0
rounds_of n (Single m) = 1
rounds_of n (Adverts c d) = n

-- nothing is posted in round j: an advert goes to every other desk
abbrev pub skips_at : Posting → ℕ → Bool
skips_at Nothing j = false
skips_at (Single m) j = false
skips_at (Adverts c d) j = eqb (suc j) d.0

-- what is posted in round j
abbrev pub message_of : Posting → ℕ → Message
message_of Nothing j = Empty
message_of (Single m) j = m
message_of (Adverts c d) j = Advert c (processor_id (suc j)) d

abbrev pub posted_at : Posting → ℕ → List Message
posted_at x j = pick (skips_at x j) [] (message_of x j ∷ [])

-- how many of n desks are other ones than d
abbrev pub other_processors : ℕ → ProcessorId → ℕ
other_processors n d = pick (within 1 n d.0) (n - 1) n
