-- The parts of a cell and the letters posted, such as 9 does not refuse: by fields, what the tests say of them.
use Rattle.std.specs.Prelude.{◌≡◌, true, ℕ, ◌≤◌, ◌<◌, ◌^◌, length}
use Rattle.base.specs.Lists.{every}
use Rattle.rules.specs.declared.channel.Entry.{Entry}
use Rattle.rules.specs.declared.channel.Channel.{Channel}
use Rattle.rules.specs.declared.channel.Cell.{Cell}
use Rattle.rules.specs.declared.rule.Posting.{Posting}
use Rattle.rules.specs.Networks.{messages_of}
use Rattle.rules.specs.Sound.{hint_ok, offer_ok, message_ok}
use Rattle.rules.specs.declared.system.ParentEntry.{ParentEntry}

-- a desk's entry for a channel, in a rig of n desks
pub record FineEntry (n : ℕ) (e : Entry) : Type 0 where
  pub hint : hint_ok n e.hint ≡ true
  pub held : offer_ok n e.held ≡ true
  pub noted : e.noted.0 ≤ n

-- a channel's own entry
pub record FineChannel (n : ℕ) (k : Channel) : Type 0 where
  pub granted : k.granted ≤ 64
  pub carried : offer_ok n k.carried ≡ true
  pub travelling : hint_ok n k.travelling ≡ true

-- both
pub record FineCell (n : ℕ) (x : Cell) : Type 0 where
  pub entry : FineEntry n x.entry
  pub channel : FineChannel n x.channel

-- what a desk keeps for a parent, in a rig of n desks and m tasks
pub record FineParent (n m : ℕ) (e : ParentEntry) : Type 0 where
  pub hint : hint_ok n e.hint ≡ true
  pub held : e.held < 2 ^ m

-- letters that a rule posts, in a rig of n desks and m tasks
pub record FinePosting (n m : ℕ) (p : Posting) : Type 0 where
  pub messages : every (message_ok n m) (messages_of n p) ≡ true

-- and of which there is at most one
pub record FineReply (n m : ℕ) (p : Posting) : Type 0 where
  pub posting : FinePosting n m p
  pub few : length (messages_of n p) ≤ 1
