-- The part of one channel in the measure: how many deliveries its letters can still ask for.
use Rattle.std.specs.Prelude.{ℕ, zero, suc, ◌+◌}
use Rattle.channel.specs.Bags.{total}
use Rattle.channel.specs.Hints.{forwards}
use Rattle.channel.specs.Messages.{ChannelMessage, offer, advert, call, word, is_advert}
use Rattle.channel.specs.Views.{View}

unfoldable pub weight : (ℕ → ℕ) → ℕ → ℕ → ChannelMessage → ℕ
weight history moves n (offer to d w k) = 3 + forwards history moves n k
weight history moves n (advert to d) = 1
weight history moves n (call to d k) = 2
weight history moves n (word to x) = 1

-- 2 more, once, while nothing is called and an advert is under way
unfoldable pub extra : ℕ → ℕ → ℕ
extra zero zero = 0
extra zero (suc a) = 2
extra (suc g) a = 0

unfoldable pub measure : View → ℕ
measure v = total (weight v.receiver.history v.receiver.moves v.processors) v.messages + extra v.state.granted (total is_advert v.messages)
