-- What else holds of every run.
use Rattle.std.specs.Prelude.{◌≡◌, Bool, false, List}
use Rattle.plan.specs.declared.Plan.{Plan}
use Rattle.plan.specs.declared.ChannelId.{ChannelId}
use Rattle.plan.specs.declared.Word.{Word}
use Rattle.plan.specs.Numbers.{same_channel}
use Rattle.plan.specs.Programs.{programs}
use Rattle.rules.specs.declared.message.Message.{Message}
use Rattle.rules.specs.declared.message.Message.TheVariants.{Empty, Offered, Advert, ReadyToReceive, Data, Terminated, Migration}
use Rattle.net.specs.Machines.{Normal}
use Rattle.net.specs.States.{Net}
use Rattle.net.specs.Labels.{Label}
use Rattle.net.specs.Nets.{net, Reached}

-- a call or a word letter of channel c
unfoldable pub is_call_or_word : ChannelId → Message → Bool
is_call_or_word c Empty = false
is_call_or_word c (Offered e o h) = false
is_call_or_word c (Advert e d from) = false
is_call_or_word c (ReadyToReceive e d h) = same_channel e c
is_call_or_word c (Data e d w) = same_channel e c
is_call_or_word c (Terminated d t) = false
is_call_or_word c (Migration d t) = false

-- the state of the net in its normal form, where just these words have passed
pub record Shows (p : Plan) (received : ChannelId → List Word) : Type 0 where
  pub labels : List Label
  pub state : Net
  pub reached : Reached (programs p) labels state
  pub normal : Normal (net (programs p)) state
  pub passed : (c : ChannelId) → state.passed c ≡ received c
