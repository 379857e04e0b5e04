-- An offer that follows its receiver over three desks: it is posted once and forwarded with each move of the receiver.
use Rattle.std.specs.Prelude.{List, [], ◌∷◌}
use Rattle.plan.specs.declared.ChannelId.{ChannelId}
use Rattle.plan.specs.declared.Plan.{Plan}
use Rattle.plan.specs.Numbers.{channel_id, processor_id}
use Rattle.plan.specs.Programs.{canonical}
use Rattle.rules.specs.declared.channel.Hint.{Hint}
use Rattle.rules.specs.declared.channel.Offer.{Offer}
use Rattle.rules.specs.declared.step.Step.{Step}
use Rattle.rules.specs.Cells.{hint, offer}
use Rattle.rules.proofs.Scripts.{create, finish, send, receive, run, deliver, move}

abbrev pub chase_plan : Plan
chase_plan = canonical ((create 2 ∷ send 1 ∷ finish ∷ []) ∷ (receive 1 ∷ finish ∷ []) ∷ [])

-- task 2 leaves for desk 2, then task 1 sends
abbrev pub chase_before : List Step
chase_before = run 1 ∷ move 2 2 ∷ []

abbrev pub chase_send : Step
chase_send = run 1

-- it arrives and leaves for desk 3, and the offer comes behind it; the same again, back to desk 2
abbrev pub chase_after : List Step
chase_after = deliver 1 ∷ move 2 3 ∷ deliver 1 ∷ deliver 1 ∷ move 2 2 ∷ deliver 1 ∷ []

-- it arrives, and the offer finds it: a delivery that does not forward
abbrev pub chase_end : List Step
chase_end = deliver 1 ∷ deliver 1 ∷ []

abbrev pub chased : ChannelId
chased = channel_id 1

-- the offer, and the pointer along which it is posted
abbrev pub chase_offer : Offer
chase_offer = offer (processor_id 1) 1

abbrev pub chase_pointer : Hint
chase_pointer = hint (processor_id 2) 2
