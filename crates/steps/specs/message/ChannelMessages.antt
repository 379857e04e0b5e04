-- The letters that are about a channel: which one a letter is, and that it can be opened beside what is not lent for it.
use Rattle.std.specs.Prelude.{◌≡◌, List, ℕ}
use Rattle.plan.specs.declared.ChannelId.{ChannelId}
use Rattle.plan.specs.declared.ProcessorId.{ProcessorId}
use Rattle.plan.specs.declared.Word.{Word}
use Rattle.rules.specs.declared.channel.Hint.{Hint}
use Rattle.rules.specs.declared.channel.Offer.{Offer}
use Rattle.rules.specs.declared.message.Message.{Message}
use Rattle.rules.specs.declared.message.Message.TheVariants.{Offered, Advert, ReadyToReceive, Data}
use Rattle.board.specs.Lent.{lent}
use Rattle.board.specs.Rigs.{Opens}
use Rattle.steps.specs.message.Parts.{Some}

-- m is an offer
pub record IsOffer (m : Message) : Type 0 where
  pub channel : ChannelId
  pub made : Offer
  pub along : Hint
  pub is : m ≡ Offered channel made along

-- m is an advert
pub record IsAdvert (m : Message) : Type 0 where
  pub channel : ChannelId
  pub processor : ProcessorId
  pub from : ProcessorId
  pub is : m ≡ Advert channel processor from

-- m is a call
pub record IsCall (m : Message) : Type 0 where
  pub channel : ChannelId
  pub processor : ProcessorId
  pub pointer : Hint
  pub is : m ≡ ReadyToReceive channel processor pointer

-- m is a word letter
pub record IsWord (m : Message) : Type 0 where
  pub channel : ChannelId
  pub processor : ProcessorId
  pub word : Word
  pub is : m ≡ Data channel processor word

-- an offer can be opened beside some notes
abbrev pub OfferOpens : (codes users hintprocessors hintmoves heldprocessors heldnumbers board : List ℕ) → Message → Type 0
OfferOpens codes users hintprocessors hintmoves heldprocessors heldnumbers board m =
    (IsOffer m)
    × (Some (λ notes. Opens codes users (lent hintprocessors hintmoves heldprocessors heldnumbers notes board) m))

-- an advert, beside some pointers and held offers
abbrev pub AdvertOpens : (codes users notes board : List ℕ) → Message → Type 0
AdvertOpens codes users notes board m =
    (IsAdvert m)
    × (Some (λ hintprocessors. Some (λ hintmoves. Some (λ heldprocessors. Some (λ heldnumbers.
    Opens codes users (lent hintprocessors hintmoves heldprocessors heldnumbers notes board) m)))))

-- a call, beside some held offers and notes
abbrev pub CallOpens : (codes users hintprocessors hintmoves board : List ℕ) → Message → Type 0
CallOpens codes users hintprocessors hintmoves board m =
    (IsCall m)
    × (Some (λ heldprocessors. Some (λ heldnumbers. Some (λ notes.
    Opens codes users (lent hintprocessors hintmoves heldprocessors heldnumbers notes board) m))))

-- a word letter, beside some tables
abbrev pub WordOpens : (codes users board : List ℕ) → Message → Type 0
WordOpens codes users board m =
    (IsWord m)
    × (Some (λ hintprocessors. Some (λ hintmoves. Some (λ heldprocessors. Some (λ heldnumbers. Some (λ notes.
    Opens codes users (lent hintprocessors hintmoves heldprocessors heldnumbers notes board) m))))))
