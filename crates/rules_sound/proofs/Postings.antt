-- Letters posted that are fine: none, one, and adverts to every other desk.
use mathlib.Core.Path.{◌≡◌, refl}
use mathlib.Core.Bool.{true}
use mathlib.Core.List.{[], ◌∷◌}
use Prim.Native.Nat.{ℕ, suc}
use native.Mathlib.Omega.{arith}
use lib.Dec.{eqb}
use Rattle.base.specs.Choice.{pick}
use Rattle.base.specs.Lists.{every}
use Rattle.base.proofs.Choices.{pick_cases}
use Rattle.base.proofs.Tests.{within_both}
use Rattle.plan.specs.declared.ProcessorId.{ProcessorId}
use Rattle.plan.specs.declared.ChannelId.{ChannelId}
use Rattle.plan.specs.declared.Word.{Word}
use Rattle.rules.specs.declared.task.Task.{Task}
use Rattle.rules.specs.declared.channel.Hint.{Hint}
use Rattle.rules.specs.declared.channel.Offer.{Offer}
use Rattle.rules.specs.declared.message.Message.{Message}
use Rattle.rules.specs.declared.message.Message.TheVariants.{Offered, Advert, ReadyToReceive, Data}
use Rattle.rules.specs.declared.rule.Posting.TheVariants.{Nothing, Single, Adverts}
use Rattle.rules.specs.Numbers.{processor_id, processor_ok, channel_number_ok}
use Rattle.rules.specs.Cells.{hint}
use Rattle.rules.specs.Networks.{messages_of}
use Rattle.rules.specs.Receive.{call_to}
use Rattle.rules.specs.Sound.{known_ok, made_ok, message_ok}
use Rattle.rules_sound.specs.Fine.{FinePosting, FineReply}
use Rattle.base.proofs.Joins.{every_joined}

module _ (n m : ℕ) where
  pub nothing_posted : FinePosting n m Nothing
  unfolding messages_of every
  nothing_posted = record { messages = refl }

  pub message_posted : (a : Message) → message_ok n m a ≡ true → FinePosting n m (Single a)
  unfolding messages_of every
  message_posted a h = record { messages = rw h refl }

  pub nothing_reply : FineReply n m Nothing
  unfolding messages_of
  nothing_reply = record { posting = nothing_posted; few = omega arith }

  pub message_reply : (a : Message) → FinePosting n m (Single a) → FineReply n m (Single a)
  unfolding messages_of
  message_reply a h = record { posting = h; few = omega arith }

  module _ (c : ChannelId) (k : channel_number_ok c ≡ true) where
    pub offered_posted : (o : Offer) (h : Hint) → made_ok n o ≡ true → known_ok n h ≡ true → FinePosting n m (Single (Offered c o h))
    unfolding message_ok
    offered_posted o h p q = message_posted (Offered c o h) (simp (k, p, q))

    pub call_posted : (from : ProcessorId) (x : Task) → processor_ok n from ≡ true → known_ok n (hint x.processor x.moves) ≡ true → FinePosting n m (call_to from c x)
    unfolding message_ok
    call_posted from x p q = message_posted (ReadyToReceive c from (hint x.processor x.moves)) (simp (k, p, q))

    pub data_posted : (d : ProcessorId) (w : Word) → processor_ok n d ≡ true → FinePosting n m (Single (Data c d w))
    unfolding message_ok
    data_posted d w p = message_posted (Data c d w) (simp (k, p))

    pub adverts_posted : (d : ProcessorId) → processor_ok n d ≡ true → FinePosting n m (Adverts c d)
    unfolding messages_of every message_ok
    adverts_posted d p =
        record {
          messages =
              every_joined (message_ok n m) n (λ j. pick (eqb (suc j) d.0) [] (Advert c (processor_id (suc j)) d ∷ []))
              (λ j q.
              pick_cases (λ l. every (message_ok n m) l ≡ true) (eqb (suc j) d.0) [] (Advert c (processor_id (suc j)) d ∷ [])
              (λ e. refl)
              (λ e. simp (k, within_both 1 n (suc j) (omega arith) (omega arith), p)));
        }
