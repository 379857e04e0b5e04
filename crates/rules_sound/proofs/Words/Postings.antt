-- Letters posted whose words are good.
use mathlib.Core.Path.{◌≡◌, refl}
use mathlib.Core.Bool.{Bool, true}
use mathlib.Core.List.{[], ◌∷◌}
use Prim.Native.Nat.{suc}
use lib.Dec.{eqb}
use Rattle.base.specs.Lists.{every}
use Rattle.base.proofs.Choices.{pick_either}
use Rattle.base.proofs.Joins.{every_joined}
use Rattle.plan.specs.declared.ProcessorId.{ProcessorId}
use Rattle.plan.specs.declared.ChannelId.{ChannelId}
use Rattle.plan.specs.declared.Word.{Word as WordOf}
use Rattle.rules.specs.declared.message.Message.{Message}
use Rattle.rules.specs.declared.message.Message.TheVariants.{Advert}
use Rattle.rules.specs.declared.rule.Posting.TheVariants.{Nothing, Single, Adverts}
use Rattle.rules.specs.Numbers.{processor_id}
use Rattle.rules.specs.Networks.{messages_of}
use Rattle.rules_sound.specs.Words.{message_good, GoodPosting}

module _ {good : WordOf → Bool} where
  pub none_good : GoodPosting good Nothing
  unfolding messages_of every
  none_good = record { messages = λ n. refl }

  pub message_good_lem : (m : Message) → message_good good m ≡ true → GoodPosting good (Single m)
  unfolding messages_of every
  message_good_lem m h = record { messages = λ n. rw h refl }

  pub adverts_good : (c : ChannelId) (d : ProcessorId) → GoodPosting good (Adverts c d)
  unfolding messages_of every message_good
  adverts_good c d =
      record {
        messages =
            λ n.
            every_joined (message_good good) n _
            (λ k h.
            pick_either (λ l. every (message_good good) l ≡ true) (eqb (suc k) d.0) [] (Advert c (processor_id (suc k)) d ∷ []) refl refl);
      }
