-- What a `let .. else` leaves: a letter of another variant than the one that was looked for. Variants are told apart by their positions.
use mathlib.Core.Bool.{not}
use mathlib.Core.List.{List, [], ◌∷◌}
use mathlib.Core.Path.{◌≡◌, subst}
use mathlib.Core.Logic.{◌≢◌}
use Prim.Native.Nat.{ℕ}
use lib.Dec.{T, eqb}
use borrow.Author.Tests.{ne_eqb}
use types.Run.{OneOf, miss}
use mir.Val.{has_key}
use denote.Enum.Declared.{tag_of}
use Rattle.base.specs.Choice.{pick}
use Rattle.plan.specs.declared.ChannelId.{ChannelId}
use Rattle.plan.specs.declared.ProcessorId.{ProcessorId}
use Rattle.plan.specs.declared.TaskId.{TaskId}
use Rattle.plan.specs.declared.Word.{Word}
use Rattle.rules.specs.contracts.message.Message.{the_type}
use Rattle.rules.specs.declared.channel.Hint.{Hint}
use Rattle.rules.specs.declared.channel.Offer.{Offer}
use Rattle.rules.specs.declared.message.Message.{Message}
use Rattle.rules.specs.declared.message.Message.TheVariants.{Empty, Offered, Advert, ReadyToReceive, Data, Terminated, Migration}

-- the numbers of a list but k
abbrev pub without : ℕ → List ℕ → List ℕ
without k [] = []
without k (j ∷ js) = pick (eqb j k) (without k js) (j ∷ without k js)

-- the positions but k
abbrev pub but : ℕ → List ℕ
but k = without k (0 ∷ 1 ∷ 2 ∷ 3 ∷ 4 ∷ 5 ∷ 6 ∷ [])

-- a fact that is asked of variant j, unless j is k
abbrev pub Unless : ℕ → ℕ → Type 0 → Type 0
Unless k j P = pick (eqb j k) Unit P

asked : (k j : ℕ) {P : Type 0} → j ≢ k → Unless k j P → P
asked k j ne h = rw (ne_eqb j k ne) at h

module _ {A : Type 0} (k : ℕ) (f : Message → A) (a : A) where
  -- f gives a of each variant but k
  pub record Elsewhere : Type 0 where
    pub empty : Unless k 0 (a ≡ f Empty)
    pub offered : Unless k 1 ((c : ChannelId) (o : Offer) (h : Hint) → a ≡ f (Offered c o h))
    pub advert : Unless k 2 ((c : ChannelId) (d from : ProcessorId) → a ≡ f (Advert c d from))
    pub ready : Unless k 3 ((c : ChannelId) (d : ProcessorId) (h : Hint) → a ≡ f (ReadyToReceive c d h))
    pub word : Unless k 4 ((c : ChannelId) (d : ProcessorId) (w : Word) → a ≡ f (Data c d w))
    pub terminated : Unless k 5 ((h : Hint) (t : TaskId) → a ≡ f (Terminated h t))
    pub migration : Unless k 6 ((d : ProcessorId) (t : TaskId) → a ≡ f (Migration d t))

  apart : (m : Message) → tag_of the_type m ≢ k → Elsewhere → a ≡ f m
  apart Empty ne e = asked k 0 ne e.empty
  apart (Offered c o h) ne e = asked k 1 ne e.offered c o h
  apart (Advert c d from) ne e = asked k 2 ne e.advert c d from
  apart (ReadyToReceive c d h) ne e = asked k 3 ne e.ready c d h
  apart (Data c d w) ne e = asked k 4 ne e.word c d w
  apart (Terminated h t) ne e = asked k 5 ne e.terminated h t
  apart (Migration d t) ne e = asked k 6 ne e.migration d t

  pub other : (m : Message) → T (not (has_key (but k) k)) → OneOf (but k) (tag_of the_type m) → Elsewhere → a ≡ f m
  other m out here e = apart m (λ q. miss (but k) k out (subst (λ (j : ℕ). OneOf (but k) j) q here)) e
