-- Which rigs an image holds: each array has its size and each number fits its field, the plan is accepted and has nothing in unused slots,
-- and the unused slots of the mail are empty. Typed code has no other rigs. The image of such a rig holds that very rig.
use Rattle.std.specs.Prelude.{◌≡◌, true, List, ℕ, ◌≤◌, ◌<◌, length, get_or, Ok}
use Rattle.plan.specs.declared.Word.{Word}
use Rattle.plan.specs.Programs.{programs, canonical}
use Rattle.plan.specs.Refusals.{plan_answer}
use Rattle.rules.specs.declared.channel.Hint.{Hint}
use Rattle.rules.specs.declared.channel.Offer.{Offer}
use Rattle.rules.specs.declared.task.Task.{Task}
use Rattle.rules.specs.declared.message.Message.{Message}
use Rattle.rules.specs.declared.message.Message.TheVariants.{Empty, Offered, Advert, ReadyToReceive, Data, Terminated, Migration}
use Rattle.rules.specs.declared.message.Network.{Network}
use Rattle.rules.specs.declared.rule.Posting.{Posting}
use Rattle.rules.specs.declared.rule.Posting.TheVariants.{Nothing, Single, Adverts}
use Rattle.rules.specs.declared.system.Tables.{Tables}
use Rattle.rules.specs.declared.system.Channels.{Channels}
use Rattle.rules.specs.declared.system.Parents.{Parents}
use Rattle.rules.specs.declared.system.TaskTable.{TaskTable}
use Rattle.rules.specs.declared.system.System.{System}
use Rattle.rules.specs.Tasks.{no_task}
use Rattle.rules.specs.Networks.{no_slot}
use Rattle.image.specs.Image.{rig_size, image, rig_of, is_image}

-- the bounds of numbers of 8, 16, 32 and 64 bits
abbrev pub top8 : ℕ
top8 = 256

abbrev pub top16 : ℕ
top16 = 65536

abbrev pub top32 : ℕ
top32 = 4294967296

abbrev pub top64 : ℕ
top64 = 18446744073709551616

-- each entry is below m
abbrev pub AllBelow : ℕ → List ℕ → Type 0
AllBelow m xs = (i : ℕ) → get_or xs i 0 < m

-- an array of n numbers below m
pub record Array (n m : ℕ) (xs : List ℕ) : Type 0 where
  pub long : length xs ≡ n
  pub small : AllBelow m xs

abbrev pub HintFits : Hint → Type 0
HintFits h = (h.processor.0 < top8) × (h.moves < top16)

abbrev pub OfferFits : Offer → Type 0
OfferFits o = (o.processor.0 < top8) × (o.number < top8)

abbrev pub WordFits : Word → Type 0
WordFits w = (w.0 < top16) × (w.1 < top16) × (w.2 < top16) × (w.3 < top16)

pub record TaskFits (x : Task) : Type 0 where
  pub processor : x.processor.0 < top8
  pub pc : x.pc < top8
  pub origin : HintFits x.origin
  pub word : WordFits x.word
  pub moves : x.moves < top16
  pub children : x.children < top64

pub record TasksFit (x : TaskTable) : Type 0 where
  pub long : length x.records ≡ 64
  pub task : (k : ℕ) → k < 64 → TaskFits (get_or x.records k no_task)
  pub ready : Array 6 top64 x.ready

pub record TablesFit (x : Tables) : Type 0 where
  pub hintprocessors : Array 768 top8 x.hintprocessors
  pub hintmoves : Array 768 top16 x.hintmoves
  pub heldprocessors : Array 768 top8 x.heldprocessors
  pub heldnumbers : Array 768 top8 x.heldnumbers
  pub notes : Array 768 top8 x.notes

pub record ChannelsFit (x : Channels) : Type 0 where
  pub granted : Array 128 top8 x.granted
  pub awaiting : length x.awaiting ≡ 128
  pub carriedprocessors : Array 128 top8 x.carriedprocessors
  pub carriednumbers : Array 128 top8 x.carriednumbers
  pub travellingprocessors : Array 128 top8 x.travellingprocessors
  pub travellingmoves : Array 128 top16 x.travellingmoves

pub record ParentsFit (x : Parents) : Type 0 where
  pub hintprocessors : Array 384 top8 x.hintprocessors
  pub hintmoves : Array 384 top16 x.hintmoves
  pub held : Array 384 top64 x.held

-- the numbers of a letter
abbrev pub LetterFits : Message → Type 0
LetterFits Empty = 0 < top8
LetterFits (Offered c o h) = (c.0 < top8) × OfferFits o × HintFits h
LetterFits (Advert c d from) = (c.0 < top8) × (d.0 < top8) × (from.0 < top8)
LetterFits (ReadyToReceive c d h) = (c.0 < top8) × (d.0 < top8) × HintFits h
LetterFits (Data c d w) = (c.0 < top8) × (d.0 < top8) × WordFits w
LetterFits (Terminated h t) = HintFits h × (t.0 < top8)
LetterFits (Migration d t) = (d.0 < top8) × (t.0 < top8)

-- the numbers of what a rule posts
abbrev pub PostingFits : Posting → Type 0
PostingFits Nothing = 0 < top8
PostingFits (Single m) = LetterFits m
PostingFits (Adverts c d) = (c.0 < top8) × (d.0 < top8)

pub record MailFits (n : Network) : Type 0 where
  pub long : length n.slots ≡ 256
  pub used : n.used < top32
  pub letters : (k : ℕ) → k < n.used → k < 256 → LetterFits (get_or n.slots k no_slot).message
  pub unused : (k : ℕ) → n.used ≤ k → k < 256 → get_or n.slots k no_slot ≡ no_slot

pub record Imaged (r : System) : Type 0 where
  pub processors : r.processors < top8
  pub accepted : plan_answer (programs r.plan) ≡ Ok tt
  pub clear : r.plan ≡ canonical (programs r.plan)
  pub tasks : TasksFit r.tasks
  pub tables : TablesFit r.tables
  pub channels : ChannelsFit r.channels
  pub parents : ParentsFit r.parents
  pub network : MailFits r.network
  pub chosen : Array 6 top8 r.chosen

-- what is claimed of each: its image has its size, holds it, and is an image
pub record HeldIn (r : System) : Type 0 where
  pub size : length (image r) ≡ rig_size
  pub rig : rig_of (image r) ≡ r
  pub is : is_image (image r) ≡ true

abbrev pub EveryRigHeld : Type 0
EveryRigHeld = (r : System) → Imaged r → HeldIn r
