-- Both sides of each condition of 9: parts of a rig of two desks and three tasks. Tables, channels and mail are shorter here than in a rig.
use mathlib.Core.Bool.{Bool, true, false}
use mathlib.Core.List.{List, [], ◌∷◌}
use Prim.Native.Nat.{ℕ}
use Rattle.plan.specs.declared.Word.{Word}
use Rattle.plan.specs.Programs.{Program}
use Rattle.plan.specs.Words.{zero_word}
use Rattle.plan.proofs.Edges.{word_of}
use Rattle.rules.specs.declared.task.Task.{Task}
use Rattle.rules.specs.declared.task.TaskState.{TaskState}
use Rattle.rules.specs.declared.task.TaskState.TheVariants.{Unborn, Ready, Waiting, Sending, Receiving, Moving, Done}
use Rattle.rules.specs.declared.channel.Hint.{Hint}
use Rattle.rules.specs.declared.channel.Offer.{Offer}
use Rattle.rules.specs.declared.message.Message.{Message}
use Rattle.rules.specs.declared.message.Message.TheVariants.{Empty, Offered, Advert, ReadyToReceive, Data, Terminated, Migration}
use Rattle.rules.specs.declared.message.Network.{Network}
use Rattle.rules.specs.declared.system.Tables.{Tables}
use Rattle.rules.specs.declared.system.Channels.{Channels}
use Rattle.rules.specs.declared.system.Parents.{Parents}
use Rattle.rules.specs.declared.system.TaskTable.{TaskTable}
use Rattle.rules.specs.Numbers.{task_id, processor_id, channel_id}
use Rattle.rules.specs.Tasks.{unborn, born, with_state, with_processor, with_pc, with_word, with_moves, with_children}
use Rattle.rules.specs.Cells.{hint, unknown, offer, no_offer}
use Rattle.rules.specs.Networks.{slot, no_slot}
use Rattle.rules.proofs.Scripts.{create, finish, send, receive, same_bool}

-- something of a rig, and whether 9 lets it pass
pub record Sample (A : Type 0) : Type 0 where
  pub it : A
  pub ok : Bool

abbrev pub fine : {A : Type 0} → A → Sample A
fine x = record { it = x; ok = true }

abbrev pub wrong : {A : Type 0} → A → Sample A
wrong x = record { it = x; ok = false }

abbrev pub judged : {A : Type 0} → (A → Bool) → Sample A → Bool
judged test s = same_bool (test s.it) s.ok

-- "(desk, count; both 0 is unknown)"; "a move count is at most 9,999"
unfoldable pub hint_samples : List (Sample Hint)
hint_samples =
    fine unknown ∷ wrong (hint (processor_id 0) 1) ∷ wrong (hint (processor_id 1) 0) ∷ fine (hint (processor_id 1) 1) ∷ fine (hint (processor_id 2) 9999)
    ∷ wrong (hint (processor_id 3) 1) ∷ wrong (hint (processor_id 2) 10000) ∷ []

-- "Offers are numbered 1 to 64"
unfoldable pub offer_samples : List (Sample Offer)
offer_samples =
    fine no_offer ∷ wrong (offer (processor_id 0) 1) ∷ wrong (offer (processor_id 1) 0) ∷ fine (offer (processor_id 1) 1) ∷ fine (offer (processor_id 2) 64)
    ∷ wrong (offer (processor_id 3) 1) ∷ wrong (offer (processor_id 2) 65) ∷ []

-- letters: channels 1 to 128, desks of the rig, tasks of the rig; none is empty
unfoldable pub message_samples : List (Sample Message)
message_samples =
    wrong Empty
    ∷ fine (Offered (channel_id 128) (offer (processor_id 2) 64) (hint (processor_id 1) 9999))
    ∷ wrong (Offered (channel_id 129) (offer (processor_id 2) 64) (hint (processor_id 1) 9999))
    ∷ wrong (Offered (channel_id 1) no_offer (hint (processor_id 1) 1))
    ∷ wrong (Offered (channel_id 1) (offer (processor_id 1) 1) unknown)
    ∷ fine (Advert (channel_id 1) (processor_id 2) (processor_id 1))
    ∷ wrong (Advert (channel_id 0) (processor_id 2) (processor_id 1))
    ∷ wrong (Advert (channel_id 1) (processor_id 3) (processor_id 1))
    ∷ wrong (Advert (channel_id 1) (processor_id 2) (processor_id 0))
    ∷ fine (ReadyToReceive (channel_id 1) (processor_id 1) (hint (processor_id 2) 1))
    ∷ wrong (ReadyToReceive (channel_id 0) (processor_id 1) (hint (processor_id 2) 1))
    ∷ wrong (ReadyToReceive (channel_id 1) (processor_id 0) (hint (processor_id 2) 1))
    ∷ wrong (ReadyToReceive (channel_id 1) (processor_id 1) unknown)
    ∷ fine (Data (channel_id 1) (processor_id 1) zero_word)
    ∷ wrong (Data (channel_id 129) (processor_id 1) zero_word)
    ∷ wrong (Data (channel_id 1) (processor_id 3) zero_word)
    ∷ fine (Terminated (hint (processor_id 1) 9999) (task_id 3))
    ∷ wrong (Terminated (hint (processor_id 0) 1) (task_id 3))
    ∷ wrong (Terminated (hint (processor_id 1) 0) (task_id 3))
    ∷ wrong (Terminated (hint (processor_id 1) 10000) (task_id 3))
    ∷ wrong (Terminated (hint (processor_id 1) 1) (task_id 4))
    ∷ fine (Migration (processor_id 2) (task_id 1))
    ∷ wrong (Migration (processor_id 3) (task_id 1))
    ∷ wrong (Migration (processor_id 2) (task_id 0))
    ∷ []

-- a program of four instructions
abbrev pub program : Program
program = create 2 ∷ send 1 ∷ receive 2 ∷ finish ∷ []

-- a task in a state, at a desk, at a place, with a word, a move count and children
abbrev task : TaskState → ℕ → ℕ → Word → ℕ → ℕ → Task
task s d pc w n kids = with_children (with_moves (with_word (with_pc (with_processor (with_state unborn s) (processor_id d)) pc) w) n) kids

abbrev some_word : Word
some_word = word_of 1

-- "An unborn task has desk 0, place 1, word 0, count 0"; "a moving one has desk 0"; places; last instructions; children of the rig
unfoldable pub task_samples : List (Sample Task)
task_samples =
    fine unborn
    ∷ wrong (task Unborn 1 1 zero_word 0 0) ∷ wrong (task Unborn 0 2 zero_word 0 0)
    ∷ wrong (task Unborn 0 1 some_word 0 0) ∷ wrong (task Unborn 0 1 zero_word 1 0)
    ∷ fine (task Unborn 0 1 zero_word 0 7) ∷ wrong (task Unborn 0 1 zero_word 0 8)
    ∷ fine (task Ready 2 4 some_word 9999 7)
    ∷ wrong (task Ready 0 1 zero_word 1 0) ∷ wrong (task Ready 3 1 zero_word 1 0) ∷ wrong (task Ready 1 0 zero_word 1 0)
    ∷ wrong (task Ready 1 5 zero_word 1 0)
    ∷ wrong (task Ready 1 1 zero_word 0 0) ∷ wrong (task Ready 1 1 zero_word 10000 0) ∷ wrong (task Ready 1 1 zero_word 1 8)
    ∷ fine (task Waiting 1 1 zero_word 1 0) ∷ wrong (task Waiting 0 1 zero_word 1 0)
    ∷ fine (task Moving 0 1 zero_word 2 7) ∷ wrong (task Moving 1 1 zero_word 2 0)
    ∷ fine (task Done 1 5 zero_word 1 0) ∷ wrong (task Done 1 6 zero_word 1 0) ∷ wrong (task Done 0 5 zero_word 1 0)
    ∷ fine (task Sending 1 3 zero_word 1 0) ∷ wrong (task Sending 0 3 zero_word 1 0) ∷ wrong (task Receiving 0 4 zero_word 1 0) ∷ wrong (task Sending 1 1 zero_word 1 0) ∷ wrong (task Sending 1 4 zero_word 1 0)
    ∷ fine (task Receiving 1 4 zero_word 1 0) ∷ wrong (task Receiving 1 1 zero_word 1 0) ∷ wrong (task Receiving 1 3 zero_word 1 0)
    ∷ []

-- a task in a state whose own pointer is h
abbrev owning : TaskState → Hint → Task
owning s h = with_state (born (processor_id 1) h) s

-- the own pointer of a task 2..T: "both 0 for an unborn task"
unfoldable pub origin_samples : List (Sample Task)
origin_samples =
    fine (owning Unborn unknown)
    ∷ wrong (owning Unborn (hint (processor_id 1) 1)) ∷ wrong (owning Unborn (hint (processor_id 0) 1)) ∷ wrong (owning Unborn (hint (processor_id 1) 0))
    ∷ fine (owning Ready (hint (processor_id 2) 9999)) ∷ fine (owning Done (hint (processor_id 1) 1))
    ∷ wrong (owning Ready unknown) ∷ wrong (owning Ready (hint (processor_id 3) 1)) ∷ wrong (owning Ready (hint (processor_id 1) 0))
    ∷ wrong (owning Moving (hint (processor_id 1) 10000))
    ∷ []

-- "and always for task 1"
unfoldable pub first_samples : List (Sample Task)
first_samples =
    fine (owning Ready unknown) ∷ wrong (owning Ready (hint (processor_id 1) 1)) ∷ wrong (owning Done (hint (processor_id 0) 1)) ∷ wrong (owning Ready (hint (processor_id 1) 0)) ∷ []

-- one pointer to a parent and one set of held children, behind an entry with none
abbrev parents : Hint → ℕ → Parents
parents h s = record { hintprocessors = 0 ∷ h.processor.0 ∷ []; hintmoves = 0 ∷ h.moves ∷ []; held = 0 ∷ s ∷ [] }

unfoldable pub parents_samples : List (Sample Parents)
parents_samples =
    fine (parents (hint (processor_id 2) 9999) 7) ∷ fine (parents unknown 7)
    ∷ wrong (parents (hint (processor_id 3) 1) 0) ∷ wrong (parents (hint (processor_id 1) 0) 0) ∷ wrong (parents (hint (processor_id 0) 1) 0)
    ∷ wrong (parents (hint (processor_id 1) 10000) 0) ∷ wrong (parents unknown 8) ∷ []

-- tasks ready at desk 2, unborn and ready at desk 1, and a fourth record that is no task of the rig; with the sets of the first two desks and the last
abbrev tasks : ℕ → ℕ → ℕ → TaskTable
tasks one two six =
    record {
      records = born (processor_id 2) unknown ∷ unborn ∷ born (processor_id 1) unknown ∷ born (processor_id 1) unknown ∷ [];
      ready = one ∷ two ∷ 0 ∷ 0 ∷ 0 ∷ six ∷ [];
    }

-- "a stored set that differs from the rig": a task too few, too many, at another desk, above T, at a desk that the rig has not
unfoldable pub ready_samples : List (Sample TaskTable)
ready_samples = fine (tasks 4 1 0) ∷ wrong (tasks 0 1 0) ∷ wrong (tasks 6 1 0) ∷ wrong (tasks 5 0 0) ∷ wrong (tasks 12 1 0) ∷ wrong (tasks 4 1 1) ∷ []

-- "a last choice above T (0 at first)"
unfoldable pub chosen_samples : List (Sample (List ℕ))
chosen_samples = fine (0 ∷ 0 ∷ 0 ∷ 0 ∷ 0 ∷ 0 ∷ []) ∷ fine (3 ∷ 1 ∷ 0 ∷ 0 ∷ 0 ∷ 3 ∷ []) ∷ wrong (4 ∷ 0 ∷ 0 ∷ 0 ∷ 0 ∷ 0 ∷ []) ∷ wrong (0 ∷ 0 ∷ 0 ∷ 0 ∷ 0 ∷ 4 ∷ []) ∷ []

-- one pointer, one held offer and one note, behind an entry with none
abbrev tables : Hint → Offer → ℕ → Tables
tables h o d =
    record {
      hintprocessors = 0 ∷ h.processor.0 ∷ [];
      hintmoves = 0 ∷ h.moves ∷ [];
      heldprocessors = 0 ∷ o.processor.0 ∷ [];
      heldnumbers = 0 ∷ o.number ∷ [];
      notes = 0 ∷ d ∷ [];
    }

unfoldable pub tables_samples : List (Sample Tables)
tables_samples =
    fine (tables (hint (processor_id 2) 9999) (offer (processor_id 2) 64) 2)
    ∷ wrong (tables (hint (processor_id 3) 1) no_offer 0) ∷ wrong (tables unknown (offer (processor_id 2) 65) 0) ∷ wrong (tables unknown no_offer 3) ∷ []

-- one channel behind one that was not used: "the number called (0 to 64)", a carried offer, a travelling pointer
abbrev channels : ℕ → Offer → Hint → Channels
channels w o h =
    record {
      granted = 0 ∷ w ∷ [];
      awaiting = false ∷ true ∷ [];
      carriedprocessors = 0 ∷ o.processor.0 ∷ [];
      carriednumbers = 0 ∷ o.number ∷ [];
      travellingprocessors = 0 ∷ h.processor.0 ∷ [];
      travellingmoves = 0 ∷ h.moves ∷ [];
    }

unfoldable pub channels_samples : List (Sample Channels)
channels_samples =
    fine (channels 64 (offer (processor_id 2) 64) (hint (processor_id 2) 9999))
    ∷ wrong (channels 65 no_offer unknown) ∷ wrong (channels 0 (offer (processor_id 0) 1) unknown) ∷ wrong (channels 0 no_offer (hint (processor_id 1) 0)) ∷ []

-- a mover letter for task t and an unused slot, with a count of letters
abbrev network : ℕ → ℕ → Network
network t n = record { slots = slot (Migration (processor_id 2) (task_id t)) ∷ no_slot ∷ []; used = n }

-- "256 letters in the mail"; only those in use are looked at
unfoldable pub network_samples : List (Sample Network)
network_samples = fine (network 4 0) ∷ fine (network 3 1) ∷ wrong (network 4 1) ∷ wrong (network 3 2) ∷ []
