-- What a run lends: five tables of 768 entries, as the rig struct has them, and a board of 1094 numbers: channel c's own entry at c - 1,
-- task t at 126 + 2 t and behind it its children, its word at 255 + t; what desk d keeps for parent t, entry i of 384, at 320 + 2 i its
-- pointer and behind it the children that are held; desk d's set of ready tasks at 1087 + d.
use Rattle.std.specs.Prelude.{List, ◌≡◌, ℕ, suc, ◌+◌, ◌*◌, ◌≤◌, eqb, get_or, set, length}
use Rattle.base.specs.Choice.{pick}
use Rattle.base.specs.Lists.{table}
use Rattle.base.specs.Sets.{inserted, removed}
use Rattle.plan.specs.declared.ProcessorId.{ProcessorId}
use Rattle.plan.specs.declared.ChannelId.{ChannelId}
use Rattle.plan.specs.declared.TaskId.{TaskId}
use Rattle.plan.specs.declared.Word.{Word}
use Rattle.rules.specs.declared.channel.Channel.{Channel}
use Rattle.rules.specs.declared.channel.Hint.{Hint}
use Rattle.rules.specs.declared.channel.Offer.{Offer}
use Rattle.rules.specs.declared.task.Task.{Task}
use Rattle.rules.specs.declared.system.TaskTable.{TaskTable}
use Rattle.rules.specs.declared.system.Channels.{Channels}
use Rattle.rules.specs.declared.system.Parents.{Parents}
use Rattle.rules.specs.declared.system.ParentEntry.{ParentEntry}
use Rattle.rules.specs.declared.system.Store.{Store}
use Rattle.rules.specs.Numbers.{processor_id}
use Rattle.rules.specs.Cells.{hint, offer}
use Rattle.rules.specs.Systems.{entry_index, write_channel, store, task_stored}
use Rattle.rig_parts.specs.declared.kept.Kept.{Kept}
use Rattle.rig_parts.specs.Sweeps.{parent_stored}
use Rattle.board.specs.packing.Packed.{low16, byte2, byte3, byte4, byte5, mark6, task_of}

-- all that is lent to be written, in the order of the parameters
pub record Lent : Type 0 where
  pub hintprocessors : List ℕ
  pub hintmoves : List ℕ
  pub heldprocessors : List ℕ
  pub heldnumbers : List ℕ
  pub notes : List ℕ
  pub board : List ℕ

abbrev pub lent : List ℕ → List ℕ → List ℕ → List ℕ → List ℕ → List ℕ → Lent
lent hintprocessors hintmoves heldprocessors heldnumbers notes board =
    record { hintprocessors = hintprocessors; hintmoves = hintmoves; heldprocessors = heldprocessors; heldnumbers = heldnumbers; notes = notes; board = board }

-- the board has all its numbers; of the tables no length is needed: they are columns as they are
abbrev pub Whole : List ℕ → Type 0
Whole board = length board ≡ 1094

unfoldable pub channel_column : {A : Type 0} → (ℕ → A) → List ℕ → List A
channel_column f board = table 128 (λ k. f (get_or board k 0))

unfoldable pub channels_on : List ℕ → Channels
channels_on board =
    record {
      granted = channel_column byte5 board;
      awaiting = channel_column mark6 board;
      carriedprocessors = channel_column byte3 board;
      carriednumbers = channel_column byte4 board;
      travellingprocessors = channel_column byte2 board;
      travellingmoves = channel_column low16 board;
    }

-- task k + 1
abbrev pub task_on : List ℕ → ℕ → Task
task_on board k = task_of (get_or board (128 + 2 * k) 0) (get_or board (129 + 2 * k) 0) (get_or board (256 + k) 0)

unfoldable pub records_on : List ℕ → List Task
records_on board = table 64 (task_on board)

-- the set of the desk after k others
abbrev pub set_on : List ℕ → ℕ → ℕ
set_on board k = get_or board (1088 + k) 0

unfoldable pub ready_on : List ℕ → List ℕ
ready_on board = table 6 (set_on board)

unfoldable pub tasks_on : List ℕ → TaskTable
tasks_on board = record { records = records_on board; ready = ready_on board }

-- what desks keep for parents, column by column; the held children are a number as it is
unfoldable pub parent_column : (ℕ → ℕ) → ℕ → List ℕ → List ℕ
parent_column f start board = table 384 (λ k. f (get_or board (start + 2 * k) 0))

unfoldable pub parents_on : List ℕ → Parents
parents_on board = record { hintprocessors = parent_column byte2 320 board; hintmoves = parent_column low16 320 board; held = parent_column (λ v. v) 321 board }

abbrev pub tasks_of : Lent → TaskTable
tasks_of l = tasks_on l.board

abbrev pub store_of : Lent → Store
store_of l =
    store (record { hintprocessors = l.hintprocessors; hintmoves = l.hintmoves; heldprocessors = l.heldprocessors; heldnumbers = l.heldnumbers; notes = l.notes }) (channels_on l.board)

-- what is kept for channels and for parents
abbrev pub kept_of : Lent → Kept
kept_of l = record { store = store_of l; parents = parents_on l.board }

-- desk d is one of six, and t one of 64 tasks or none
pub record AtParent (d : ProcessorId) (t : TaskId) : Type 0 where
  pub processor_low : 1 ≤ d.0
  pub processor : d.0 ≤ 6
  pub task : t.0 ≤ 64

-- desk d is one of six, and channel c one of 128
pub record AtCell (d : ProcessorId) (c : ChannelId) : Type 0 where
  pub processor_low : 1 ≤ d.0
  pub processor : d.0 ≤ 6
  pub channel_low : 1 ≤ c.0
  pub channel : c.0 ≤ 128

-- what is at i
abbrev pub hint_entry : List ℕ → List ℕ → ℕ → Hint
hint_entry hintprocessors hintmoves i = hint (processor_id (get_or hintprocessors i 0)) (get_or hintmoves i 0)

abbrev pub held_entry : List ℕ → List ℕ → ℕ → Offer
held_entry heldprocessors heldnumbers i = offer (processor_id (get_or heldprocessors i 0)) (get_or heldnumbers i 0)

-- what desk d keeps for channel c
abbrev pub hint_in : List ℕ → List ℕ → ProcessorId → ChannelId → Hint
hint_in hintprocessors hintmoves d c = hint_entry hintprocessors hintmoves (entry_index d c)

abbrev pub held_in : List ℕ → List ℕ → ProcessorId → ChannelId → Offer
held_in heldprocessors heldnumbers d c = held_entry heldprocessors heldnumbers (entry_index d c)

abbrev pub note_in : List ℕ → ProcessorId → ChannelId → ProcessorId
note_in notes d c = processor_id (get_or notes (entry_index d c) 0)

-- a channel's own entry with another travelling pointer
abbrev pub travels : Channel → Hint → Channel
travels y h = record { granted = y.granted; awaiting = y.awaiting; carried = y.carried; travelling = h }

-- at i a pointer was stored, a held offer, and on the board a task and a channel's own entry
abbrev pub HintPut : ℕ → Hint → List ℕ → List ℕ → List ℕ → List ℕ → Type 0
HintPut i h hintprocessors hintmoves hintprocessors' hintmoves' = (hintprocessors' ≡ set hintprocessors i h.processor.0) × (hintmoves' ≡ set hintmoves i h.moves)

abbrev pub HeldPut : ℕ → Offer → List ℕ → List ℕ → List ℕ → List ℕ → Type 0
HeldPut i o heldprocessors heldnumbers heldprocessors' heldnumbers' = (heldprocessors' ≡ set heldprocessors i o.processor.0) × (heldnumbers' ≡ set heldnumbers i o.number)

abbrev pub TaskPut : TaskId → Task → List ℕ → List ℕ → Type 0
TaskPut t x board board' =
    (Whole board') × (tasks_on board' ≡ task_stored (tasks_on board) t x) × (channels_on board' ≡ channels_on board) × (parents_on board' ≡ parents_on board)

-- two words differ on level 0 at most
abbrev pub SameAbove : Word → Word → Type 0
SameAbove w z = (w.1 ≡ z.1) × (w.2 ≡ z.2) × (w.3 ≡ z.3)

-- two records of a task are in the same state at the same desk
abbrev pub SameStanding : Task → Task → Type 0
SameStanding x y = (x.state ≡ y.state) × (x.processor ≡ y.processor)

-- desk d's set of ready tasks, where task t was ready at desk `was` and is at desk `is`
abbrev pub ready_moved : ℕ → ℕ → ℕ → ℕ → ℕ → ℕ
ready_moved t was is d s = pick (eqb was d) (pick (eqb is d) s (removed t s)) (pick (eqb is d) (inserted t s) s)

-- f of each desk was done to its set, and nothing else was changed on the board
pub record SetPut (f : ℕ → ℕ → ℕ) (board board' : List ℕ) : Type 0 where
  pub whole : Whole board'
  pub ready : ready_on board' ≡ table 6 (λ k. f (suc k) (set_on board k))
  pub records : records_on board' ≡ records_on board
  pub channels : channels_on board' ≡ channels_on board
  pub parents : parents_on board' ≡ parents_on board

abbrev pub ChannelPut : ℕ → Channel → List ℕ → List ℕ → Type 0
ChannelPut i y board board' =
    (Whole board') × (channels_on board' ≡ write_channel (channels_on board) i y) × (tasks_on board' ≡ tasks_on board) × (parents_on board' ≡ parents_on board)

-- what a desk keeps for a parent became e, on the board
abbrev pub ParentPut : ProcessorId → TaskId → ParentEntry → List ℕ → List ℕ → Type 0
ParentPut d t e board board' =
    (Whole board') × (parents_on board' ≡ parent_stored (parents_on board) d t e) × (tasks_on board' ≡ tasks_on board) × (channels_on board' ≡ channels_on board)
