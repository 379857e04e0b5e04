-- Entries of a board as numbers: they have 64 bits, and hold the entries that they were made of.
use mathlib.Core.Path.{◌≡◌, refl}
use mathlib.Core.Bool.{Bool, true, false}
use Prim.Native.Nat.{ℕ, ◌/◌, ◌%◌, ◌<◌}
use native.Mathlib.Omega.{arith}
use lib.Dec.{eqb}
use Rattle.rules.specs.declared.channel.Channel.{Channel}
use Rattle.rules.specs.declared.channel.Hint.{Hint}
use Rattle.rules.specs.declared.task.Task.{Task}
use Rattle.rules.specs.declared.task.TaskState.{TaskState}
use Rattle.rules.specs.declared.task.TaskState.TheVariants.{Unborn, Ready, Waiting, Sending, Receiving, Moving, Done}
use Rattle.board.specs.packing.Packed.{low16, byte2, byte3, byte4, byte5, mark6, bit, hint_of, hint_word, channel_of, channel_word, state_number, word_number, task_of, task_word}
use Rattle.board.proofs.Stores.{same_task_lem}
use Rattle.image_laws.specs.Held.{top64, HintFits, OfferFits, TaskFits}
use Rattle.image_laws.proofs.Letters.{word_fits_lem}

bit_below : (b : Bool) → bit b < 2
bit_below true = omega arith
bit_below false = omega arith

state_below : (s : TaskState) → state_number s < 128
state_below Unborn = omega arith
state_below Ready = omega arith
state_below Waiting = omega arith
state_below Sending = omega arith
state_below Receiving = omega arith
state_below Moving = omega arith
state_below Done = omega arith

-- a channel's own entry
pub record ChannelFits (y : Channel) : Type 0 where
  pub granted : y.granted < 256
  pub carried : OfferFits y.carried
  pub travelling : HintFits y.travelling

module _ (y : Channel) (f : ChannelFits y) where
  b : bit y.awaiting < 2
  b = bit_below y.awaiting

  pub channel_below : channel_word y < top64
  channel_below = omega (arith, b, f.granted, f.carried, f.travelling)

  pub granted_in : byte5 (channel_word y) ≡ y.granted
  granted_in = omega (arith, b, f.granted, f.carried, f.travelling)

  pub carried_desk_in : byte3 (channel_word y) ≡ y.carried.processor.0
  carried_desk_in = omega (arith, b, f.granted, f.carried, f.travelling)

  pub carried_number_in : byte4 (channel_word y) ≡ y.carried.number
  carried_number_in = omega (arith, b, f.granted, f.carried, f.travelling)

  pub travelling_desk_in : byte2 (channel_word y) ≡ y.travelling.processor.0
  travelling_desk_in = omega (arith, b, f.granted, f.carried, f.travelling)

  pub travelling_moves_in : low16 (channel_word y) ≡ y.travelling.moves
  travelling_moves_in = omega (arith, b, f.granted, f.carried, f.travelling)

  mark_number : channel_word y / 281474976710656 % 2 ≡ bit y.awaiting
  mark_number = omega (arith, b, f.granted, f.carried, f.travelling)

  pub mark_in : mark6 (channel_word y) ≡ y.awaiting
  mark_in = rw mark_number (again y.awaiting)
    where
      again : (a : Bool) → eqb (bit a) 1 ≡ a
      again true = refl
      again false = refl

pub channel_fits : (v : ℕ) → ChannelFits (channel_of v)
unfolding channel_of
channel_fits v = record { granted = omega arith; carried = (omega arith, omega arith); travelling = (omega arith, omega arith) }

-- a pointer
module _ (h : Hint) (f : HintFits h) where
  pub hint_below : hint_word h < top64
  hint_below = omega (arith, f)

  pub hint_desk_in : byte2 (hint_word h) ≡ h.processor.0
  hint_desk_in = omega (arith, f)

  pub hint_moves_in : low16 (hint_word h) ≡ h.moves
  hint_moves_in = omega (arith, f)

pub hint_fits : (v : ℕ) → HintFits (hint_of v)
hint_fits v = (omega arith, omega arith)

-- a task
module _ (x : Task) (f : TaskFits x) where
  pub task_below : task_word x < top64
  task_below = omega (arith, state_below x.state, bit_below x.overflow, f.processor, f.pc, f.origin, f.moves)

  pub task_in_lem : task_of (task_word x) x.children (word_number x.word) ≡ x
  task_in_lem = same_task_lem x (f.processor, f.pc, f.origin.0, f.origin.1, f.moves, f.word)

pub task_fits : (v children w : ℕ) → children < top64 → TaskFits (task_of v children w)
unfolding task_of
task_fits v children w l =
    record { processor = omega arith; pc = omega arith; origin = (omega arith, omega arith); word = word_fits_lem w; moves = omega arith; children = l }
