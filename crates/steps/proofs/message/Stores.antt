-- A cell is stored where only the columns that a letter changes are written.
use mathlib.Core.Path.{◌≡◌, sym, ◌∙◌}
use mathlib.Core.List.{List}
use Prim.Native.Nat.{ℕ, ◌-◌}
use lib.ListN.{set}
use lib.Seq.{set-get_or}
use Rattle.plan.specs.declared.ProcessorId.{ProcessorId}
use Rattle.plan.specs.declared.ChannelId.{ChannelId}
use Rattle.rules.specs.declared.channel.Hint.{Hint}
use Rattle.rules.specs.declared.channel.Channel.{Channel}
use Rattle.rules.specs.declared.system.Channels.{Channels}
use Rattle.rules.specs.Systems.{entry_index, read_channel, write_channel, cell_stored}
use Rattle.board.specs.Lent.{lent, channels_on, store_of, hint_in, held_in, note_in}
use Rattle.board.proofs.Stores.{columns_stored, note_stored}

-- a channel's own entry that is stored as it is
channel_own : (k : Channels) (i : ℕ) → write_channel k i (read_channel k i) ≡ k
channel_own k i = simp set-get_or

module _ (hp hm op on notes board : List ℕ) (d : ProcessorId) (c : ChannelId) where
  -- the pointer is written
  pub hint_stored : (h : Hint) {hp' hm' : List ℕ} (board' : List ℕ)
      → (hp' ≡ set hp (entry_index d c) h.processor.0) × (hm' ≡ set hm (entry_index d c) h.moves)
      → channels_on board' ≡ channels_on board
      → store_of (lent hp' hm' op on notes board')
      ≡ cell_stored (store_of (lent hp hm op on notes board)) d c (record { entry = record { hint = h; held = held_in op on d c; noted = note_in notes d c }; channel = read_channel (channels_on board) (c.0 - 1) })
  hint_stored h board' eh ey =
      let i = entry_index d c in
      let own = read_channel (channels_on board) (c.0 - 1) in
      columns_stored hp hm op on notes (channels_on board) d c (record { entry = record { hint = h; held = held_in op on d c; noted = note_in notes d c }; channel = own })
      (sym eh.0) (sym eh.1) (set-get_or op i 0) (set-get_or on i 0) (set-get_or notes i 0) (channel_own (channels_on board) (c.0 - 1) ∙ sym ey)

  -- the channel is written
  pub own_stored : (y : Channel) (board' : List ℕ) → channels_on board' ≡ write_channel (channels_on board) (c.0 - 1) y
      → store_of (lent hp hm op on notes board')
      ≡ cell_stored (store_of (lent hp hm op on notes board)) d c (record { entry = record { hint = hint_in hp hm d c; held = held_in op on d c; noted = note_in notes d c }; channel = y })
  own_stored y board' ey = note_stored hp hm op on notes board d c (note_in notes d c) y board' (sym (set-get_or notes (entry_index d c) 0)) ey
