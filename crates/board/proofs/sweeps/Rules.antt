-- The rules for one channel of a task, done to what is lent: hp and hm are the pointers, op and on the held offers.
use mathlib.Core.Path.{◌≡◌, refl, sym, ◌∙◌, ap}
use mathlib.Core.List.{List}
use Prim.Native.Nat.{ℕ, ◌+◌, ◌*◌, ◌-◌, ◌<◌, ◌≤◌}
use borrow.Author.Tests.{lt-ltb, le-ltb}
use lib.ListN.{set}
use lib.Seq.{set-get_or}
use Rattle.plan.specs.declared.ProcessorId.{ProcessorId}
use Rattle.plan.specs.declared.ChannelId.{ChannelId}
use Rattle.rules.specs.declared.channel.Cell.{Cell}
use Rattle.rules.specs.declared.channel.Channel.{Channel}
use Rattle.rules.specs.declared.channel.Hint.{Hint}
use Rattle.rules.specs.declared.channel.Offer.{Offer}
use Rattle.rules.specs.Hints.{newer}
use Rattle.rules.specs.Cells.{hint, larger, no_offer, unknown, with_hint, with_held, with_carried, with_travelling}
use Rattle.rules.specs.Systems.{entry_index, read_channel, cell_in, cell_stored}
use Rattle.rules.specs.Starts.{located}
use Rattle.rules.specs.Arrivals.{taken_over, arrival_receiving, arrival_sending}
use Rattle.rules.specs.Moves.{departure_sending}
use Rattle.rig_parts.specs.declared.sweep.CellRule.{CellRule}
use Rattle.rig_parts.specs.declared.sweep.CellRule.TheVariants.{Locate, ArriveReceiving, ArriveSending, DepartSending}
use Rattle.rig_parts.specs.Sweeps.{rule_of, ruled_at}
use Rattle.board.specs.Lent.{Lent, Whole, lent, channels_on, store_of, hint_entry, held_entry, hint_in, held_in, note_in, HintPut, HeldPut, ChannelPut, travels}
use Rattle.board.specs.Acted.{StoredBy}
use Rattle.board.proofs.Stores.{columns_stored}

module _ (x : Cell) where
  -- the travelling pointer is newer; it is not
  newer_cell : x.entry.hint.moves < x.channel.travelling.moves → arrival_sending x ≡ with_travelling (with_hint x x.channel.travelling) unknown
  unfolding newer
  newer_cell h = rw (lt-ltb _ _ h) refl

  older_cell : x.channel.travelling.moves ≤ x.entry.hint.moves → arrival_sending x ≡ with_travelling x unknown
  unfolding newer
  older_cell h = rw (le-ltb _ _ h) refl

  module _ (d : ProcessorId) (n : ℕ) where
    -- the held offer counts and is larger than the carried one; it counts and is not larger; it does not count
    larger_cell : x.channel.granted < x.entry.held.number → x.channel.carried.number < x.entry.held.number
        → arrival_receiving d n x ≡ with_carried (with_held (located d n x) no_offer) x.entry.held
    unfolding taken_over larger
    larger_cell h g = rw (lt-ltb _ _ h, lt-ltb _ _ g) refl

    smaller_cell : x.channel.granted < x.entry.held.number → x.entry.held.number ≤ x.channel.carried.number
        → arrival_receiving d n x ≡ with_held (located d n x) no_offer
    unfolding taken_over larger
    smaller_cell h g = rw (lt-ltb _ _ h, le-ltb _ _ g) refl

    dropped_cell : x.entry.held.number ≤ x.channel.granted → arrival_receiving d n x ≡ with_held (located d n x) no_offer
    unfolding taken_over
    dropped_cell h = rw (le-ltb _ _ h) refl

-- an entry of a channel with another carried offer
abbrev carries : Channel → Offer → Channel
carries y o = record { granted = y.granted; awaiting = y.awaiting; carried = o; travelling = y.travelling }

module _ (hp hm op on notes board : List ℕ) (d : ProcessorId) (c : ChannelId) where
  -- what is lent, and what it has for desk d and channel c
  abbrev before : Lent
  before = lent hp hm op on notes board

  abbrev cell : Cell
  cell = cell_in (store_of before) d c

  -- what is not stored is as if it was stored with what is there
  hint_kept : HintPut (entry_index d c) (hint_in hp hm d c) hp hm hp hm
  hint_kept = (sym (set-get_or hp (entry_index d c) 0), sym (set-get_or hm (entry_index d c) 0))

  held_kept : HeldPut (entry_index d c) (held_in op on d c) op on op on
  held_kept = (sym (set-get_or op (entry_index d c) 0), sym (set-get_or on (entry_index d c) 0))

  channel_kept : Whole board → ChannelPut (c.0 - 1) cell.channel board board
  channel_kept w = (w, simp set-get_or, refl, refl)

  -- the rule makes x of the cell, and x is stored
  ruled : (rule : CellRule) (x : Cell) → rule_of rule cell ≡ x → x.entry.noted ≡ note_in notes d c → {hp' hm' op' on' board' : List ℕ}
      → HintPut (entry_index d c) x.entry.hint hp hm hp' hm' → HeldPut (entry_index d c) x.entry.held op on op' on' → ChannelPut (c.0 - 1) x.channel board board'
      → StoredBy (ruled_at rule d c) before (lent hp' hm' op' on' notes board')
  ruled rule x e n h o w =
      record {
        whole = w.0;
        tasks = w.2;
        store =
            columns_stored hp hm op on notes (channels_on board) d c x
            (sym h.0)
            (sym h.1)
            (sym o.0)
            (sym o.1)
            (ap (λ (z : ProcessorId). set notes (entry_index d c) z.0) n ∙ set-get_or notes (entry_index d c) 0)
            (sym w.1)
            ∙ ap (cell_stored (store_of before) d c) (sym e);
        parents = w.3;
      }

  -- a task that is born or leaves is located
  pub located_stored : (h : Hint) {hp' hm' : List ℕ} → Whole board → HintPut (entry_index d c) h hp hm hp' hm'
      → StoredBy (ruled_at (Locate h.processor h.moves) d c) before (lent hp' hm' op on notes board)
  located_stored h w p = ruled (Locate h.processor h.moves) (located h.processor h.moves cell) refl refl p held_kept (channel_kept w)

  -- the channel's own entry is at k, and the entry of desk d at i
  module _ {k i : ℕ} (ke : k ≡ c.0 - 1) (ie : i ≡ 128 * (d.0 - 1) + k) where
    entry : i ≡ entry_index d c
    entry = rw ke at ie

    -- the pointer travels with the sender
    pub departure_stored : (board' : List ℕ) {h : Hint} → h ≡ hint_entry hp hm i → ChannelPut k (travels (read_channel (channels_on board) k) h) board board'
        → StoredBy (ruled_at DepartSending d c) before (lent hp hm op on notes board')
    departure_stored board' he p = ruled DepartSending (departure_sending cell) refl refl hint_kept held_kept (rw (he, entry, ke) at p)

    -- the sender arrives: its travelling pointer h is newer; it is not
    module _ (board' : List ℕ) {h none own : Hint} (he : h ≡ (read_channel (channels_on board) k).travelling) (ne : none ≡ unknown) (oe : own ≡ hint_entry hp hm i) (p : ChannelPut k (travels (read_channel (channels_on board) k) none) board board') where
      pub newer_stored : own.moves < h.moves → {hp' hm' : List ℕ} → HintPut i h hp hm hp' hm'
          → StoredBy (ruled_at ArriveSending d c) before (lent hp' hm' op on notes board')
      newer_stored b q =
          ruled ArriveSending (with_travelling (with_hint cell cell.channel.travelling) unknown) (newer_cell cell (rw (he, oe, entry, ke) at b)) refl (rw (he, entry, ke) at q) held_kept (rw (ne, ke) at p)

      pub older_stored : h.moves ≤ own.moves → StoredBy (ruled_at ArriveSending d c) before (lent hp hm op on notes board')
      older_stored b =
          ruled ArriveSending (with_travelling cell unknown) (older_cell cell (rw (he, oe, entry, ke) at b)) refl hint_kept held_kept (rw (ne, ke) at p)

    -- the receiver arrives: the held offer counts and is larger than the carried one; it counts and is not larger; it does not count
    module _ {y : Channel} (ye : y ≡ read_channel (channels_on board) k) (n : ℕ) {hp' hm' op' on' : List ℕ} {none o : Offer} (oe : o ≡ held_entry op on i) (ne : none ≡ no_offer) (q : HintPut i (hint d n) hp hm hp' hm') (r : HeldPut i none op on op' on') where
      pub larger_stored : (board' : List ℕ) → y.granted < o.number → y.carried.number < o.number → ChannelPut k (carries y o) board board'
          → StoredBy (ruled_at (ArriveReceiving d n) d c) before (lent hp' hm' op' on' notes board')
      larger_stored board' a b p =
          ruled (ArriveReceiving d n) (with_carried (with_held (located d n cell) no_offer) cell.entry.held) (larger_cell cell d n (rw (ye, oe, entry, ke) at a) (rw (ye, oe, entry, ke) at b)) refl (rw entry at q) (rw (ne, entry) at r) (rw (ye, oe, entry, ke) at p)

      -- the carried offer stays
      left_stored : Whole board → arrival_receiving d n cell ≡ with_held (located d n cell) no_offer
          → StoredBy (ruled_at (ArriveReceiving d n) d c) before (lent hp' hm' op' on' notes board)
      left_stored w e = ruled (ArriveReceiving d n) (with_held (located d n cell) no_offer) e refl (rw entry at q) (rw (ne, entry) at r) (channel_kept w)

      pub smaller_stored : Whole board → y.granted < o.number → o.number ≤ y.carried.number
          → StoredBy (ruled_at (ArriveReceiving d n) d c) before (lent hp' hm' op' on' notes board)
      smaller_stored w a b = left_stored w (smaller_cell cell d n (rw (ye, oe, entry, ke) at a) (rw (ye, oe, entry, ke) at b))

      pub dropped_stored : Whole board → o.number ≤ y.granted → StoredBy (ruled_at (ArriveReceiving d n) d c) before (lent hp' hm' op' on' notes board)
      dropped_stored w a = left_stored w (dropped_cell cell d n (rw (ye, oe, entry, ke) at a))
