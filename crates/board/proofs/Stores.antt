-- What is read from a board and stored on it, and a cell stored column by column.
use mathlib.Core.Path.{◌≡◌, refl, sym, ap, ◌∙◌}
use mathlib.Core.Bool.{Bool, true, false}
use mathlib.Core.List.{List}
use Prim.Native.Nat.{ℕ, ◌+◌, ◌*◌, ◌/◌, ◌%◌, ◌-◌, ◌<◌, ◌≤◌}
use native.Mathlib.Omega.{arith}
use lib.Dec.{eqb}
use lib.ListN.{get_or, set, length, length-set}
use lib.Seq.{set-get_or}
use borrow.Author.Tests.{ne_eqb}
use Rattle.plan.specs.declared.ProcessorId.{ProcessorId}
use Rattle.plan.specs.declared.ChannelId.{ChannelId}
use Rattle.plan.specs.declared.TaskId.{TaskId}
use Rattle.plan.specs.declared.Word.{Word}
use Rattle.rules.specs.declared.channel.Channel.{Channel}
use Rattle.rules.specs.declared.channel.Cell.{Cell}
use Rattle.rules.specs.declared.system.Channels.{Channels}
use Rattle.rules.specs.declared.task.Task.{Task}
use Rattle.rules.specs.declared.task.TaskState.{TaskState}
use Rattle.rules.specs.declared.task.TaskState.TheVariants.{Unborn, Ready, Waiting, Sending, Receiving, Moving, Done}
use Rattle.rules.specs.declared.channel.Hint.{Hint}
use Rattle.rules.specs.Cells.{with_noted}
use Rattle.rules.specs.Tasks.{no_task}
use Rattle.rules.specs.Systems.{entry_index, parent_index, read_channel, write_channel, store, cell_stored, task_in}
use Rattle.rules.specs.Starts.{pointing}
use Rattle.rig_parts.specs.Sweeps.{parent_in}
use Rattle.board.specs.packing.Packed.{hint_of, hint_word, task_of, task_word, word_of, word_number, first_number, state_of, state_number, channel_of, channel_word, travelling_word, low16, byte2, byte3, byte4, byte5, mark6, bit}
use Rattle.board.specs.Lent.{lent, channel_column, channels_on, records_on, ready_on, tasks_on, parent_column, parents_on, store_of, hint_in, held_in, note_in, SameAbove, ChannelPut, ParentPut, travels}
use Rattle.board.proofs.Laws.{get_d_channel, set_channel, keep_channel_above, get_d_task, set_task, keep_ready, keep_tasks, keep_tasks_above, get_d_parent, set_parent, keep_parent, keep_parents}

pub task_read : (board : List ℕ) (n : ℕ) {m : ℕ} → m ≡ n → 1 ≤ n → n ≤ 64
    → task_of (get_or board (126 + 2 * m) 0) (get_or board (126 + 2 * m + 1) 0) (get_or board (255 + m) 0) ≡ get_or (tasks_on board).records (n - 1) no_task
unfolding tasks_on
task_read board n {m} e one most =
    let a : 126 + 2 * m ≡ 128 + 2 * (n - 1) = omega arith in
    let b : 126 + 2 * m + 1 ≡ 129 + 2 * (n - 1) = omega arith in
    let d : 255 + m ≡ 256 + (n - 1) = omega arith in
    rw b (rw a (rw d (sym (get_d_task board (n - 1) no_task (omega arith)))))

-- its word
pub word_read : (board : List ℕ) (t : TaskId) {m : ℕ} → m ≡ t.0 → 1 ≤ t.0 → t.0 ≤ 64 → (task_in (tasks_on board) t).word ≡ word_of (get_or board (255 + m) 0)
unfolding task_in task_of tasks_on
word_read board t {m} e one most =
    let d : 255 + m ≡ 256 + (t.0 - 1) = omega arith in
    rw (ne_eqb t.0 0 (λ q. omega arith), get_d_task board (t.0 - 1) no_task (omega arith), d) refl

state_below : (s : TaskState) → state_number s < 128
state_below Unborn = omega arith
state_below Ready = omega arith
state_below Waiting = omega arith
state_below Sending = omega arith
state_below Receiving = omega arith
state_below Moving = omega arith
state_below Done = omega arith

state_of_number : (s : TaskState) → state_of (state_number s) ≡ s
state_of_number Unborn = refl
state_of_number Ready = refl
state_of_number Waiting = refl
state_of_number Sending = refl
state_of_number Receiving = refl
state_of_number Moving = refl
state_of_number Done = refl

abbrev pub NarrowWord : Word → Type 0
NarrowWord w = (w.0 < 65536) × (w.1 < 65536) × (w.2 < 65536) × (w.3 < 65536)

abbrev pub NarrowTask : Task → Type 0
NarrowTask x = (x.processor.0 < 256) × (x.pc < 256) × (x.origin.processor.0 < 256) × (x.origin.moves < 65536) × (x.moves < 65536) × NarrowWord x.word

same_word_lem : (w : Word) → NarrowWord w → word_of (word_number w) ≡ w
unfolding word_of
same_word_lem w n = rw (p0, p1, p2, p3) refl
  where
    p0 : word_number w % 65536 ≡ w.0
    p0 = omega (arith, n)

    p1 : word_number w / 65536 % 65536 ≡ w.1
    p1 = omega (arith, n)

    p2 : word_number w / 4294967296 % 65536 ≡ w.2
    p2 = omega (arith, n)

    p3 : word_number w / 281474976710656 % 65536 ≡ w.3
    p3 = omega (arith, n)

bit_below : (b : Bool) → bit b < 2
bit_below true = omega arith
bit_below false = omega arith

bit_of_mark : (b : Bool) → eqb (bit b) 1 ≡ b
bit_of_mark true = refl
bit_of_mark false = refl

pub same_task_lem : (x : Task) → NarrowTask x → task_of (task_word x) x.children (word_number x.word) ≡ x
unfolding task_of
same_task_lem x n =
    rw (p0, p1, p2, p3, p4, p5, p6, state_of_number x.state, bit_of_mark x.overflow, same_word_lem x.word n.5) refl
  where
    p0 : task_word x % 128 ≡ state_number x.state
    p0 = omega (arith, state_below x.state, bit_below x.overflow, n)

    p1 : task_word x / 256 % 256 ≡ x.processor.0
    p1 = omega (arith, state_below x.state, bit_below x.overflow, n)

    p2 : task_word x / 65536 % 256 ≡ x.pc
    p2 = omega (arith, state_below x.state, bit_below x.overflow, n)

    p3 : task_word x / 16777216 % 256 ≡ x.origin.processor.0
    p3 = omega (arith, state_below x.state, bit_below x.overflow, n)

    p4 : task_word x / 4294967296 % 65536 ≡ x.origin.moves
    p4 = omega (arith, state_below x.state, bit_below x.overflow, n)

    p5 : task_word x / 128 % 2 ≡ bit x.overflow
    p5 = omega (arith, state_below x.state, bit_below x.overflow, n)

    p6 : task_word x / 281474976710656 % 65536 ≡ x.moves
    p6 = omega (arith, state_below x.state, bit_below x.overflow, n)

-- a number whose levels above 0 are those of w, with another level 0
pub first_number_lem : (v : ℕ) (w : Word) → SameAbove (word_of v) w → first_number v w.0 ≡ word_number w
unfolding word_of
first_number_lem v w s =
    let a = s.0 in
    let b = s.1 in
    let c = s.2 in
    omega arith

module _ (board : List ℕ) (n : ℕ) (x : Task) {m w v : ℕ} (e : m ≡ n) (one : 1 ≤ n) (most : n ≤ 64) (long : length board ≡ 1094) (we : w ≡ task_word x) (ve : v ≡ word_number x.word) (small : NarrowTask x) where
  abbrev after : List ℕ
  after = set (set (set board (126 + 2 * m) w) (126 + 2 * m + 1) x.children) (255 + m) v

  pub task_written : records_on after ≡ set (records_on board) (n - 1) x
  task_written =
      let a : 126 + 2 * m ≡ 128 + 2 * (n - 1) = omega arith in
      let b : 126 + 2 * m + 1 ≡ 129 + 2 * (n - 1) = omega arith in
      let d : 255 + m ≡ 256 + (n - 1) = omega arith in
      rw d (rw b (rw a (set_task board (n - 1) w x.children v (omega arith) long x (rw (we, ve) (same_task_lem x small)))))

  pub ready_kept : ready_on after ≡ ready_on board
  ready_kept =
      keep_ready (set (set board (126 + 2 * m) w) (126 + 2 * m + 1) x.children) (255 + m) v (omega arith)
      ∙ keep_ready (set board (126 + 2 * m) w) (126 + 2 * m + 1) x.children (omega arith)
      ∙ keep_ready board (126 + 2 * m) w (omega arith)

  kept : {A : Type 0} (f : ℕ → A) → channel_column f after ≡ channel_column f board
  kept f =
      keep_channel_above f (set (set board (126 + 2 * m) w) (126 + 2 * m + 1) x.children) (255 + m) v (omega arith)
      ∙ keep_channel_above f (set board (126 + 2 * m) w) (126 + 2 * m + 1) x.children (omega arith)
      ∙ keep_channel_above f board (126 + 2 * m) w (omega arith)

  pub channels_kept : channels_on after ≡ channels_on board
  unfolding channels_on
  channels_kept = rw (kept byte5, kept mark6, kept byte3, kept byte4, kept byte2, kept low16) refl

  pub parents_kept : parents_on after ≡ parents_on board
  parents_kept =
      keep_parents (set (set board (126 + 2 * m) w) (126 + 2 * m + 1) x.children) (255 + m) v (omega arith)
      ∙ keep_parents (set board (126 + 2 * m) w) (126 + 2 * m + 1) x.children (omega arith)
      ∙ keep_parents board (126 + 2 * m) w (omega arith)

pub channel_read : (board : List ℕ) (k : ℕ) → k < 128 → channel_of (get_or board k 0) ≡ read_channel (channels_on board) k
unfolding channels_on channel_of
channel_read board k h =
    rw
    (get_d_channel byte5 board k 0 h, get_d_channel mark6 board k false h, get_d_channel byte3 board k 0 h, get_d_channel byte4 board k 0 h, get_d_channel byte2 board k 0 h, get_d_channel low16 board k 0 h)
    refl

abbrev pub NarrowChannel : Channel → Type 0
NarrowChannel y = (y.travelling.moves < 65536) × (y.travelling.processor.0 < 256) × (y.carried.processor.0 < 256) × (y.carried.number < 256) × (y.granted < 256)

mark_of : (a : ℕ) (b : Bool) → a < 281474976710656 → mark6 (a + 281474976710656 * bit b) ≡ b
mark_of a true h = let e : (a + 281474976710656 * 1) / 281474976710656 % 2 ≡ 1 = omega arith in rw e refl
mark_of a false h = let e : (a + 281474976710656 * 0) / 281474976710656 % 2 ≡ 0 = omega arith in rw e refl

module _ (board : List ℕ) (k : ℕ) (y : Channel) {w : ℕ} (most : k < 128) (long : length board ≡ 1094) (we : w ≡ channel_word y) (small : NarrowChannel y) where
  column : {A : Type 0} (f : ℕ → A) (v def : A) → f (channel_word y) ≡ v → channel_column f (set board k w) ≡ set (channel_column f board) k v
  column f v def q = set_channel f board k w v def most (omega arith) (ap f we ∙ q)

  granted_of : (b : Bool) → byte5 (y.travelling.moves + 65536 * y.travelling.processor.0 + 16777216 * y.carried.processor.0 + 4294967296 * y.carried.number + 1099511627776 * y.granted + 281474976710656 * bit b) ≡ y.granted
  granted_of true = omega arith
  granted_of false = omega arith

  channel_written : channels_on (set board k w) ≡ write_channel (channels_on board) k y
  unfolding channels_on
  channel_written =
      rw
      (column byte5 y.granted 0 (granted_of y.awaiting), column mark6 y.awaiting false (mark_of _ y.awaiting (omega arith)), column byte3 y.carried.processor.0 0 (omega arith), column byte4 y.carried.number 0 (omega arith), column byte2 y.travelling.processor.0 0 (omega arith), column low16 y.travelling.moves 0 (omega arith))
      refl

  pub channel_put : ChannelPut k y board (set board k w)
  channel_put = (simp (length-set, long), channel_written, keep_tasks board k w most, keep_parents board k w (omega arith))

-- the travelling pointer of a channel's own entry is stored, in the lowest 24 bits; the bits above them stay
module _ (v p m : ℕ) (pe : p < 256) (me : m < 65536) where
  abbrev anew : ℕ
  anew = 16777216 * (v / 16777216) + (65536 * p + m)

  above5 : byte5 anew ≡ byte5 v
  above5 = omega arith

  above6 : mark6 anew ≡ mark6 v
  above6 = let e : anew / 281474976710656 % 2 ≡ v / 281474976710656 % 2 = omega arith in rw e refl

  above3 : byte3 anew ≡ byte3 v
  above3 = omega arith

  above4 : byte4 anew ≡ byte4 v
  above4 = omega arith

  toward : byte2 anew ≡ p
  toward = omega arith

  counted : low16 anew ≡ m
  counted = omega arith

module _ (board : List ℕ) (k : ℕ) (h : Hint) {w : ℕ} (most : k < 128) (long : length board ≡ 1094) (we : w ≡ travelling_word (get_or board k 0) h) (pe : h.processor.0 < 256) (me : h.moves < 65536) where
  stays : {A : Type 0} (f : ℕ → A) (def : A) → f (travelling_word (get_or board k 0) h) ≡ f (get_or board k 0) → channel_column f (set board k w) ≡ set (channel_column f board) k (get_or (channel_column f board) k def)
  stays f def q = set_channel f board k w (get_or (channel_column f board) k def) def most (omega arith) (ap f we ∙ q ∙ sym (get_d_channel f board k def most))

  becomes : (f : ℕ → ℕ) (v : ℕ) → f (travelling_word (get_or board k 0) h) ≡ v → channel_column f (set board k w) ≡ set (channel_column f board) k v
  becomes f v q = set_channel f board k w v 0 most (omega arith) (ap f we ∙ q)

  travelling_written : channels_on (set board k w) ≡ write_channel (channels_on board) k (travels (read_channel (channels_on board) k) h)
  unfolding channels_on
  travelling_written =
      let v = get_or board k 0 in
      let p = h.processor.0 in
      let m = h.moves in
      rw
      (stays byte5 0 (above5 v p m pe me), stays mark6 false (above6 v p m pe me), stays byte3 0 (above3 v p m pe me), stays byte4 0 (above4 v p m pe me), becomes byte2 p (toward v p m pe me), becomes low16 m (counted v p m pe me))
      refl

  pub travelling_put : ChannelPut k (travels (read_channel (channels_on board) k) h) board (set board k w)
  travelling_put = (simp (length-set, long), travelling_written, keep_tasks board k w most, keep_parents board k w (omega arith))

-- a number behind the channels is stored
pub channels_above : (board : List ℕ) (i w : ℕ) → 128 ≤ i → channels_on (set board i w) ≡ channels_on board
unfolding channels_on
channels_above board i w h =
    rw (
      keep_channel_above byte5 board i w h,
      keep_channel_above mark6 board i w h,
      keep_channel_above byte3 board i w h,
      keep_channel_above byte4 board i w h,
      keep_channel_above byte2 board i w h,
      keep_channel_above low16 board i w h,
    )
    refl

-- what a desk keeps for a parent is read
pub parent_read : (board : List ℕ) (d : ProcessorId) (t : TaskId) {i : ℕ} → i ≡ parent_index d t → i < 384
    → record { hint = hint_of (get_or board (320 + 2 * i) 0); held = get_or board (320 + 2 * i + 1) 0 } ≡ parent_in (parents_on board) d t
unfolding parents_on
parent_read board d t {i} e h =
    let a : 320 + 2 * i + 1 ≡ 321 + 2 * i = omega arith in
    rw (← e, a, get_d_parent byte2 320 board i 0 h, get_d_parent low16 320 board i 0 h, get_d_parent (λ v. v) 321 board i 0 h) refl

-- and stored: the pointer, and the children that are held
module _ (board : List ℕ) (d : ProcessorId) (t : TaskId) {i w : ℕ} (e : i ≡ parent_index d t) (most : i < 384) (long : length board ≡ 1094) where
  module _ (h : Hint) (we : w ≡ hint_word h) (pe : h.processor.0 < 256) (me : h.moves < 65536) where
    abbrev pointed : List ℕ
    pointed = set board (320 + 2 * i) w

    pointed_toward : parent_column byte2 320 pointed ≡ set (parent_column byte2 320 board) i h.processor.0
    pointed_toward = set_parent byte2 320 board i w h.processor.0 most (omega arith) (rw we (omega arith))

    pointed_moves : parent_column low16 320 pointed ≡ set (parent_column low16 320 board) i h.moves
    pointed_moves = set_parent low16 320 board i w h.moves most (omega arith) (rw we (omega arith))

    pointed_held : parent_column (λ v. v) 321 pointed ≡ parent_column (λ v. v) 321 board
    pointed_held = keep_parent (λ v. v) 321 board (320 + 2 * i) w (λ j b (q : 321 + 2 * j ≡ 320 + 2 * i). omega arith)

    -- the pointer alone
    pub pointer_put : ParentPut d t (pointing (parent_in (parents_on board) d t) h) board pointed
    unfolding parents_on
    pointer_put =
        (simp (length-set, long), rw (← e, pointed_toward, pointed_moves, pointed_held, set-get_or (parent_column (λ v. v) 321 board) i 0) refl, keep_tasks_above board (320 + 2 * i) w (omega arith) (omega arith), channels_above board (320 + 2 * i) w (omega arith))

    -- both
    pub parent_put : (s : ℕ) → ParentPut d t (record { hint = h; held = s }) board (set pointed (320 + 2 * i + 1) s)
    unfolding parents_on
    parent_put s =
        let a : 320 + 2 * i + 1 ≡ 321 + 2 * i = omega arith in
        let beside : (f : ℕ → ℕ) → parent_column f 320 (set pointed (321 + 2 * i) s) ≡ parent_column f 320 pointed =
        λ f. keep_parent f 320 pointed (321 + 2 * i) s (λ j b (q : 320 + 2 * j ≡ 321 + 2 * i). omega arith) in
        let held : parent_column (λ v. v) 321 (set pointed (321 + 2 * i) s) ≡ set (parent_column (λ v. v) 321 pointed) i s =
        set_parent (λ v. v) 321 pointed i s s most (rw (length-set board (320 + 2 * i) w, long) (omega arith)) refl in
        rw a
        (simp (length-set, long), rw (← e, beside byte2, beside low16, held, pointed_toward, pointed_moves, pointed_held) refl, keep_tasks_above pointed (321 + 2 * i) s (omega arith) (omega arith) ∙ keep_tasks_above board (320 + 2 * i) w (omega arith) (omega arith), channels_above pointed (321 + 2 * i) s (omega arith) ∙ channels_above board (320 + 2 * i) w (omega arith))

-- a cell is stored where each column has what it leaves there: a column that it leaves as it was need not be written (`set-get_or`)
module _ (hp hm op on notes : List ℕ) (k : Channels) (d : ProcessorId) (c : ChannelId) (x : Cell) {hp' hm' op' on' notes' : List ℕ} {k' : Channels} where
  pub columns_stored : set hp (entry_index d c) x.entry.hint.processor.0 ≡ hp' → set hm (entry_index d c) x.entry.hint.moves ≡ hm'
      → set op (entry_index d c) x.entry.held.processor.0 ≡ op' → set on (entry_index d c) x.entry.held.number ≡ on'
      → set notes (entry_index d c) x.entry.noted.0 ≡ notes' → write_channel k (c.0 - 1) x.channel ≡ k'
      → store (record { hintprocessors = hp'; hintmoves = hm'; heldprocessors = op'; heldnumbers = on'; notes = notes' }) k'
      ≡ cell_stored (store (record { hintprocessors = hp; hintmoves = hm; heldprocessors = op; heldnumbers = on; notes = notes }) k) d c x
  columns_stored e f g h i j = rw (e, f, g, h, i, j) refl

-- a send and an offer: the pointer and the note stay
pub held_stored : (hp hm op on notes board two board' : List ℕ) (d : ProcessorId) (c : ChannelId) (x : Cell) {op' on' : List ℕ} → x.entry.hint ≡ hint_in hp hm d c
    → (op' ≡ set op (entry_index d c) x.entry.held.processor.0) × (on' ≡ set on (entry_index d c) x.entry.held.number)
    → channels_on two ≡ channels_on board → channels_on board' ≡ write_channel (channels_on two) (c.0 - 1) x.channel
    → store_of (lent hp hm op' on' notes board') ≡ cell_stored (store_of (lent hp hm op on notes board)) d c (with_noted x (note_in notes d c))
held_stored hp hm op on notes board two board' d c x eh es ek ew =
    let i = entry_index d c in
    columns_stored hp hm op on notes (channels_on board) d c (with_noted x (note_in notes d c))
    (ap (λ (z : Hint). set hp i z.processor.0) eh ∙ set-get_or hp i 0)
    (ap (λ (z : Hint). set hm i z.moves) eh ∙ set-get_or hm i 0)
    (sym es.0)
    (sym es.1)
    (set-get_or notes i 0)
    (ap (λ (k : Channels). write_channel k (c.0 - 1) x.channel) (sym ek) ∙ sym ew)

-- a receive and an advert: the note and the channel are stored, pointer and held offer stay
pub note_stored : (hp hm op on notes board : List ℕ) (d : ProcessorId) (c : ChannelId) (n : ProcessorId) (y : Channel) {notes' : List ℕ} (board' : List ℕ)
    → notes' ≡ set notes (entry_index d c) n.0
    → channels_on board' ≡ write_channel (channels_on board) (c.0 - 1) y
    → store_of (lent hp hm op on notes' board')
    ≡ cell_stored (store_of (lent hp hm op on notes board)) d c (record { entry = record { hint = hint_in hp hm d c; held = held_in op on d c; noted = n }; channel = y })
note_stored hp hm op on notes board d c n y board' en ey =
    let i = entry_index d c in
    columns_stored hp hm op on notes (channels_on board) d c (record { entry = record { hint = hint_in hp hm d c; held = held_in op on d c; noted = n }; channel = y })
    (set-get_or hp i 0) (set-get_or hm i 0) (set-get_or op i 0) (set-get_or on i 0) (sym en) (sym ey)
