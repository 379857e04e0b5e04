-- What is read of a rig after it is changed.
use mathlib.Core.Path.{◌≡◌, refl, sym, ◌∙◌, ap, fun_ext}
use mathlib.Core.Bool.{Bool, true, false, not, ◌&&◌}
use mathlib.Core.List.{List, [], ◌∷◌, ◌++◌}
use mathlib.Core.Option.{some}
use mathlib.Core.Logic.{◌≢◌, by_cases}
use Prim.Native.Nat.{ℕ, zero, suc, ◌+◌, ◌-◌, ◌≤◌, ◌<◌}
use native.Mathlib.Omega.{arith}
use native.Mathlib.Decide.{ℕ_discrete}
use lib.Dec.{eqb}
use lib.ListN.{length, get_or, get_elem?, take, drop}
use borrow.Author.Tests.{eqb-false, ne_eqb, le-leb}
use Rattle.base.specs.Choice.{pick}
use Rattle.base.proofs.Choices.{pick_either}
use Rattle.base.proofs.Tests.{tests_differ, within_low, within_high, within_both}
use Rattle.base.proofs.Updates.{updated_same, updated_other}
use Rattle.plan.specs.declared.TaskId.{TaskId}
use Rattle.plan.specs.declared.ProcessorId.{ProcessorId}
use Rattle.plan.specs.declared.ChannelId.{ChannelId}
use Rattle.plan.specs.Numbers.{task_id, processor_id}
use Rattle.rules.specs.declared.task.Task.{Task}
use Rattle.rules.specs.declared.channel.Entry.{Entry}
use Rattle.rules.specs.declared.channel.Channel.{Channel}
use Rattle.rules.specs.declared.channel.Cell.{Cell}
use Rattle.rules.specs.declared.message.Message.{Message}
use Rattle.rules.specs.declared.message.Message.TheVariants.{Empty}
use Rattle.rules.specs.declared.message.Network.{Network}
use Rattle.rules.specs.declared.rule.Outcome.{Outcome}
use Rattle.rules.specs.declared.system.System.{System}
use Rattle.rules.specs.Numbers.{channel_number_ok, task_number_ok}
use Rattle.rules.specs.Networks.{messages, message_at, enqueued_all, dequeued, messages_of}
use Rattle.rules.specs.Systems.{with_network, task_at, with_task, entry_at, channel_at, cell_at, with_cell, parent_at, with_parent}
use Rattle.rules.specs.Effects.{Effect, completed, with_outcome, for_channels}
use Rattle.rules.specs.Tasks.{no_task}
use Rattle.rules_laws.specs.Shapes.{Shaped}
use Rattle.rules_laws.proofs.TaskAt.{with_task_processors, with_task_network, with_task_entry_at, with_task_channel_at, with_task_shaped, with_task_task_at}
use Rattle.rules_laws.proofs.TaskAt.{task_at_same, task_at_other, task_at_none}
use Rattle.rules_laws.proofs.CellAt.{with_cell_processors, with_cell_network, with_cell_task_at, with_cell_shaped, entry_at_same, channel_at_same}
use Rattle.rules_laws.proofs.CellAt.{entry_at_other_processor, entry_at_other_channel, channel_at_other}
use Rattle.rules_laws.proofs.ForChannels.{for_channels_processors, for_channels_network, for_channels_task_at, for_channels_elsewhere, for_channels_cell_at, for_channels_parent_at}
use Rattle.rules_laws.proofs.Messages.{length_messages, messages_enqueued_all, message_at_messages, messages_dequeued}
use Rattle.net.specs.States.{at_channel, at_task}
use Rattle.channel.specs.Updates.{at_number}
use Rattle.channel.specs.Bags.{without}
use Rattle.channel.proofs.Updates.{at_elim as at-number-elim}
use Rattle.transitions.specs.Readings.{Reading, reading, entry_of, channel_of, no_entry, no_channel, cell_of, with_task_read, with_messages_read, parent_entry_of, no_parent_entry, with_parent_read}
use Rattle.transitions.specs.Readings.{with_outcome_read, for_channels_read}
use Rattle.transitions.proofs.Updates.{at_elim, at_channel_elim}
use Rattle.rules.specs.declared.system.ParentEntry.{ParentEntry}
use Rattle.rules_laws.proofs.ParentAt.{with_task_parent_at, with_cell_parent_at, with_parent_processors, with_parent_task_at, with_parent_entry_at, with_parent_channel_at, with_parent_network, parent_at_same, parent_at_other_processor, parent_at_other_task}

-- a task that exists
pub record IsTask (t : TaskId) : Type 0 where
  pub low : 1 ≤ t.0
  pub high : t.0 ≤ 64

-- a channel at a desk
pub record IsCell (d : ProcessorId) (c : ChannelId) : Type 0 where
  pub processor : 1 ≤ d.0
  pub processor_few : d.0 ≤ 6
  pub low : 1 ≤ c.0
  pub high : c.0 ≤ 128

-- readings with the same parts
abbrev made : ℕ → (TaskId → Task) → (ChannelId → ℕ → Entry) → (ChannelId → Channel) → (TaskId → ℕ → ParentEntry) → List Message → Reading
made n t e k a l = record { processors = n; tasks = t; entries = e; channels = k; parents = a; messages = l }

made_same : {n m : ℕ} {t u : TaskId → Task} {e f : ChannelId → ℕ → Entry} {j k : ChannelId → Channel} {a b : TaskId → ℕ → ParentEntry} {l i : List Message}
    → n ≡ m → t ≡ u → e ≡ f → j ≡ k → a ≡ b → l ≡ i → made n t e j a l ≡ made m u f k b i
made_same p q r s o z = cc

readings_same : (x y : Reading) → x.processors ≡ y.processors → ((t : TaskId) → x.tasks t ≡ y.tasks t)
    → ((c : ChannelId) (d : ℕ) → x.entries c d ≡ y.entries c d) → ((c : ChannelId) → x.channels c ≡ y.channels c)
    → ((t : TaskId) (d : ℕ) → x.parents t d ≡ y.parents t d) → x.messages ≡ y.messages
    → x ≡ y
readings_same x y p t e k a l = made_same p (fun_ext t) (fun_ext λ c. fun_ext (e c)) (fun_ext k) (fun_ext λ u. fun_ext (a u)) l

-- a cell that is written
abbrev with_cell_read : Reading → ChannelId → ℕ → Cell → Reading
with_cell_read x c d y =
    let es = at_channel x.entries c (at_number (x.entries c) d y.entry) in
    made x.processors x.tasks es (at_channel x.channels c y.channel) x.parents x.messages

-- where there is a channel and a desk
module _ (r : System) (c : ChannelId) where
  pub entry_there : (d : ℕ) → 1 ≤ c.0 → c.0 ≤ 128 → 1 ≤ d → entry_of r c d ≡ entry_at r (processor_id d) c
  unfolding entry_of
  entry_there d cl ch dl = rw (within_both 1 128 c.0 cl ch, ne_eqb d 0 (λ e. omega arith)) refl

  pub channel_there_lem : 1 ≤ c.0 → c.0 ≤ 128 → channel_of r c ≡ channel_at r c
  unfolding channel_of
  channel_there_lem cl ch = rw (within_both 1 128 c.0 cl ch) refl

  cell_there : (d : ProcessorId) → IsCell d c → cell_at r d c ≡ record { entry = entry_of r c d.0; channel = channel_of r c }
  cell_there d is = rw (entry_there d.0 is.low is.high is.processor, channel_there_lem is.low is.high) refl

-- where there is a task and a desk
pub parent_there : (r : System) (t : TaskId) (d : ℕ) → IsTask t → 1 ≤ d → parent_entry_of r t d ≡ parent_at r (processor_id d) t
unfolding parent_entry_of
parent_there r t d is dl = rw (within_both 1 64 t.0 is.low is.high, ne_eqb d 0 (λ e. omega arith)) refl

-- entries and channels are read alike in two rigs where they are alike wherever there is a desk and a channel
module _ (q r : System) where
  entries_same : (c : ChannelId) (d : ℕ)
      → (1 ≤ c.0 → c.0 ≤ 128 → 1 ≤ d → entry_at q (processor_id d) c ≡ entry_at r (processor_id d) c) → entry_of q c d ≡ entry_of r c d
  unfolding entry_of
  entries_same c d same = go (channel_number_ok c) (eqb d 0) (λ h. within_low 1 128 c.0 h) (λ h. within_high 1 128 c.0 h) (eqb-false d 0)
    where
      go : (b z : Bool) → (b ≡ true → 1 ≤ c.0) → (b ≡ true → c.0 ≤ 128) → (z ≡ false → d ≢ 0)
          → pick (b && not z) (entry_at q (processor_id d) c) no_entry ≡ pick (b && not z) (entry_at r (processor_id d) c) no_entry
      go false z low high here = refl
      go true true low high here = refl
      go true false low high here = let ne = here refl in same (low refl) (high refl) (omega arith)

  channels_same : (c : ChannelId) → (1 ≤ c.0 → c.0 ≤ 128 → channel_at q c ≡ channel_at r c) → channel_of q c ≡ channel_of r c
  unfolding channel_of
  channels_same c same = go (channel_number_ok c) (λ h. within_low 1 128 c.0 h) (λ h. within_high 1 128 c.0 h)
    where
      go : (b : Bool) → (b ≡ true → 1 ≤ c.0) → (b ≡ true → c.0 ≤ 128) → pick b (channel_at q c) no_channel ≡ pick b (channel_at r c) no_channel
      go false low high = refl
      go true low high = same (low refl) (high refl)

  -- and so is what is kept for parents
  parents_same : (t : TaskId) (d : ℕ) → (IsTask t → 1 ≤ d → parent_at q (processor_id d) t ≡ parent_at r (processor_id d) t)
      → parent_entry_of q t d ≡ parent_entry_of r t d
  unfolding parent_entry_of
  parents_same t d same = go (task_number_ok 64 t) (eqb d 0) (λ h. within_low 1 64 t.0 h) (λ h. within_high 1 64 t.0 h) (eqb-false d 0)
    where
      go : (b z : Bool) → (b ≡ true → 1 ≤ t.0) → (b ≡ true → t.0 ≤ 64) → (z ≡ false → d ≢ 0)
          → pick (b && not z) (parent_at q (processor_id d) t) no_parent_entry ≡ pick (b && not z) (parent_at r (processor_id d) t) no_parent_entry
      go false z low high here = refl
      go true true low high here = refl
      go true false low high here = let ne = here refl in same (record { low = low refl; high = high refl }) (omega arith)

-- lists: without one element, and one element
without_split : {A : Type 0} (xs : List A) (k : ℕ) → without xs k ≡ take k xs ++ drop (suc k) xs
unfolding without
without_split [] zero = refl
without_split [] (suc k) = refl
without_split (x ∷ xs) zero = refl
without_split (x ∷ xs) (suc k) = ap (x ∷◌) (without_split xs k)

get_elem_get_d : {A : Type 0} (xs : List A) (k : ℕ) (a : A) → k < length xs → get_elem? xs k ≡ some (get_or xs k a)
get_elem_get_d [] k a h = absurd (omega arith)
get_elem_get_d (x ∷ xs) zero a h = refl
get_elem_get_d (x ∷ xs) (suc k) a h = get_elem_get_d xs k a (omega arith)

-- there is no task 0
pub nobody : (r : System) → (reading r).tasks (task_id 0) ≡ no_task
unfolding reading
nobody r = task_at_none r

-- another mail
read_network : (r : System) (k : Network) → reading (with_network r k) ≡ with_messages_read (reading r) (messages k)
unfolding reading entry_of entry_at channel_of channel_at parent_entry_of parent_at
read_network r k = refl

-- letters join the mail
pub read_completed : (e : Effect) → Shaped e.system → e.system.network.used + length (messages_of e.system.processors e.posting) ≤ 256
    → reading (completed e) ≡ with_messages_read (reading e.system) ((reading e.system).messages ++ messages_of e.system.processors e.posting)
unfolding reading completed
read_completed e shaped fits =
    let r = e.system in
    let ms = messages_of r.processors e.posting in
    read_network r (enqueued_all r.network ms)
    ∙ ap (with_messages_read (reading r)) (messages_enqueued_all r.network ms (omega (arith, shaped.slots)))

module _ (r : System) (shaped : Shaped r) where
  -- a task that does not exist is written as it was
  module _ (t : TaskId) (y : Task) (few : t.0 ≤ 64) (none : t.0 ≡ 0 → y ≡ task_at r t) where
    task_written : task_at (with_task r t y) t ≡ y
    task_written =
        by_cases
        (ℕ_discrete t.0 0)
        (λ e. let same = none e in rw same (ap (λ q. task_at q t) (with_task_task_at r t)))
        (λ ne. task_at_same r t y shaped (omega arith) few)

    read_end : reading (with_task r t y) ≡ with_task_read (reading r) t y
    unfolding reading
    read_end =
        readings_same (reading (with_task r t y)) (with_task_read (reading r) t y)
        (with_task_processors r t y)
        (at_elim (λ u z. task_at (with_task r t y) u ≡ z) (task_at r) t y task_written (λ u ne. task_at_other r t y u (λ e. ne (sym e))))
        (λ c d. entries_same (with_task r t y) r c d (λ cl ch dl. with_task_entry_at r t y (processor_id d) c))
        (λ c. channels_same (with_task r t y) r c (λ cl ch. with_task_channel_at r t y c))
        (λ u d. parents_same (with_task r t y) r u d (λ is l. with_task_parent_at r t y (processor_id d) u))
        (ap messages (with_task_network r t y))

  -- a cell that is written
  module _ (d : ProcessorId) (c : ChannelId) (x : Cell) (is : IsCell d c) where
    written_entry : (e : ℕ) → entry_of (with_cell r d c x) c e ≡ at_number (entry_of r c) d.0 x.entry e
    written_entry =
        at-number-elim (λ e z. entry_of (with_cell r d c x) c e ≡ z) (entry_of r c) d.0 x.entry
        (entry_there (with_cell r d c x) c d.0 is.low is.high is.processor ∙ entry_at_same r d c x shaped is.processor_few is.high)
        (λ e ne.
        entries_same (with_cell r d c x) r c e
        (λ cl ch el. entry_at_other_processor r d c x (processor_id e) c is.processor el is.high ch (λ h. ne (sym h))))

    written_entries : (f : ChannelId) (e : ℕ)
        → entry_of (with_cell r d c x) f e ≡ at_channel (entry_of r) c (at_number (entry_of r c) d.0 x.entry) f e
    written_entries f e =
        at_channel_elim (λ f g. entry_of (with_cell r d c x) f e ≡ g e) (entry_of r) c (at_number (entry_of r c) d.0 x.entry) (written_entry e)
        (λ f ne.
        entries_same (with_cell r d c x) r f e
        (λ fl fh el. entry_at_other_channel r d c x (processor_id e) f is.low is.high fl fh (λ h. ne (sym h))))
        f

    written_channels : (f : ChannelId) → channel_of (with_cell r d c x) f ≡ at_channel (channel_of r) c x.channel f
    written_channels =
        at_channel_elim (λ f k. channel_of (with_cell r d c x) f ≡ k) (channel_of r) c x.channel
        (channel_there_lem (with_cell r d c x) c is.low is.high ∙ channel_at_same r d c x shaped is.high)
        (λ f ne. channels_same (with_cell r d c x) r f (λ fl fh. channel_at_other r d c x f is.low fl (λ h. ne (sym h))))

    read_written : reading (with_cell r d c x) ≡ with_cell_read (reading r) c d.0 x
    unfolding reading
    read_written =
        readings_same
        (reading (with_cell r d c x))
        (with_cell_read (reading r) c d.0 x)
        (with_cell_processors r d c x)
        (with_cell_task_at r d c x)
        written_entries
        written_channels
        (λ u e. parents_same (with_cell r d c x) r u e (λ is l. with_cell_parent_at r d c x (processor_id e) u))
        (ap messages (with_cell_network r d c x))

  -- what a desk keeps for a parent, written
  module _ (d : ProcessorId) (t : TaskId) (e : ParentEntry) (is : IsTask t) (low : 1 ≤ d.0) (high : d.0 ≤ 6) where
    written_parent : (f : ℕ) → parent_entry_of (with_parent r d t e) t f ≡ at_number (parent_entry_of r t) d.0 e f
    written_parent =
        at-number-elim (λ f z. parent_entry_of (with_parent r d t e) t f ≡ z) (parent_entry_of r t) d.0 e
        (parent_there (with_parent r d t e) t d.0 is low ∙ parent_at_same r d t e shaped high is.high)
        (λ f ne.
        parents_same (with_parent r d t e) r t f
        (λ u l. parent_at_other_processor r d t e (processor_id f) t low l is.high is.high (λ h. ne (sym h))))

    written_parents : (u : TaskId) (f : ℕ) → parent_entry_of (with_parent r d t e) u f ≡ at_task (parent_entry_of r) t (at_number (parent_entry_of r t) d.0 e) u f
    written_parents u f =
        at_elim (λ v g. parent_entry_of (with_parent r d t e) v f ≡ g f) (parent_entry_of r) t (at_number (parent_entry_of r t) d.0 e) (written_parent f)
        (λ v ne.
        parents_same (with_parent r d t e) r v f
        (λ w l. parent_at_other_task r d t e (processor_id f) v is.low is.high w.low w.high (λ h. ne (sym h))))
        u

    pub read_parent_lem : reading (with_parent r d t e) ≡ with_parent_read (reading r) t d.0 e
    unfolding reading
    read_parent_lem =
        readings_same (reading (with_parent r d t e)) (with_parent_read (reading r) t d.0 e)
        (with_parent_processors r d t e)
        (with_parent_task_at r d t e)
        (λ c f. entries_same (with_parent r d t e) r c f (λ cl ch fl. with_parent_entry_at r d t e (processor_id f) c))
        (λ c. channels_same (with_parent r d t e) r c (λ cl ch. with_parent_channel_at r d t e c))
        written_parents
        (ap messages (with_parent_network r d t e))

-- a rule for each channel of which a test holds
module _ (r : System) (shaped : Shaped r) (test : ChannelId → Bool) (rule : Cell → Cell) (d : ProcessorId) (l : 1 ≤ d.0) (u : d.0 ≤ 6) where
  abbrev then : System
  then = for_channels 128 test rule d r

  module _ (c : ChannelId) where
    abbrev found : Cell
    found = record { entry = entry_of r c d.0; channel = channel_of r c }

    abbrev entries_then : ℕ → Entry
    entries_then = at_number (entry_of r c) d.0 (rule found).entry

    -- the channel exists, and the test has the value t
    module _ (e : channel_number_ok c ≡ true) (t : Bool) (f : test c ≡ t) where
      is : IsCell d c
      is = record { processor = l; processor_few = u; low = within_low 1 128 c.0 e; high = within_high 1 128 c.0 e }

      cell_here : record { entry = entry_of then c d.0; channel = channel_of then c } ≡ pick t (rule found) found
      cell_here =
          let le = le-leb c.0 128 is.high in
          sym (cell_there then c d is)
          ∙ (rw (le, f, cell_there r c d is) at (for_channels_cell_at test rule d 128 r c shaped (omega arith) u is.low is.high))

    entry_here_lem : (b : Bool) → channel_number_ok c ≡ b → (t : Bool) → test c ≡ t → entry_of then c d.0 ≡ pick (b && t) entries_then (entry_of r c) d.0
    entry_here_lem false e t f = entries_same then r c d.0 (λ cl ch dl. absurd (tests_differ (within_both 1 128 c.0 cl ch) e))
    entry_here_lem true e true f = ap (λ x. x.entry) (cell_here e true f) ∙ sym (updated_same (λ (k : ℕ). k) (entry_of r c) d.0 (rule found).entry)
    entry_here_lem true e false f = ap (λ x. x.entry) (cell_here e false f)

    channel_here : (b : Bool) → channel_number_ok c ≡ b → (t : Bool) → test c ≡ t
        → channel_of then c ≡ pick (b && t) (rule found).channel (channel_of r c)
    channel_here false e t f = channels_same then r c (λ cl ch. absurd (tests_differ (within_both 1 128 c.0 cl ch) e))
    channel_here true e true f = ap (λ x. x.channel) (cell_here e true f)
    channel_here true e false f = ap (λ x. x.channel) (cell_here e false f)

    entry_elsewhere : (e : ℕ) → e ≢ d.0 → entry_of then c e ≡ pick (channel_number_ok c && test c) entries_then (entry_of r c) e
    entry_elsewhere e ne =
        entries_same then r c e (λ cl ch el. for_channels_elsewhere test rule d 128 r (processor_id e) c (omega arith) l el ch (λ h. ne (sym h)))
        ∙ pick_either (λ g. entry_of r c e ≡ g e) (channel_number_ok c && test c) entries_then (entry_of r c)
        (sym (updated_other (λ (k : ℕ). k) (entry_of r c) d.0 e (rule found).entry ne)) refl

  read_all : reading then ≡ for_channels_read test rule d.0 (reading r)
  unfolding reading
  read_all =
      readings_same (reading then) (for_channels_read test rule d.0 (reading r))
      (for_channels_processors test rule d 128 r)
      (for_channels_task_at test rule d 128 r)
      (λ c e.
      by_cases
      (ℕ_discrete e d.0)
      (λ (h : e ≡ d.0). rw h (entry_here_lem c (channel_number_ok c) refl (test c) refl))
      (λ ne. entry_elsewhere c e ne))
      (λ c. channel_here c (channel_number_ok c) refl (test c) refl)
      (λ t e. parents_same then r t e (λ is l. for_channels_parent_at test rule d 128 r (processor_id e) t))
      (ap messages (for_channels_network test rule d 128 r))

module _ (r : System) (shaped : Shaped r) where
  pub read_task : (t : TaskId) (y : Task) → IsTask t → reading (with_task r t y) ≡ with_task_read (reading r) t y
  read_task t y is = read_end r shaped t y is.high (λ e. absurd (omega (arith, is.low)))

  pub read_cell : (d : ProcessorId) (c : ChannelId) → IsCell d c → cell_at r d c ≡ cell_of (reading r) c d.0
  unfolding reading
  read_cell d c is = cell_there r c d is

  -- a task that does not exist is not written
  none_written : (s u : TaskId) (y : Task) → (s.0 ≡ 0 → y ≡ task_at r s) → u.0 ≡ 0 → task_at (with_task r s y) u ≡ task_at r u
  none_written s u y none e =
      by_cases
      (ℕ_discrete s.0 u.0)
      (λ h. let same = none (h ∙ e) in rw same (ap (λ q. task_at q u) (with_task_task_at r s)))
      (λ ne. task_at_other r s y u ne)

  -- an end of a channel exists, or nothing changes there
  pub read_outcome : (s u : TaskId) (c : ChannelId) (d : ProcessorId) (o : Outcome) → IsCell d c → s.0 ≤ 64 → u.0 ≤ 64
      → (s.0 ≡ 0 → o.sender ≡ task_at r s) → (u.0 ≡ 0 → o.receiver ≡ task_at r u)
      → r.network.used + length (messages_of r.processors o.posting) ≤ 256
      → reading (completed (with_outcome r s u c d o))
      ≡ with_outcome_read (reading r) s u c d.0 o ((reading r).messages ++ messages_of r.processors o.posting)
  unfolding with_outcome
  read_outcome s u c d o is sf uf sn un fits =
      let q1 = with_task r s o.sender in
      let q2 = with_task q1 u o.receiver in
      let q3 = with_cell q2 d c o.cell in
      let shaped1 = with_task_shaped r s o.sender shaped in
      let shaped2 = with_task_shaped q1 u o.receiver shaped1 in
      let shaped3 = with_cell_shaped q2 d c o.cell shaped2 in
      let network : q3.network ≡ r.network =
      rw (with_cell_network q2 d c o.cell, with_task_network q1 u o.receiver) (with_task_network r s o.sender) in
      let processors : q3.processors ≡ r.processors =
      rw (with_cell_processors q2 d c o.cell, with_task_processors q1 u o.receiver) (with_task_processors r s o.sender)
      in
      let none : u.0 ≡ 0 → o.receiver ≡ task_at q1 u = λ e. un e ∙ sym (none_written s u o.sender sn e) in
      let read1 : reading q1 ≡ with_task_read (reading r) s o.sender = read_end r shaped s o.sender sf sn in
      let read2 : reading q2 ≡ with_task_read (reading q1) u o.receiver = read_end q1 shaped1 u o.receiver uf none in
      let read3 : reading q3 ≡ with_cell_read (reading q2) c d.0 o.cell = read_written q2 shaped2 d c o.cell is in
      read_completed (with_outcome r s u c d o) shaped3 (rw (network, processors) fits) ∙ rw (read3, read2, read1, processors) refl

  pub read_for_channels : (test : ChannelId → Bool) (rule : Cell → Cell) (d : ProcessorId) → 1 ≤ d.0 → d.0 ≤ 6
      → reading (for_channels 128 test rule d r) ≡ for_channels_read test rule d.0 (reading r)
  read_for_channels test rule d l u = read_all r shaped test rule d l u

  -- a letter is taken out
  pub read_dequeued : (p : ℕ) → 1 ≤ p → p ≤ r.network.used → r.network.used ≤ 256
      → reading (with_network r (dequeued r.network p)) ≡ with_messages_read (reading r) (without (reading r).messages (p - 1))
  unfolding reading
  read_dequeued p l u few =
      let ms = messages r.network in
      let e : suc (p - 1) ≡ p = omega arith in
      let s : without ms (p - 1) ≡ take (p - 1) ms ++ drop p ms = rw e at (without_split ms (p - 1)) in
      read_network r (dequeued r.network p)
      ∙ ap (with_messages_read (reading r)) (messages_dequeued r.network p l u (omega (arith, shaped.slots)) ∙ sym s)

  pub read_message : (p : ℕ) → 1 ≤ p → p ≤ r.network.used → r.network.used ≤ 256
      → get_elem? (reading r).messages (p - 1) ≡ some (message_at r.network p)
  unfolding reading
  read_message p l u few =
      let size : length (messages r.network) ≡ r.network.used = length_messages r.network (omega (arith, shaped.slots)) in
      get_elem_get_d (messages r.network) (p - 1) Empty (omega arith) ∙ ap some (sym (message_at_messages r.network p l u))
