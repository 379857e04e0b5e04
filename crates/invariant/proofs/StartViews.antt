-- The rig at the start as it is read, and its views: those of a rig where nobody is born, after the birth of task 1 at desk 1.
use mathlib.Core.Path.{◌≡◌, refl, ◌∙◌, ap, fun_ext, sym}
use mathlib.Core.Bool.{Bool, true, false, not, ◌&&◌}
use mathlib.Core.List.{[]}
use mathlib.Core.Logic.{◌≢◌, by_cases}
use Prim.Native.Nat.{ℕ, ◌-◌, ◌≤◌}
use native.Mathlib.Omega.{arith}
use native.Mathlib.Decide.{ℕ_discrete, dec_lt}
use lib.Dec.{eqb}
use lib.ListN.{get_or, replicate, length-replicate, get_or-replicate, get_or-eq_default}
use borrow.Author.Tests.{eq-eqb, ne_eqb}
use Rattle.base.specs.Choice.{pick}
use Rattle.base.specs.Range.{fold}
use Rattle.base.specs.Updates.{updated}
use Rattle.base.proofs.Choices.{pick_either}
use Rattle.base.proofs.Tests.{within_both}
use Rattle.base.proofs.Updates.{updated_at}
use Rattle.plan.specs.declared.Plan.{Plan}
use Rattle.plan.specs.declared.TaskId.{TaskId}
use Rattle.plan.specs.declared.ChannelId.{ChannelId}
use Rattle.plan.specs.Numbers.{task_id, processor_id, same_task}
use Rattle.plan.specs.Programs.{Program, programs}
use Rattle.plan.specs.Users.{sender_of, receiver_of}
use Rattle.rules.specs.declared.task.Task.{Task}
use Rattle.rules.specs.declared.channel.Entry.{Entry}
use Rattle.rules.specs.declared.channel.Channel.{Channel}
use Rattle.rules.specs.declared.system.System.{System}
use Rattle.rules.specs.Numbers.{channel_number_ok, task_number_ok}
use Rattle.rules.specs.Tasks.{no_task, unborn, born}
use Rattle.rules.specs.Cells.{no_offer}
use Rattle.rules.specs.Places.{is_on}
use Rattle.rules.specs.Networks.{messages}
use Rattle.rules.specs.Systems.{task_at, with_task, entry_index, task_in, task_stored, channel_at, entry_at, parent_index, parent_at, with_parent}
use Rattle.rules.specs.Effects.{for_channels, receives_on}
use Rattle.rules.specs.Starts.{located, birth, blank, started, pointing}
use Rattle.rules_laws.specs.Shapes.{Shaped}
use Rattle.rules_laws.proofs.TaskAt.{with_task_shaped}
use Rattle.rules_laws.proofs.Shapes.{blank_shaped}
use Rattle.net.specs.States.{at_task}
use Rattle.channel.specs.Updates.{at_number}
use Rattle.channel.specs.Hints.{hint_to}
use Rattle.channel.specs.Views.{offer_of, Sender, Receiver, Tables, View}
use Rattle.channel.specs.Events.{place, sender_born_lem, receiver_born_lem, place_guard, placed, guard, after}
use Rattle.channel.specs.Events as events
use Rattle.channel.specs.Invariant.{Invariant}
use Rattle.channel.proofs.Updates.{at_self}
use Rattle.channel.proofs.Keep.{keeps, starts}
use Rattle.transitions.specs.Readings.{Reading, reading, entry_of, channel_of, no_entry, no_channel, with_task_read, for_channels_read, no_parent_entry, parent_entry_of, with_parent_read}
use Rattle.transitions.specs.Progress.{program_of, completed_by, use_number}
use Rattle.transitions.specs.Messages.{flat}
use Rattle.transitions.specs.Views.{Histories, sender_view, receiver_view, tables_view, state_view, view_of}
use Rattle.transitions.specs.Transitions.{sent_to}
use Rattle.transitions.proofs.Updates.{at_other}
use Rattle.transitions.proofs.Frames.{read_task, read_for_channels, IsTask, parent_there, read_parent_lem}
use Rattle.transitions.proofs.Outcomes.{part_at}
use Rattle.rules.specs.declared.system.ParentEntry.{ParentEntry}
use Rattle.rules.specs.Hints.{hint, unknown}
use Rattle.rules_laws.proofs.ParentAt.{with_task_parent_at, with_parent_shaped}

-- a list of one value alone
get_d_alike : {A : Type 0} (k i : ℕ) (a : A) → get_or (replicate k a) i a ≡ a
get_d_alike k i a =
    by_cases
    (dec_lt i k)
    (λ l. get_or-replicate k i a a l)
    (λ l. get_or-eq_default (replicate k a) a {n = i} (omega (arith, length-replicate k a)))

-- an entry and a channel of zeros
abbrev entry_alike : ℕ → Entry
entry_alike z = record { hint = hint_to z z; held = offer_of z z; noted = processor_id z }

abbrev parent_alike : ℕ → ParentEntry
parent_alike z = record { hint = hint_to z z; held = z }

abbrev channel_alike : ℕ → Bool → Channel
channel_alike z b = record { granted = z; awaiting = b; carried = offer_of z z; travelling = hint_to z z }

-- the rig where nobody is born
module _ (n : ℕ) (p : Plan) where
  pub blank_task : (P : Task → Type 0) (t : TaskId) → P unborn → P no_task → P (task_at (blank n p) t)
  unfolding task_in blank
  blank_task P t u z =
      let i = t.0 - 1 in
      pick_either P (eqb t.0 0) no_task (get_or (replicate 64 unborn) i no_task) z
      (by_cases
      (dec_lt i 64)
      (λ l. rw (get_or-replicate 64 i unborn no_task l) u)
      (λ l. rw (get_or-eq_default (replicate 64 unborn) no_task {n = i} (omega (arith, length-replicate 64 unborn))) z))

  blank_entry : (c : ChannelId) (d : ℕ) → entry_of (blank n p) c d ≡ no_entry
  unfolding entry_of entry_at blank
  blank_entry c d =
      let i = entry_index (processor_id d) c in
      pick_either (λ e. e ≡ no_entry) (channel_number_ok c && not (eqb d 0)) (entry_alike (get_or (replicate 768 0) i 0)) no_entry
      (ap entry_alike (get_d_alike 768 i 0)) refl

  blank_channel : (c : ChannelId) → channel_of (blank n p) c ≡ no_channel
  unfolding channel_of channel_at blank
  blank_channel c =
      let i = c.0 - 1 in
      pick_either (λ e. e ≡ no_channel) (channel_number_ok c) (channel_alike (get_or (replicate 128 0) i 0) (get_or (replicate 128 false) i false)) no_channel
      (rw (get_d_alike {A = ℕ} 128 i 0, get_d_alike 128 i false) refl) refl

  blank_parent : (t : TaskId) (d : ℕ) → parent_entry_of (blank n p) t d ≡ no_parent_entry
  unfolding parent_entry_of parent_at blank
  blank_parent t d =
      let i = parent_index (processor_id d) t in
      pick_either (λ e. e ≡ no_parent_entry) (task_number_ok 64 t && not (eqb d 0)) (parent_alike (get_or (replicate 384 0) i 0)) no_parent_entry
      (ap parent_alike (get_d_alike 384 i 0)) refl

-- the rig at the start, as it is read: nothing is kept but the pointer of desk 1 to task 1, for each channel that it receives on and as a parent
abbrev pub first : TaskId
first = task_id 1

abbrev pub start_tasks : ℕ → Plan → TaskId → Task
start_tasks n p = at_task (task_at (blank n p)) first (born (processor_id 1) unknown)

abbrev entry_here : Entry
entry_here = record { hint = hint_to 1 1; held = no_offer; noted = processor_id 0 }

abbrev start_entries : Bool → ℕ → Entry
start_entries b = pick b (at_number (λ d. no_entry) 1 entry_here) (λ d. no_entry)

abbrev pub parent_here : ParentEntry
parent_here = record { hint = hint_to 1 1; held = 0 }

abbrev pub start_parents : TaskId → ℕ → ParentEntry
start_parents = at_task (λ t d. no_parent_entry) first (at_number (λ d. no_parent_entry) 1 parent_here)

abbrev start_with : ℕ → Plan → (ChannelId → Channel) → Reading
start_with n p ks =
    record {
      processors = n;
      tasks = start_tasks n p;
      entries = λ c. start_entries (channel_number_ok c && receives_on (programs p) first c);
      channels = ks;
      parents = start_parents;
      messages = [];
    }

abbrev pub start_reading : ℕ → Plan → Reading
start_reading n p = start_with n p (λ c. no_channel)

abbrev blank_with : ℕ → Plan → (ChannelId → ℕ → Entry) → (ChannelId → Channel) → (TaskId → ℕ → ParentEntry) → Reading
blank_with n p es ks ps = record { processors = n; tasks = task_at (blank n p); entries = es; channels = ks; parents = ps; messages = [] }

abbrev blank_read : ℕ → Plan → Reading
blank_read n p = blank_with n p (λ c d. no_entry) (λ c. no_channel) (λ t d. no_parent_entry)

module _ (n : ℕ) (p : Plan) where
  blank_parts : reading (blank n p) ≡ blank_with n p (entry_of (blank n p)) (channel_of (blank n p)) (parent_entry_of (blank n p))
  unfolding reading messages blank
  blank_parts = refl

  read_blank : reading (blank n p) ≡ blank_read n p
  read_blank =
      let e : entry_of (blank n p) ≡ (λ c d. no_entry) = fun_ext λ c. fun_ext λ d. blank_entry n p c d in
      let k : channel_of (blank n p) ≡ (λ c. no_channel) = fun_ext λ c. blank_channel n p c in
      let a : parent_entry_of (blank n p) ≡ (λ t d. no_parent_entry) = fun_ext λ t. fun_ext λ d. blank_parent n p t d in
      blank_parts ∙ rw (e, k, a) refl

  abbrev one : Task
  one = born (processor_id 1) unknown

  abbrev one_born : System
  one_born = with_task (blank n p) first one

  -- and desk 1 points to it
  abbrev one_pointed : System
  one_pointed = with_parent one_born (processor_id 1) first parent_here

  is_first : IsTask first
  is_first = record { low = omega arith; high = omega arith }

  no_entry_lem : parent_at one_born (processor_id 1) first ≡ no_parent_entry
  no_entry_lem =
      with_task_parent_at (blank n p) first one (processor_id 1) first
      ∙ sym (parent_there (blank n p) first 1 is_first (omega arith)) ∙ blank_parent n p first 1

  abbrev born_with : ParentEntry → System
  born_with e =
      for_channels 128 (receives_on (programs p) first) (located (processor_id 1) 1) (processor_id 1)
      (with_parent one_born (processor_id 1) first (pointing e (hint (processor_id 1) 1)))

  by_birth : started n p ≡ born_with (parent_at one_born (processor_id 1) first)
  unfolding started birth with_task with_parent task_stored blank
  by_birth = refl

  started_by_birth : started n p ≡ for_channels 128 (receives_on (programs p) first) (located (processor_id 1) 1) (processor_id 1) one_pointed
  started_by_birth = by_birth ∙ ap born_with no_entry_lem

  one_born_shaped : Shaped one_born
  one_born_shaped = with_task_shaped (blank n p) first one (blank_shaped n p)

  read_one_born : reading one_pointed ≡ with_parent_read (with_task_read (blank_read n p) first one) first 1 parent_here
  read_one_born =
      read_parent_lem one_born one_born_shaped (processor_id 1) first parent_here is_first (omega arith) (omega arith)
      ∙ ap (λ x. with_parent_read x first 1 parent_here)
      (read_task (blank n p) (blank_shaped n p) first one is_first ∙ ap (λ x. with_task_read x first one) read_blank)

  pub read_started : reading (started n p) ≡ start_reading n p
  read_started =
      let test = receives_on (programs p) first in
      let rule = located (processor_id 1) 1 in
      ap reading started_by_birth
      ∙ read_for_channels one_pointed (with_parent_shaped one_born (processor_id 1) first parent_here one_born_shaped) test rule (processor_id 1) (omega arith) (omega arith)
      ∙ ap (for_channels_read test rule 1) read_one_born
      ∙ ap (start_with n p) (fun_ext λ c. pick_either (λ k. k ≡ no_channel) (channel_number_ok c && test c) no_channel no_channel refl refl)

-- a task at the start: the first is ready at desk 1, the others are not born
pub start_cases : (n : ℕ) (p : Plan) (P : Task → Type 0) (t : TaskId)
    → (t.0 ≡ 1 → P (born (processor_id 1) unknown)) → (t.0 ≢ 1 → P unborn) → (t.0 ≢ 1 → P no_task) → P (start_tasks n p t)
start_cases n p P t b u z =
    by_cases
    (ℕ_discrete t.0 1)
    (λ e. rw (updated_at (λ (k : TaskId). k.0) (task_at (blank n p)) first t (born (processor_id 1) unknown) e) (b e))
    (λ ne. rw (at_other (task_at (blank n p)) first t (born (processor_id 1) unknown) ne) (blank_task n p P t (u ne) (z ne)))

-- where each task was sent: the first to desk 1, with count 1
abbrev pub nowhere : Histories
nowhere t k = 0

abbrev pub start_histories : Histories
start_histories = sent_to nowhere first 1 (processor_id 1)

-- the ends and the pointers of a channel in the rig at the start; the test says whether task 1 is the end
abbrev sender_then : Bool → Sender
sender_then b = record { at = pick b 1 0; sending = 0; sent = 0 }

abbrev receiver_then : Bool → Receiver
receiver_then b = record { at = pick b 1 0; receiving = 0; received = 0; moves = pick b 1 0; history = pick b (at_number (λ k. 0) 1 1) (λ k. 0) }

abbrev tables_then : Bool → Tables
tables_then b =
    record { hints = pick b (at_number (λ d. hint_to 0 0) 1 (hint_to 1 1)) (λ d. hint_to 0 0); held = λ d. offer_of 0 0; noted = λ d. processor_id 0 }

abbrev view_then : ℕ → Bool → Bool → View
view_then n s u =
    record {
      processors = n;
      sender = sender_then s;
      receiver = receiver_then u;
      tables = tables_then u;
      state = record { granted = 0; awaiting = 0; carried = offer_of 0 0; travelling = hint_to 0 0 };
      messages = [];
    }

-- nobody, the sender, the receiver, or both are born
module _ (n : ℕ) (l : 1 ≤ n) where
  sender_holds : (s : Bool) → Invariant (view_then n s false)
  unfolding events.blank guard after place_guard placed
  sender_holds false = starts n
  sender_holds true =
      keeps (place (sender_born_lem 1)) (events.blank n) (starts n) (record { nowhere = refl; first = refl; processor = omega arith; last = l })

  view_holds : (s u : Bool) → Invariant (view_then n s u)
  unfolding guard after place_guard placed
  view_holds s false = sender_holds s
  view_holds s true =
      keeps (place (receiver_born_lem 1)) (view_then n s false) (sender_holds s) (record { nowhere = refl; first = refl; processor = omega arith; last = l })

module _ (n : ℕ) (p : Plan) (g : Program) (c : ChannelId) where
  start_sender : (t : TaskId) → sender_view g c (start_tasks n p t) ≡ sender_then (same_task t first)
  unfolding sender_view is_on completed_by use_number fold
  start_sender t =
      start_cases n p (λ x. sender_view g c x ≡ sender_then (same_task t first)) t
      (λ e. rw (eq-eqb t.0 1 e) refl)
      (λ ne. rw (ne_eqb t.0 1 ne) refl)
      (λ ne. rw (ne_eqb t.0 1 ne) refl)

  start_receiver : (t : TaskId) → receiver_view g c (start_histories t) (start_tasks n p t) ≡ receiver_then (same_task t first)
  unfolding receiver_view is_on completed_by use_number fold updated
  start_receiver t =
      start_cases n p (λ x. receiver_view g c (start_histories t) x ≡ receiver_then (same_task t first)) t
      (λ e. rw (eq-eqb t.0 1 e) refl)
      (λ ne. rw (ne_eqb t.0 1 ne) refl)
      (λ ne. rw (ne_eqb t.0 1 ne) refl)

start_tables : (b : Bool) → tables_view (start_entries b) ≡ tables_then b
unfolding tables_view
start_tables false = refl
start_tables true =
    let es : ℕ → Entry = λ d. no_entry in
    let hints = part_at (λ (e : Entry). e.hint) es 1 entry_here in
    let held = part_at (λ (e : Entry). e.held) es 1 entry_here in
    let noted = part_at (λ (e : Entry). e.noted) es 1 entry_here in
    rw (hints, held, noted)
    (rw (at_self (λ (d : ℕ). no_offer) 1, at_self (λ (d : ℕ). processor_id 0) 1) refl)

pub start_views : (n : ℕ) (p : Plan) → 1 ≤ n → (c : ChannelId) → 1 ≤ c.0 → c.0 ≤ 128
    → Invariant (view_of (programs p) start_histories (start_reading n p) c)
unfolding view_of state_view flat
start_views n p l c cl ch =
    let m = programs p in
    let s = sender_of m c in
    let u = receiver_of m c in
    let here : channel_number_ok c ≡ true = within_both 1 128 c.0 cl ch in
    rw (here, start_sender n p (program_of m s) c s, start_receiver n p (program_of m u) c u, start_tables (same_task u first))
    (view_holds n l (same_task s first) (same_task u first))
