-- Two rigs whose parts are read alike everywhere are the same, but for the mail.
use mathlib.Core.Path.{◌≡◌, refl, sym, ◌∙◌, ap}
use mathlib.Core.Bool.{Bool, true, false}
use mathlib.Core.List.{List}
use Prim.Native.Nat.{ℕ, suc, ◌+◌, ◌*◌, ◌-◌, ◌/◌, ◌%◌, ◌<◌}
use native.Mathlib.Omega.{arith}
use lib.ListN.{length, get_or}
use lib.Seq.{ext_get_or}
use Rattle.base.specs.Sets.{set_of}
use Rattle.rules.specs.Numbers.{task_id, processor_id, channel_id}
use Rattle.rules.specs.declared.channel.Entry.{Entry}
use Rattle.rules.specs.declared.channel.Channel.{Channel}
use Rattle.rules.specs.declared.system.Tables.{Tables}
use Rattle.rules.specs.declared.system.Channels.{Channels}
use Rattle.rules.specs.declared.system.Parents.{Parents}
use Rattle.rules.specs.declared.system.ParentEntry.{ParentEntry}
use Rattle.rules.specs.declared.system.System.{System}
use Rattle.rules.specs.Tasks.{no_task}
use Rattle.rules.specs.Sound.{system_ok}
use Rattle.rules.specs.Systems.{with_network, task_in, is_ready_at, read_entry, entry_at, read_channel, channel_at, read_parent, parent_at}
use Rattle.rules_laws.specs.Shapes.{Shaped}
use Rattle.rules_laws.proofs.TaskAt.{task_at_some}
use Rattle.rules_laws.proofs.Ready.{is_ready_in, ready_set}
use Rattle.rules_laws.proofs.Sound.{system_passed}
use Rattle.commute.specs.Footprints.{everything, Alike}

-- two lists of n elements that are the same at each place below n
same_list : {A : Type 0} (n : ℕ) (x : A) (l k : List A) → length l ≡ n → length k ≡ n → ((i : ℕ) → i < n → get_or l i x ≡ get_or k i x) → l ≡ k
same_list n x l k p q h = ext_get_or x l k (p ∙ sym q) (λ i b. h i (rw p at b))

-- place i of the tables is that of desk i / 128 + 1 and channel i % 128 + 1, of the parents' tables that of desk i / 64 + 1 and task i % 64 + 1
place : (i : ℕ) → 128 * (i / 128 + 1 - 1) + (i % 128 + 1 - 1) ≡ i
place i = omega arith

parent_place : (i : ℕ) → 64 * (i / 64 + 1 - 1) + (i % 64 + 1 - 1) ≡ i
parent_place i = omega arith

first : (i : ℕ) → suc i - 1 ≡ i
first i = omega arith

-- a column of a table of n entries is the same where the entries are
column : {A : Type 0} {B : Type 0} {C : Type 0} (n : ℕ) (read : A → ℕ → B) (part : B → C) (of : A → List C) (none : C)
    → ((x : A) (i : ℕ) → part (read x i) ≡ get_or (of x) i none) → (x y : A) → length (of x) ≡ n → length (of y) ≡ n
    → ((i : ℕ) → i < n → read x i ≡ read y i)
    → of x ≡ of y
column n read part of none is x y p q h = same_list n none (of x) (of y) p q (λ i l. sym (is x i) ∙ ap part (h i l) ∙ is y i)

module _ (r q : System) (rs : Shaped r) (qs : Shaped q) (a : Alike everything r q) where
  same_records : r.tasks.records ≡ q.tasks.records
  same_records =
      same_list 64 no_task r.tasks.records q.tasks.records rs.tasks qs.tasks
      (λ i h.
      let t = task_id (suc i) in
      let at : get_or r.tasks.records (suc i - 1) no_task ≡ get_or q.tasks.records (suc i - 1) no_task =
      sym (task_at_some r t (omega arith)) ∙ sym (a.tasks t refl) ∙ task_at_some q t (omega arith) in
      rw (first i) at at)

  -- the sets of ready tasks are those of the records
  same_sets : r.plan ≡ q.plan → (k : ℕ) → set_of r.plan.tasks (is_ready_in r.tasks k) ≡ set_of q.plan.tasks (is_ready_in q.tasks k)
  unfolding task_in
  same_sets plan k =
      λ i.
      set_of (plan i).tasks (λ t. is_ready_at (processor_id (suc k)) (task_in (record { records = same_records i; ready = r.tasks.ready }) (task_id t)))

  same_ready : r.plan ≡ q.plan → system_ok r ≡ true → system_ok q ≡ true → r.tasks.ready ≡ q.tasks.ready
  same_ready plan ro qo =
      same_list 6 0 r.tasks.ready q.tasks.ready rs.ready qs.ready
      (λ k h.
      ready_set r.plan.tasks r.tasks (system_passed r ro).ready k h
      ∙ same_sets plan k
      ∙ sym (ready_set q.plan.tasks q.tasks (system_passed q qo).ready k h))

  same_tables : r.tables ≡ q.tables
  unfolding entry_at
  same_tables =
      let entries : (i : ℕ) → i < 768 → read_entry r.tables i ≡ read_entry q.tables i =
      λ i l.
      rw (place i) at
      (sym (a.entries (processor_id (i / 128 + 1)) (channel_id (i % 128 + 1)) (omega arith) (omega arith) (omega arith) (omega arith) refl)) in
      let same : (part : Entry → ℕ) (of : Tables → List ℕ) → ((x : Tables) (i : ℕ) → part (read_entry x i) ≡ get_or (of x) i 0)
      → length (of r.tables) ≡ 768 → length (of q.tables) ≡ 768 → of r.tables ≡ of q.tables =
      λ part of is l k. column 768 read_entry part of 0 is r.tables q.tables l k entries in
      let e₁ = same (λ e. e.hint.processor.0) (λ x. x.hintprocessors) (λ x i. refl) rs.hintprocessors qs.hintprocessors in
      let e₂ = same (λ e. e.hint.moves) (λ x. x.hintmoves) (λ x i. refl) rs.hintmoves qs.hintmoves in
      let e₃ = same (λ e. e.held.processor.0) (λ x. x.heldprocessors) (λ x i. refl) rs.heldprocessors qs.heldprocessors in
      let e₄ = same (λ e. e.held.number) (λ x. x.heldnumbers) (λ x i. refl) rs.heldnumbers qs.heldnumbers in
      let e₅ = same (λ e. e.noted.0) (λ x. x.notes) (λ x i. refl) rs.notes qs.notes in
      λ i. record { hintprocessors = e₁ i; hintmoves = e₂ i; heldprocessors = e₃ i; heldnumbers = e₄ i; notes = e₅ i }

  same_channels : r.channels ≡ q.channels
  unfolding channel_at
  same_channels =
      let channels : (i : ℕ) → i < 128 → read_channel r.channels i ≡ read_channel q.channels i =
      λ i l. rw (first i) at (sym (a.channels (channel_id (suc i)) (omega arith) (omega arith) refl)) in
      let same : (A : Type 0) (none : A) (part : Channel → A) (of : Channels → List A)
      → ((x : Channels) (i : ℕ) → part (read_channel x i) ≡ get_or (of x) i none)
      → length (of r.channels) ≡ 128 → length (of q.channels) ≡ 128 → of r.channels ≡ of q.channels =
      λ A none part of is l k. column 128 read_channel part of none is r.channels q.channels l k channels in
      let e₁ = same ℕ 0 (λ e. e.granted) (λ x. x.granted) (λ x i. refl) rs.granted qs.granted in
      let e₂ = same Bool false (λ e. e.awaiting) (λ x. x.awaiting) (λ x i. refl) rs.awaiting qs.awaiting in
      let e₃ = same ℕ 0 (λ e. e.carried.processor.0) (λ x. x.carriedprocessors) (λ x i. refl) rs.carriedprocessors qs.carriedprocessors in
      let e₄ = same ℕ 0 (λ e. e.carried.number) (λ x. x.carriednumbers) (λ x i. refl) rs.carriednumbers qs.carriednumbers in
      let e₅ = same ℕ 0 (λ e. e.travelling.processor.0) (λ x. x.travellingprocessors) (λ x i. refl) rs.travellingprocessors qs.travellingprocessors in
      let e₆ = same ℕ 0 (λ e. e.travelling.moves) (λ x. x.travellingmoves) (λ x i. refl) rs.travellingmoves qs.travellingmoves in
      λ i.
      record {
        granted = e₁ i;
        awaiting = e₂ i;
        carriedprocessors = e₃ i;
        carriednumbers = e₄ i;
        travellingprocessors = e₅ i;
        travellingmoves = e₆ i;
      }

  same_parents : r.parents ≡ q.parents
  unfolding parent_at
  same_parents =
      let entries : (i : ℕ) → i < 384 → read_parent r.parents i ≡ read_parent q.parents i =
      λ i l. rw (parent_place i) at (sym (a.parents (processor_id (i / 64 + 1)) (task_id (i % 64 + 1)) (omega arith) (omega arith) (omega arith) refl)) in
      let same : (part : ParentEntry → ℕ) (of : Parents → List ℕ) → ((x : Parents) (i : ℕ) → part (read_parent x i) ≡ get_or (of x) i 0)
      → length (of r.parents) ≡ 384 → length (of q.parents) ≡ 384 → of r.parents ≡ of q.parents =
      λ part of is l k. column 384 read_parent part of 0 is r.parents q.parents l k entries in
      let e₁ = same (λ e. e.hint.processor.0) (λ x. x.hintprocessors) (λ x i. refl) rs.parentprocessors qs.parentprocessors in
      let e₂ = same (λ e. e.hint.moves) (λ x. x.hintmoves) (λ x i. refl) rs.parentmoves qs.parentmoves in
      let e₃ = same (λ e. e.held) (λ x. x.held) (λ x i. refl) rs.parentheld qs.parentheld in
      λ i. record { hintprocessors = e₁ i; hintmoves = e₂ i; held = e₃ i }

  -- the rig r with the mail of q is q
  pub same_rig : r.processors ≡ q.processors → r.plan ≡ q.plan → r.chosen ≡ q.chosen → system_ok r ≡ true → system_ok q ≡ true
      → with_network r q.network ≡ q
  same_rig processors plan chosen ro qo =
      λ i.
      record {
        processors = processors i;
        plan = plan i;
        tasks = record { records = same_records i; ready = same_ready plan ro qo i };
        tables = same_tables i;
        channels = same_channels i;
        parents = same_parents i;
        network = q.network;
        chosen = chosen i;
      }
