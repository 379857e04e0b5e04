-- An accepted run of a create is a birth in the rig that is read.
use mathlib.Core.Path.{◌≡◌, refl, sym, ap, ◌∙◌}
use mathlib.Core.Bool.{true, false}
use mathlib.Core.List.{List}
use mathlib.Core.Logic.{◌≢◌}
use Prim.Native.Nat.{ℕ, ◌≤◌}
use native.Mathlib.Omega.{arith}
use lib.Dec.{eqb}
use lib.ListN.{length}
use borrow.Author.Tests.{eqb-true, eq-eqb}
use Rattle.std.specs.Prelude.{None, Ok}
use Rattle.base.specs.Choice.{within}
use Rattle.base.specs.Range.{fold}
use Rattle.base.proofs.Tests.{and_left, and_both, within_low}
use Rattle.plan.specs.declared.TaskId.{TaskId}
use Rattle.plan.specs.declared.ProcessorId.{ProcessorId}
use Rattle.plan.specs.declared.ChannelId.{ChannelId}
use Rattle.plan.specs.declared.Instruction.{Instruction}
use Rattle.plan.specs.declared.Word.{Word}
use Rattle.plan.specs.Numbers.{task_id}
use Rattle.plan.specs.Kinds.{op_create, is_use}
use Rattle.plan.specs.Programs.{Program, Programs, programs}
use Rattle.plan.specs.Refusals.{plan_answer}
use Rattle.plan.proofs.Parts.{tasks_of_lem}
use Rattle.plan_laws.proofs.Programs.{create_operand}
use Rattle.rules.specs.declared.task.TaskState.TheVariants.{Unborn, Ready}
use Rattle.rules.specs.declared.task.Task.{Task}
use Rattle.rules.specs.declared.channel.Entry.{Entry}
use Rattle.rules.specs.declared.channel.Channel.{Channel}
use Rattle.rules.specs.declared.channel.Cell.{Cell}
use Rattle.rules.specs.declared.system.System.{System}
use Rattle.rules.specs.Tasks.{is_in, born, with_child}
use Rattle.rules.specs.Cells.{hint}
use Rattle.rules.specs.Places.{next_in, last_in, is_on}
use Rattle.rules.specs.Systems.{task_at, with_task, meaning, parent_at}
use Rattle.rules.specs.Effects.{completed, receives_on, sends_on}
use Rattle.rules.specs.Starts.{located, birth, pointing}
use Rattle.rules.specs.Local.{create_rule}
use Rattle.rules.specs.Runs.{ran_create, executed, next_of, ran, run_answer}
use Rattle.rules.specs.Sound.{task_ok, system_ok}
use Rattle.rules_laws.specs.Shapes.{Shaped}
use Rattle.rules_laws.proofs.TaskAt.{with_task_plan, with_task_shaped}
use Rattle.net.specs.States.{Net}
use Rattle.net.specs.Labels.{is_transfer}
use Rattle.channel.specs.Updates.{at_number}
use Rattle.channel.specs.Messages.{ChannelMessage}
use Rattle.channel.specs.Views.{Sender, Receiver}
use Rattle.channel.specs.Events.{place_guard, placed}
use Rattle.transitions.specs.Readings.{Reading, reading, with_task_read, for_channels_read, parent_entry_of, with_parent_read}
use Rattle.transitions.specs.Progress.{program_of, completed_by, use_number}
use Rattle.transitions.specs.Views.{Histories, sender_view, receiver_view, view_of}
use Rattle.transitions.specs.Transitions.{Unseen, Runs, Placing, none, sender_birth, receiver_birth, sent_to, CreateTransition}
use Rattle.transitions.specs.Agreement.{Running}
use Rattle.transitions.proofs.Updates.{at_task_lem, at_other}
use Rattle.transitions.proofs.Parents.{task_number_lem}
use Rattle.transitions.proofs.Tasks.{blocked_in, IsUnborn, unborn_is, unborn_apart}
use Rattle.transitions.proofs.Unseen.{SeenAlike, alike_then, alike_on, alike_at, unseen_of}
use Rattle.transitions.proofs.Frames.{read_task, parent_there}
use Rattle.transitions.proofs.Rigs.{plan_accepted, processors_few, is_task}
use Rattle.transitions.proofs.Runs.{completed_changed, run_is_task, run_settled, run_instruction, runs_of}
use Rattle.transitions.proofs.Outcomes.{tables_hint, tables_same}
use Rattle.transitions.proofs.PlaceViews.{sender_elsewhere, receiver_elsewhere, view_by, placed_read, place_cases, for_channels_none, read_receiving}
use Rattle.rules.specs.declared.channel.Hint.{Hint}
use Rattle.rules.specs.Hints.{hint}
use Rattle.rules_laws.proofs.ParentAt.{with_task_parent_at}

-- an unborn task x with program g is born at desk d: what a channel of n desks sees at each end
module _ (n : ℕ) (l : List ChannelMessage) (g : Program) (c : ChannelId) (x : Task) (unborn : is_in Unborn x ≡ true) (is : IsUnborn x)
    (d : ProcessorId) (own : Hint) (low : 1 ≤ d.0) (high : d.0 ≤ n) (entries : ℕ → Entry) (k : Channel) where
  abbrev here : Cell
  here = record { entry = entries d.0; channel = k }

  born_receiver : (s : Sender) (history : ℕ → ℕ)
      → Placing (view_by n l s (receiver_view g c history x) entries k)
      (view_by n l s (receiver_view g c (at_number history 1 d.0) (born d own))
      (at_number entries d.0 (located d 1 here).entry) (located d 1 here).channel)
  unfolding place_guard placed receiver_view
  born_receiver s history =
      let f = blocked_in x Unborn unborn in
      let u = receiver_elsewhere g c x (born d own) f refl (sym is.place) history (at_number history 1 d.0) in
      rw (u, tables_hint entries d.0 (hint d 1))
      (receiver_birth d.0 (record { nowhere = is.nowhere; first = is.unmoved; processor = low; last = high }))

  born_sender : (u : Receiver)
      → Placing (view_by n l (sender_view g c x) u entries k)
      (view_by n l (sender_view g c (born d own)) u (at_number entries d.0 here.entry) here.channel)
  unfolding place_guard placed sender_view completed_by use_number fold
  born_sender u =
      let f = blocked_in x Unborn unborn in
      rw (sender_elsewhere g c x (born d own) f refl (sym is.place), tables_same entries d.0)
      (sender_birth d.0 (record { nowhere = is.nowhere; first = rw (f, is.place) refl; processor = low; last = high }))

-- no channel sees that a task creates another
alike_created : (g : Program) (x : Task) (u : TaskId) → is_in Ready x ≡ true → 1 ≤ x.pc → is_transfer (next_in g x) ≡ false
    → SeenAlike g x (create_rule x u)
unfolding sender_view receiver_view is_on last_in completed_by next_in
alike_created g x u ready low other =
    let z = with_child x u in
    alike_then g x z (create_rule x u) (record { sender = λ c. refl; receiver = λ c history. refl }) (alike_on g z ready low other x.word x.overflow)

-- a rig that is read, after task t has gone on; and after it has created task u
abbrev created_read : TaskId → TaskId → Reading → Reading
created_read t u x = with_task_read x t (create_rule (x.tasks t) u)

abbrev born_read : Programs → TaskId → TaskId → Reading → Reading
born_read m t u x =
    let d = (x.tasks t).processor in
    placed_read m u (born d (hint d (x.tasks t).moves)) (pointing (x.parents u d.0) (hint d 1)) (located d 1) (λ y. y) d.0 x.messages
    (created_read t u x)

module _ (m : Programs) (plan : plan_answer m ≡ Ok tt) (h : Histories) (x : Reading) (t u : TaskId) {i : Instruction} (runs : Runs m x t i)
    (creates : is_use op_create u.0 i ≡ true) (unborn : is_in Unborn (x.tasks u) ≡ true) where
  abbrev processor : ProcessorId
  processor = (x.tasks t).processor

  abbrev own : Hint
  own = hint processor (x.tasks t).moves

  child_apart : u.0 ≢ t.0
  child_apart = unborn_apart x.tasks t u runs.ready unborn

  child_stays : (created_read t u x).tasks u ≡ x.tasks u
  child_stays = at_other x.tasks t u (create_rule (x.tasks t) u) child_apart

  created_unseen : Unseen m h x (created_read t u x)
  created_unseen =
      let kind = eqb-true i.opcode op_create (and_left (eqb i.opcode op_create) _ creates) in
      let other : is_transfer (next_in (program_of m t) (x.tasks t)) ≡ false = rw (runs.next, kind) refl in
      unseen_of m h x (created_read t u x) refl refl refl (λ c. refl)
      (alike_at m x.tasks t (create_rule (x.tasks t) u) (alike_created (program_of m t) (x.tasks t) u runs.ready runs.low other))

  module _ (number : within 1 (length m) u.0 ≡ true) (low : 1 ≤ processor.0) (high : processor.0 ≤ x.processors)
      (fine : task_ok x.processors (length m) (program_of m u) (x.tasks u) ≡ true) where
    -- each channel of which the child is an end sees it born, and no other sees anything
    views_born : (c : ChannelId) → 1 ≤ c.0 → c.0 ≤ 128 → Placing (view_of m h x c) (view_of m (sent_to h u 1 processor) (born_read m t u x) c)
    views_born c cl ch =
        let n = x.processors in
        let y = x.tasks u in
        let is = unborn_is n (length m) (program_of m u) y fine unborn in
        rw (← created_unseen.views c cl ch)
        (place_cases m plan h (sent_to h u 1 processor) (created_read t u x) u (within_low 1 (length m) u.0 number)
        (λ v ne. at_other h u v _ ne) (born processor own) (pointing (x.parents u processor.0) (hint processor 1)) (located processor 1) (λ y. y) processor.0 x.messages c cl ch refl Placing
        (λ s.
        rw (child_stays, at_task_lem h u (at_number (h u) 1 processor.0))
        (born_receiver n _ _ c y unborn is processor own low high (x.entries c) (x.channels c) s (h u)))
        (λ v. rw child_stays (born_sender n _ _ c y unborn is processor own low high (x.entries c) (x.channels c) v))
        (λ v. none))

    create_read : CreateTransition m h (sent_to h u 1 processor) x (born_read m t u x)
    create_read =
        record {
          task = t;
          child = u;
          instruction = i;
          runs = runs;
          creates = creates;
          unborn = unborn;
          history = refl;
          tasks = refl;
          parents = refl;
          messages = refl;
          processors = refl;
          views = views_born;
        }

-- a create reports no word
pub create_received : (r : System) (t : TaskId) → (next_of r t).opcode ≡ op_create → (ran r t).received ≡ None
unfolding ran executed ran_create
create_received r t e = rw (eq-eqb (next_of r t).opcode op_create e) refl

module _ (r : System) (shaped : Shaped r) (ok : system_ok r ≡ true) where
  module _ (t : TaskId) (accepted : run_answer r t ≡ Ok tt) (create : (next_of r t).opcode ≡ op_create) where
    abbrev child : TaskId
    child = task_id (next_of r t).operand

    abbrev task : Task
    task = task_at r t

    child_number : within 1 r.plan.tasks child.0 ≡ true
    child_number =
        let k = r.plan.tasks in
        task_number_lem k child.0 (create_operand k (next_of r t) (run_instruction r shaped ok t accepted) create)

    -- what is read then
    read_created : reading (completed (ran r t)) ≡ born_read (meaning r) t child (reading r)
    unfolding reading ran executed ran_create birth
    read_created =
        let d = task.processor in
        let b = run_settled r shaped ok t accepted in
        let x' = create_rule task child in
        let q = with_task r t x' in
        let few : d.0 ≤ 6 = omega (arith, b.processor_few, processors_few r shaped ok) in
        let same : meaning q ≡ meaning r = ap programs (with_task_plan r t x') in
        let own = hint d task.moves in
        let is = is_task r shaped ok child child_number in
        let e = read_task r shaped t x' (run_is_task r shaped ok t accepted) in
        let kept : parent_at (with_task q child (born d own)) d child ≡ parent_entry_of r child d.0 =
        with_task_parent_at q child (born d own) d child ∙ with_task_parent_at r t x' d child ∙ sym (parent_there r child d.0 is b.processor) in
        let entry = pointing (parent_entry_of r child d.0) (hint d 1) in
        let y = with_parent_read (with_task_read (with_task_read (reading r) t x') child (born d own)) child d.0 entry in
        rw (eq-eqb (next_of r t).opcode op_create create, completed_changed (birth q child d own), kept)
        (read_receiving q (with_task_shaped r t x' shaped) child is (born d own) entry d b.processor few (located d 1)
        ∙ (λ i. for_channels_read (receives_on (same i) child) (located d 1) d.0 (with_parent_read (with_task_read (e i) child (born d own)) child d.0 entry))
        ∙ sym (for_channels_none (sends_on (meaning r) child) d.0 (for_channels_read (receives_on (meaning r) child) (located d 1) d.0 y)))

  module _ (h : Histories) {s : Net} {w : ChannelId → List Word} (run : Running (meaning r) h s (reading r) w) where
    -- the child is unborn
    pub create_transition : (t : TaskId) → run_answer r t ≡ Ok tt → (next_of r t).opcode ≡ op_create
        → is_in Unborn ((reading r).tasks (task_id (next_of r t).operand)) ≡ true
        → (h' : Histories) × CreateTransition (meaning r) h h' (reading r) (reading (completed (ran r t)))
    unfolding reading
    create_transition t accepted create unborn =
        let m = meaning r in
        let plan = plan_accepted r shaped ok in
        let i = next_of r t in
        let u = task_id i.operand in
        let runs = runs_of r shaped ok t accepted in
        let creates : is_use op_create u.0 i ≡ true = and_both _ _ (eq-eqb i.opcode op_create create) (eq-eqb u.0 u.0 refl) in
        let number : within 1 (length m) u.0 ≡ true = rw (tasks_of_lem r.plan) (child_number t accepted create) in
        let b = run_settled r shaped ok t accepted in
        let transition = create_read m plan h (reading r) t u runs creates unborn number b.processor b.processor_few (run.tasks u number) in
        (sent_to h u 1 (task_at r t).processor, rw (read_created t accepted create) transition)
