-- A birth keeps every child with its parent: the child, its own children, which are not born, and all others.
use mathlib.Core.Path.{◌≡◌, refl, sym, ap, ◌∙◌}
use mathlib.Core.Bool.{true}
use mathlib.Core.Logic.{◌≢◌, by_cases}
use mathlib.Core.List.{List}
use Prim.Native.Nat.{◌-◌, ◌≤◌}
use native.Mathlib.Omega.{arith}
use lib.ListN.{length}
use Rattle.std.specs.Prelude.{Ok}
use Rattle.base.specs.Choice.{within}
use Rattle.base.specs.Sets.{member}
use Rattle.base.proofs.Tests.{within_low, within_high, tests_differ}
use Rattle.base.proofs.Sets.{other_inserted, none_member}
use Rattle.plan.specs.declared.TaskId.{TaskId}
use Rattle.plan.specs.declared.ChannelId.{ChannelId}
use Rattle.plan.specs.declared.Word.{Word}
use Rattle.plan.specs.Numbers.{task_id}
use Rattle.plan.specs.Kinds.{op_create, is_use}
use Rattle.plan.specs.Programs.{Programs}
use Rattle.plan.specs.Users.{parent_of}
use Rattle.plan.specs.Refusals.{plan_answer}
use Rattle.plan_laws.proofs.Parents.{created_by}
use Rattle.rules.specs.declared.task.TaskState.TheVariants.{Unborn, Ready}
use Rattle.rules.specs.declared.task.Task.{Task}
use Rattle.rules.specs.Tasks.{is_in, born}
use Rattle.rules.specs.Places.{next_in}
use Rattle.rules.specs.Local.{create_rule}
use Rattle.rules_sound.proofs.Settled.{settled}
use Rattle.net.specs.States.{Net, at_task}
use Rattle.net.proofs.Children.{child_within}
use Rattle.transitions.specs.Readings.{Reading, kept_for}
use Rattle.transitions.specs.Progress.{program_of}
use Rattle.transitions.specs.Messages.{ended_of}
use Rattle.transitions.specs.Views.{Histories}
use Rattle.transitions.specs.Transitions.{CreateTransition, sent_to}
use Rattle.transitions.specs.Family.{Child, Kin}
use Rattle.transitions.specs.Agreement.{Running}
use Rattle.transitions.proofs.Updates.{at_task_lem, at_other, task_cases, at_elim}
use Rattle.transitions.proofs.Parents.{task_number_lem, parent_other}
use Rattle.transitions.proofs.Tasks.{unborn_is, unborn_apart, state_is}
use Rattle.invariant.proofs.FamilyParts.{ChildIn, Kindred, SameLife, SameFamily, kept_one}
use Rattle.invariant.proofs.ChildParts.{created_child, born_parent, never_born}
use Rattle.invariant.proofs.PlacesKept.{sent_other, kept_own, kept_other}
use native.Mathlib.Decide.{ℕ_discrete}
use Rattle.plan.specs.declared.ProcessorId.{ProcessorId}
use Rattle.rules.specs.declared.system.ParentEntry.{ParentEntry}
use Rattle.rules.specs.Hints.{hint}
use Rattle.rules.specs.Starts.{pointing}
use Rattle.channel.specs.Updates.{at_number}
use Rattle.channel.proofs.Updates.{at_elim as at-number-elim}
use Rattle.invariant.proofs.ChildrenKept.{kept_child, life, family}

module _ (m : Programs) (a : plan_answer m ≡ Ok tt) {h : Histories} {s : Net} {x : Reading} {w : ChannelId → List Word}
    (r : Running m h s x w) where
  module _ {h' : Histories} {y : Reading} (transition : CreateTransition m h h' x y) where
    -- who creates is the parent, and another task
    pub create_parent : parent_of m transition.child ≡ transition.task
    unfolding next_in
    create_parent =
        let t = transition.task in
        let runs = transition.runs in
        let low = within_low 1 (length m) t.0 runs.number in
        let high = within_high 1 (length m) t.0 runs.number in
        let next : is_use op_create transition.child.0 (next_in (program_of m t) (x.tasks t)) ≡ true = rw runs.next transition.creates in
        created_by m a transition.child.0 (t.0 - 1) ((x.tasks t).pc - 1) (omega arith) (omega arith) next ∙ ap task_id (omega arith)

    pub create_within : within 2 (length m) transition.child.0 ≡ true
    create_within = child_within m a transition.task transition.child (within_low 1 (length m) transition.task.0 transition.runs.number) create_parent

    -- the child has no move count yet
    pub unmoved : (x.tasks transition.child).moves ≡ 0
    unmoved =
        let c = transition.child in
        let one = task_number_lem (length m) c.0 create_within in
        (unborn_is x.processors (length m) (program_of m c) (x.tasks c) (r.tasks c one) transition.unborn).unmoved

  -- the birth of a task `made`, by its parent
  module _ (h' : Histories) (y : Reading) (creator made : TaskId) (parent : parent_of m made ≡ creator) (inside : within 2 (length m) made.0 ≡ true)
      (number : within 1 (length m) creator.0 ≡ true) (ready : is_in Ready (x.tasks creator) ≡ true) (unborn : is_in Unborn (x.tasks made) ≡ true)
      (unmoved : (x.tasks made).moves ≡ 0) where
    abbrev at : ProcessorId
    at = (x.tasks creator).processor

    abbrev parting : Task
    parting = create_rule (x.tasks creator) made

    abbrev child : Task
    child = born at (hint at (x.tasks creator).moves)

    abbrev entry : ParentEntry
    entry = pointing (x.parents made at.0) (hint at 1)

    abbrev first : TaskId → Task
    first = at_task x.tasks creator parting

    create_apart : creator.0 ≢ made.0
    create_apart e = unborn_apart x.tasks creator made ready unborn (sym e)

    module _ (history : h' ≡ sent_to h made 1 at) (tasks : y.tasks ≡ at_task first made child) (parents : y.parents ≡ kept_for x made at.0 entry)
        (messages : y.messages ≡ x.messages) where
      -- the child itself
      created : ChildIn m h' y made
      created =
          let i = inside in
          let here = settled x.processors (length m) (program_of m creator) (x.tasks creator) Ready refl ready
          (r.tasks creator number) in
          let stands = (r.places creator number).table.here here.processor in
          let task : y.tasks creator ≡ parting =
          rw tasks (at_other first made creator child create_apart ∙ at_task_lem x.tasks creator parting) in
          let new : y.tasks made ≡ child = rw tasks (at_task_lem first made child) in
          let same : h' creator ≡ h creator = rw history (sent_other h made 1 at creator create_apart) in
          let now : Child made (h' creator) (y.tasks creator) (y.tasks made) (y.parents creator) (ended_of made y.messages) =
          rw (task, new, same, messages, kept_other r made at.0 entry parents creator create_apart)
          (created_child (rw parent at (r.children made i)) unborn here.moves stands) in
          rw parent now

      -- a child of the child, which is not born
      grandchild : (u : TaskId) → within 2 (length m) u.0 ≡ true → parent_of m u ≡ made → ChildIn m h' y u
      grandchild u i its =
          let other : u.0 ≢ made.0 = λ o. parent_other m a u i (ap (λ (v : TaskId). v.0) its ∙ sym o) in
          let k = rw its at (r.children u i) in
          let not-creator : u.0 ≢ creator.0 =
          λ (o : u.0 ≡ creator.0). tests_differ (rw (ap task_id o) at (never_born k unmoved)) (state_is Ready Unborn (x.tasks creator) ready) in
          let new : y.tasks made ≡ child = rw tasks (at_task_lem first made child) in
          let same : y.tasks u ≡ x.tasks u =
          rw tasks (at_other first made u child other ∙ at_other x.tasks creator u parting not-creator) in
          let now : Child u (h' made) (y.tasks made) (y.tasks u) (y.parents made) (ended_of u y.messages) =
          rw (new, same, messages, kept_own r made at.0 entry parents)
          (born_parent k unmoved (h' made) at (hint at (x.tasks creator).moves) (at_number (x.parents made) at.0 entry)
          (at-number-elim (λ f o. o.held ≡ (x.parents made f).held) (x.parents made) at.0 entry refl (λ f ne. refl))) in
          rw its now

      -- anybody else
      another : (u : TaskId) → within 2 (length m) u.0 ≡ true → u.0 ≢ made.0 → (parent_of m u).0 ≢ made.0 → ChildIn m h' y u
      another u i ne np =
          let v = parent_of m u in
          let low = within_low 2 (length m) made.0 inside in
          let some = within_low 2 (length m) u.0 i in
          kept_child m a r h' y u i (rw history (sent_other h made 1 at v np))
          (rw (tasks, at_other first made v child np)
          (kept_one (SameFamily u) (family m a r u) x.tasks creator parting v
          (λ e.
          record {
            members = other_inserted made.0 (x.tasks creator).children u.0 (omega arith) (omega arith) (λ o. ne (sym o));
            processor = refl;
            moves = refl;
          })))
          (rw (tasks, at_other first made u child ne)
          (kept_one SameLife (life m a r) x.tasks creator parting u (λ e. record { origin = refl; unborn = refl; done = refl })))
          (λ d. rw (kept_other r made at.0 entry parents v np) refl)
          (rw messages refl)

      kindred_made : Kindred m h' y
      kindred_made =
          record {
            children =
                task_cases (λ u. within 2 (length m) u.0 ≡ true → ChildIn m h' y u) made (λ i. created)
                (λ u ne i.
                by_cases
                (ℕ_discrete (parent_of m u).0 made.0)
                (λ (e : (parent_of m u).0 ≡ made.0). grandchild u i (ap task_id e))
                (λ np. another u i ne np));
            kin = kin;
          }
        where
          -- who is in a set then
          grown : (u : TaskId) → 1 ≤ u.0 → member u.0 parting.children ≡ true → parent_of m u ≡ creator
          grown u i e =
              let low = within_low 2 (length m) made.0 inside in
              by_cases
              (ℕ_discrete u.0 made.0)
              (λ (q : u.0 ≡ made.0). let same : u ≡ made = ap task_id q in rw same parent)
              (λ ne.
              r.kin creator u i
              (sym (other_inserted made.0 (x.tasks creator).children u.0 (omega arith) i (λ o. ne (sym o))) ∙ e))

          kin : Kin m y.tasks
          kin p u i =
              rw tasks
              (at_elim (λ v z. member u.0 z.children ≡ true → parent_of m u ≡ v) first made child
              (λ e. absurd (tests_differ e (none_member u.0)))
              (λ v ne.
              at_elim (λ v z. member u.0 z.children ≡ true → parent_of m u ≡ v) x.tasks creator parting (grown u i) (λ v q e. r.kin v u i e) v)
              p)

  pub kindred_create : {h' : Histories} {y : Reading} → CreateTransition m h h' x y → Kindred m h' y
  kindred_create {h'} {y} transition =
      kindred_made h' y transition.task transition.child (create_parent transition) (create_within transition) transition.runs.number
      transition.runs.ready transition.unborn (unmoved transition) transition.history transition.tasks transition.parents
      transition.messages
