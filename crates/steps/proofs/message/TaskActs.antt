-- What a letter about a task, and one that is none, does where it goes to.
use mathlib.Core.Path.{◌≡◌, refl, sym, ◌∙◌}
use mathlib.Core.Bool.{true, false}
use mathlib.Core.List.{List}
use Prim.Native.Nat.{ℕ, ◌≤◌}
use Rattle.std.specs.Prelude.{Ok}
use Rattle.base.proofs.Tests.{within_low, within_high}
use Rattle.plan.specs.declared.ProcessorId.{ProcessorId}
use Rattle.plan.specs.declared.TaskId.{TaskId}
use Rattle.rules.specs.declared.task.Task.{Task}
use Rattle.rules.specs.declared.task.TaskState.TheVariants.{Moving}
use Rattle.rules.specs.declared.channel.Hint.{Hint}
use Rattle.rules.specs.declared.message.Message.{Message}
use Rattle.rules.specs.declared.message.Message.TheVariants.{Empty, Terminated, Migration}
use Rattle.rules.specs.declared.rule.Site.{Site}
use Rattle.rules.specs.declared.rule.Ended.{Ended}
use Rattle.rules.specs.declared.rule.Posting.{Posting}
use Rattle.rules.specs.declared.rule.Posting.TheVariants.{Nothing as NoPosting}
use Rattle.rules.specs.Tasks.{is_in, arrived, without_children}
use Rattle.rules.specs.Arrivals.{arrival_parent}
use Rattle.rules.specs.Sound.{message_ok}
use Rattle.rules.specs.Systems.{task_in, task_stored}
use Rattle.rules_laws.proofs.TaskAt.{task_stored_own}
use Rattle.rig_parts.specs.declared.sweep.Sweep.{Sweep}
use Rattle.rig_parts.specs.declared.sweep.Sweep.TheVariants.{Nothing, Arrival, Ending}
use Rattle.rig_parts.specs.declared.change.Change.{Change}
use Rattle.rig_parts.specs.Sweeps.{swept, swept_parents, parent_in}
use Rattle.rig_parts.specs.Fetches.{cell_put, site_in}
use Rattle.rig_parts.specs.Scopes.{alone, named_in}
use Rattle.rig_parts.specs.RunVerdicts.{change, tasks_only}
use Rattle.rig_parts.specs.Openings.{opened_in}
use Rattle.rig_parts.proofs.BoundsMessage.{message_reached, openable}
use Rattle.plan_index.specs.user_table.Users.{senders_of, receivers_of, parents_of}
use Rattle.board.specs.declared.act.Act.{Act}
use Rattle.board.specs.Lent.{Lent, lent, Whole, tasks_on, channels_on, parents_on, tasks_of, store_of, ParentPut}
use Rattle.board.specs.Acted.{Acted, StoredBy, posted_act, plain_act}
use Rattle.board.specs.Rigs.{Opens, Opened, Opening}
use Rattle.steps.specs.message.TaskMessages.{CanEnd, ended_in}

-- the numbers of a letter that can be opened
module _ {codes users : List ℕ} {l : Lent} {m : Message} (g : Opens codes users l m) where
  pub can_end : (h : Hint) (t : TaskId) → m ≡ Terminated h t → CanEnd (parents_of users) h t
  can_end h t e =
      let ok : message_ok g.size.processors g.size.tasks (Terminated h t) ≡ true = rw e at g.ok in
      let child = (openable g.rig.parts (Terminated h t) ok).child in
      let reached = message_reached g.rig.parts (Terminated h t) ok in
      record {
        child_low = within_low 1 64 t.0 child;
        child = within_high 1 64 t.0 child;
        parent = reached.sender;
        processor_low = within_low 1 6 h.processor.0 reached.processor;
        processor = within_high 1 6 h.processor.0 reached.processor;
      }

  pub mover_within : (d : ProcessorId) (t : TaskId) → m ≡ Migration d t → (t.0 ≤ 64) × (1 ≤ d.0) × (d.0 ≤ 6)
  mover_within d t e =
      let ok : message_ok g.size.processors g.size.tasks (Migration d t) ≡ true = rw e at g.ok in
      let reached = message_reached g.rig.parts (Migration d t) ok in
      (reached.sender, within_low 1 6 d.0 reached.processor, within_high 1 6 d.0 reached.processor)

-- task u, at desk d, becomes y, p is posted, and its channels are swept over
alone_acted : (senders receivers : List ℕ) (before after : Lent) {k : Change} {r : Act} (u : TaskId) (d : ProcessorId) (x : Site) (y : Task) (p : Posting) (w : Sweep)
    → k ≡ change (alone u d) (tasks_only x y x.receiver p) w
    → r ≡ posted_act p → Whole after.board → tasks_of after ≡ task_stored (tasks_of before) u y → store_of after ≡ swept senders receivers w (store_of before)
    → parents_on after.board ≡ swept_parents w (parents_on before.board)
    → Acted senders receivers (Ok k) before r after
unfolding task_stored cell_put
alone_acted senders receivers before after u d x y p w e a z ts st ps = rw e (record { whole = z; act = a; tasks = ts; store = st; parents = ps })

module _ (codes users hintprocessors hintmoves heldprocessors heldnumbers notes board : List ℕ) where
  abbrev from : Lent
  from = lent hintprocessors hintmoves heldprocessors heldnumbers notes board

  -- the site of task u alone
  abbrev at : TaskId → ProcessorId → Site
  at u d = site_in codes (tasks_on board) (store_of from) (alone u d)

  -- an ended letter: u is the parent, o what the rule leaves of it and of what the letter's desk keeps for it
  pub ended_opened : (h : Hint) (t : TaskId) {u : TaskId} {o : Ended} {r : Act} (mid board' : List ℕ)
      → u ≡ named_in (parents_of users) t.0 → o ≡ ended_in (parents_of users) (tasks_on board) (parents_on board) h t → r ≡ posted_act o.posting
      → (tasks_on mid ≡ task_stored (tasks_on board) u o.parent) × (channels_on mid ≡ channels_on board) × (parents_on mid ≡ parents_on board)
      → ParentPut h.processor u o.entry mid board'
      → Opened codes users (Terminated h t) from r (lent hintprocessors hintmoves heldprocessors heldnumbers notes board')
  unfolding opened_in site_in
  ended_opened h t mid board' eu eo er one two = λ count numbers.
      let v = named_in (parents_of users) t.0 in
      let q = ended_in (parents_of users) (tasks_on board) (parents_on board) h t in
      let d = h.processor in
      alone_acted (senders_of users) (receivers_of users) from (lent hintprocessors hintmoves heldprocessors heldnumbers notes board')
      v d (at v d) q.parent q.posting (Ending v d q.entry) refl (rw eo at er) two.0 (two.2 ∙ one.0 ∙ rw (eo, eu) refl) (rw (two.3, one.1) refl)
      (two.1 ∙ rw (one.2, eo, eu) refl)

  pub ended_opening : (h : Hint) (t : TaskId) {o : Ended} {r : Act} → o ≡ ended_in (parents_of users) (tasks_on board) (parents_on board) h t
      → r ≡ posted_act o.posting → Opening codes users (Terminated h t) from r
  unfolding opened_in site_in
  ended_opening h t eo er = λ count numbers. rw eo at er

  module _ {m : Message} {r : Act} (a : r ≡ plain_act) where
    -- a mover letter: x is its task's record, y what is stored, and what the desk keeps for it, before the sweep
    pub moved_opened : (d : ProcessorId) (t : TaskId) {x y : Task} (mid there : List ℕ) {after : Lent}
        → m ≡ Migration d t → x ≡ task_in (tasks_on board) t → is_in Moving x ≡ true → y ≡ without_children (arrived x d) (parent_in (parents_on board) d t).held
        → (tasks_on mid ≡ task_stored (tasks_on board) t y) × (channels_on mid ≡ channels_on board) × (parents_on mid ≡ parents_on board)
        → ParentPut d t (arrival_parent d x.moves) mid there
        → StoredBy (swept (senders_of users) (receivers_of users) (Arrival t d x.moves)) (lent hintprocessors hintmoves heldprocessors heldnumbers notes there) after
        → Opened codes users m from r after
    unfolding opened_in site_in
    moved_opened d t mid there {after} e ex moving ey one two s = λ count numbers.
        let q = task_in (tasks_on board) t in
        let is : is_in Moving q ≡ true = rw ex at moving in
        alone_acted (senders_of users) (receivers_of users) from after t d (at t d) (without_children (arrived q d) (parent_in (parents_on board) d t).held) NoPosting
        (Arrival t d q.moves) (rw (e, is) refl) a
        s.whole (s.tasks ∙ two.2 ∙ one.0 ∙ rw (ey, ex) refl) (s.store ∙ rw (ex, two.3, one.1) refl) (s.parents ∙ two.1 ∙ rw (one.2, ex) refl)

    -- one of a task that is not moving
    pub stayed_opened : (d : ProcessorId) (t : TaskId) {x : Task} → m ≡ Migration d t → x ≡ task_in (tasks_on board) t → is_in Moving x ≡ false → Whole board
        → Opened codes users m from r from
    unfolding opened_in site_in
    stayed_opened d t e ex still z = λ count numbers.
        let q = task_in (tasks_on board) t in
        let is : is_in Moving q ≡ false = rw ex at still in
        alone_acted (senders_of users) (receivers_of users) from from t d (at t d) q NoPosting Nothing (rw (e, is) refl) a z (sym (task_stored_own (tasks_on board) t)) refl refl

    -- no letter
    pub none_opened : m ≡ Empty → Whole board → Opened codes users m from r from
    unfolding opened_in task_stored cell_put
    none_opened e z = λ count numbers. rw e (record { whole = z; act = a; tasks = refl; store = refl; parents = refl })
