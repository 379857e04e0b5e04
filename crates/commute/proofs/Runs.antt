-- A run is framed: a sync, a set and an add, a create, a finish.
use mathlib.Core.Path.{◌≡◌, refl, sym, ◌∙◌, ap}
use mathlib.Core.Bool.{Bool, true, false, not, or-true}
use mathlib.Core.Logic.{◌⊎◌, inl, inr}
use Prim.Native.Nat.{◌≤◌}
use native.Mathlib.Omega.{arith}
use lib.ListN.{length}
use borrow.Author.Tests.{eq-eqb, not-true}
use Rattle.base.specs.Choice.{pick}
use Rattle.base.proofs.Tests.{or_neither, tests_differ}
use Rattle.plan.specs.declared.Plan.{Plan}
use Rattle.plan.specs.declared.TaskId.{TaskId}
use Rattle.plan.specs.declared.ProcessorId.{ProcessorId}
use Rattle.plan.specs.Kinds.{op_create}
use Rattle.plan.specs.Programs.{programs}
use Rattle.plan.specs.Users.{parent_of}
use Rattle.rules.specs.declared.task.Task.{Task}
use Rattle.rules.specs.declared.task.TaskState.TheVariants.{Ready}
use Rattle.rules.specs.declared.rule.Finished.{Finished}
use Rattle.rules.specs.declared.system.ParentEntry.{ParentEntry}
use Rattle.rules.specs.declared.system.System.{System}
use Rattle.rules.specs.Hints.{hint}
use Rattle.rules.specs.Tasks.{is_in, is_at, born}
use Rattle.rules.specs.Systems.{task_at, with_task, parent_at, with_parent, meaning}
use Rattle.rules.specs.Effects.{Effect, changed, changed_posting, receives_on}
use Rattle.rules.specs.Starts.{located, pointing, pointed, birth}
use Rattle.rules.specs.Local.{create_rule, finish_rule}
use Rattle.rules.specs.Runs.{ran_create, ran_finish}
use Rattle.rules_laws.proofs.TaskAt.{with_task_shaped, with_task_plan}
use Rattle.rules_laws.proofs.ParentAt.{with_parent_task_at}
use Rattle.rules_laws.proofs.ForChannels.{for_channels_task_at}
use Rattle.rules_sound.specs.Settled.{Settled}
use Rattle.rules_sound.specs.Sound.{program_in, Startable}
use Rattle.rules_sound.specs.Stands.{Whole}
use Rattle.rules_sound.proofs.Settled.{settled}
use Rattle.rules_sound.proofs.Frames.{user_in_lem, tasks_few}
use Rattle.commute.specs.Footprints.{Footprint, footprint, outside, creates}
use Rattle.commute.specs.Frames.{SeenAlike, Framed}
use Rattle.commute.proofs.Writes.{task_written}
use Rattle.commute.proofs.Alike.{alike_refl, both_task, both_parent, one_task_lem, one_parent}
use Rattle.commute.proofs.Births.{both_born_lem, one_born_lem}
use Rattle.commute.proofs.Rules.{ended_away, finish_stays}

-- what two finishes leave is alike in a footprint, for a parent p
record SameFinished (f : Footprint) (p : TaskId) (x y : Finished) : Type 0 where
  pub task : y.task ≡ x.task
  pub parent : f.task p ≡ true → y.parent ≡ x.parent
  pub entry : y.entry ≡ x.entry
  pub posting : y.posting ≡ x.posting

-- a finish of task t with record x and parent p, where the desk keeps e for the parent
abbrev finishing : System → TaskId → TaskId → Task → ParentEntry → Effect
finishing q t p x e =
    let o = finish_rule t x (task_at q p) e in
    changed_posting (with_parent (with_task (with_task q p o.parent) t o.task) x.processor p o.entry) o.posting

finish_is : (q : System) (t p : TaskId) (x : Task) (e : ParentEntry) → parent_of (meaning q) t ≡ p → task_at q t ≡ x → parent_at q x.processor p ≡ e
    → ran_finish q t ≡ finishing q t p x e
unfolding ran_finish
finish_is q t p x e a b c = rw (a, b, c) refl

-- one of two runs by a test
pub framed_pick : (r : System) (t : TaskId) (b : Bool) (x y : System → Effect) → (b ≡ true → Framed r t x) → (b ≡ false → Framed r t y)
    → Framed r t (λ q. pick b (x q) (y q))
framed_pick r t true x y p q = p refl
framed_pick r t false x y p q = q refl

module _ (r : System) (s : Startable r.processors r.plan) (w : Whole r) (t : TaskId) (l : 1 ≤ t.0) (h : t.0 ≤ r.plan.tasks)
    (ready : is_in Ready (task_at r t) ≡ true) where
  abbrev pub desk : ProcessorId
  desk = (task_at r t).processor

  here : Settled r.processors r.plan.tasks (length (program_in r.plan t)) (task_at r t)
  here = settled _ _ _ (task_at r t) Ready refl ready (w.holds.tasks t l h)

  pub desk_low : 1 ≤ desk.0
  desk_low = here.processor

  pub desk_few : desk.0 ≤ 6
  desk_few = omega (arith, here.processor_few, s.few)

  pub task_few : (v : TaskId) → v.0 ≤ r.plan.tasks → v.0 ≤ 64
  task_few v vh = omega (arith, tasks_few _ _ s)

  -- the footprint has the task and its desk, and each task there
  pub there_in : (v : TaskId) → is_at desk (task_at r v) ≡ true → (footprint r t).task v ≡ true
  unfolding footprint
  there_in v e = rw e refl

  pub task_in_lem : (footprint r t).task t ≡ true
  task_in_lem = there_in t (eq-eqb desk.0 desk.0 refl)

  pub desk_in : (footprint r t).processor desk ≡ true
  unfolding footprint
  desk_in = eq-eqb desk.0 desk.0 refl

  -- what is outside is not there
  pub out_away : (v : TaskId) → (outside (footprint r t)).task v ≡ true → is_at desk (task_at r v) ≡ false
  unfolding footprint
  out_away v e = (or_neither (is_at desk (task_at r v)) (creates r t v) (not-true _ e)).0

  not_out : {b : Bool} {A : Type 0} → b ≡ true → not b ≡ true → A
  not_out e k = absurd (tests_differ e (not-true _ k))

  -- another record of the task
  pub own_framed : (rule : Task → Task) → (rule (task_at r t)).processor ≡ desk → Framed r t (λ q. changed (with_task q t (rule (task_at q t))))
  own_framed rule same =
      record {
        changes =
            one_task_lem (outside (footprint r t)) r r w.shaped (alike_refl _ r) t (rule (task_at r t)) (task_few t h) (λ k. not_out task_in_lem k);
        reads =
            λ q seen.
            record {
              system =
                  both_task (footprint r t) r q w.shaped seen.shaped seen.parts t (rule (task_at r t)) (rule (task_at q t)) (task_few t h)
                  (λ k. ap rule (seen.parts.tasks t k));
              posting = refl;
              received = refl;
            };
        stay =
            λ v.
            inl
            (task_written r r w.shaped w.shaped (λ y z. z.processor ≡ (task_at r v).processor) t (rule (task_at r t)) (rule (task_at r t)) v (task_few t h)
            (λ e. same ∙ ap (λ (x : TaskId). (task_at r x).processor) e)
            refl);
      }

  -- a create of task u
  module _ (u : TaskId) (uh : u.0 ≤ r.plan.tasks) (made : creates r t u ≡ true) where
    abbrev after : Task → System → System
    after x q = with_task q t (create_rule x u)

    abbrev own_pointer : Task → System → System
    own_pointer x q = birth (after x q) u x.processor (hint x.processor x.moves)

    child_in : (footprint r t).task u ≡ true
    unfolding footprint
    child_in = rw (made, or-true (is_at desk (task_at r u))) refl

    create_stays : (v : TaskId)
        → ((task_at (own_pointer (task_at r t) r) v).processor ≡ (task_at r v).processor)
        ⊎ ((creates r t v ≡ true) × ((task_at (own_pointer (task_at r t) r) v).processor ≡ desk))
    unfolding birth
    create_stays v =
        let x = task_at r t in
        let y = after x r in
        let ys = with_task_shaped r t (create_rule x u) w.shaped in
        let child = born desk (hint desk x.moves) in
        let z = with_task y u child in
        let P : Task → Task → Type 0 =
        λ a b. (b.processor ≡ (task_at r v).processor) ⊎ ((creates r t v ≡ true) × (b.processor ≡ desk)) in
        let first : P (task_at y v) (task_at y v) =
        task_written r r w.shaped w.shaped P t (create_rule x u) (create_rule x u) v (task_few t h)
        (λ e. inl (ap (λ (k : TaskId). (task_at r k).processor) e))
        (inl refl) in
        let both : P (task_at z v) (task_at z v) = task_written y y ys ys P u child child v (task_few u uh) (λ e. inr (rw e at made, refl)) first in
        let told = pointed z desk u (hint desk 1) in
        let same : task_at (own_pointer x r) v ≡ task_at z v =
        for_channels_task_at (receives_on (meaning told) u) (located desk 1) desk 128 told v
        ∙ with_parent_task_at z desk u (pointing (parent_at z desk u) (hint desk 1)) v in
        rw same both

    pub create_framed : Framed r t (λ q. ran_create q t u)
    unfolding ran_create
    create_framed =
        let x = task_at r t in
        let own = hint x.processor x.moves in
        record {
          changes =
              let g = outside (footprint r t) in
              one_born_lem g r (after x r) w.shaped (with_task_shaped r t (create_rule x u) w.shaped)
              (one_task_lem g r r w.shaped (alike_refl g r) t (create_rule x u) (task_few t h) (λ k. not_out task_in_lem k))
              u
              (task_few u uh)
              desk
              desk_low
              desk_few
              own
              (rw desk_in refl)
              (rw child_in refl);
          reads =
              λ q seen.
              rw (seen.parts.tasks t task_in_lem)
              (record {
                system =
                    both_born_lem (footprint r t) (after x r) (after x q) (with_task_shaped r t (create_rule x u) w.shaped)
                    (with_task_shaped q t (create_rule x u) seen.shaped)
                    (both_task (footprint r t) r q w.shaped seen.shaped seen.parts t (create_rule x u) (create_rule x u) (task_few t h) (λ k. refl))
                    u
                    (task_few u uh)
                    desk
                    desk_low
                    desk_few
                    own
                    desk_in
                    (with_task_plan q t (create_rule x u) ∙ seen.plan ∙ sym (with_task_plan r t (create_rule x u)));
                posting = refl;
                received = refl;
              });
          stay = create_stays;
        }

  -- a finish, by what is there of the parent
  module _ (q : System) (seen : SeenAlike r t q) (p : TaskId) (e : ParentEntry) where
    finish_same : SameFinished (footprint r t) p (finish_rule t (task_at r t) (task_at r p) e) (finish_rule t (task_at r t) (task_at q p) e)
    finish_same = go (is_at desk (task_at r p)) refl
      where
        go : (b : Bool) → is_at desk (task_at r p) ≡ b
            → SameFinished (footprint r t) p (finish_rule t (task_at r t) (task_at r p) e) (finish_rule t (task_at r t) (task_at q p) e)
        go true at = rw (seen.parts.tasks p (there_in p at)) (record { task = refl; parent = λ k. refl; entry = refl; posting = refl })
        go false at =
            let away : is_at desk (task_at q p) ≡ false = seen.there p ∙ at in
            let both = ended_away t (task_at r t) (task_at r p) (task_at q p) e at away in
            record {
              task = both.task;
              parent = λ k. both.other_parent ∙ seen.parts.tasks p k ∙ sym both.parent;
              entry = both.entry;
              posting = both.posting;
            }

  pub finish_framed : Framed r t (λ q. ran_finish q t)
  unfolding ran_finish
  finish_framed =
      let p = parent_of (meaning r) t in
      let ph : p.0 ≤ 64 = task_few p (user_in_lem r.plan op_create t.0) in
      let o = finish_rule t (task_at r t) (task_at r p) (parent_at r desk p) in
      let there = finish_stays t (task_at r t) (task_at r p) (parent_at r desk p) in
      let left = with_task r p o.parent in
      let left-shaped = with_task_shaped r p o.parent w.shaped in
      record {
        changes =
            let g = outside (footprint r t) in
            one_parent g r (with_task left t o.task) (with_task_shaped left t o.task left-shaped)
            (one_task_lem g r left left-shaped
            (one_task_lem g r r w.shaped (alike_refl g r) p o.parent ph
            (λ k. (ended_away t (task_at r t) (task_at r p) (task_at r p) (parent_at r desk p) (out_away p k) (out_away p k)).parent))
            t
            o.task
            (task_few t h)
            (λ k. not_out task_in_lem k))
            desk
            desk_low
            desk_few
            (rw desk_in refl)
            p
            o.entry
            ph;
        reads =
            λ q seen.
            let f = footprint r t in
            let e = parent_at r desk p in
            let k = finish_same q seen p e in
            let y = finish_rule t (task_at r t) (task_at q p) e in
            let first = both_task f r q w.shaped seen.shaped seen.parts p o.parent y.parent ph k.parent in
            let q₁ = with_task q p y.parent in
            let q₁-shaped = with_task_shaped q p y.parent seen.shaped in
            let second = both_task f left q₁ left-shaped q₁-shaped first t o.task y.task (task_few t h) (λ z. k.task) in
            let plan : parent_of (meaning q) t ≡ p = ap (λ (z : Plan). parent_of (programs z) t) seen.plan in
            let same = finish_is q t p (task_at r t) e plan (seen.parts.tasks t task_in_lem) (seen.parts.parents desk p desk_low desk_few ph desk_in) in
            rw same
            (record {
              system =
                  both_parent f (with_task left t o.task) (with_task q₁ t y.task) (with_task_shaped left t o.task left-shaped)
                  (with_task_shaped q₁ t y.task q₁-shaped)
                  second
                  desk
                  desk_low
                  desk_few
                  p
                  o.entry
                  y.entry
                  ph
                  (λ z. k.entry);
              posting = k.posting;
              received = refl;
            });
        stay =
            λ v.
            let P : Task → Task → Type 0 = λ y z. z.processor ≡ (task_at r v).processor in
            let first : P (task_at left v) (task_at left v) =
            task_written r r w.shaped w.shaped P p o.parent o.parent v ph
            (λ e. there.parent ∙ ap (λ (k : TaskId). (task_at r k).processor) e)
            refl in
            inl
            (ap (λ (x : Task). x.processor) (with_parent_task_at (with_task left t o.task) desk p o.entry v)
            ∙ task_written left left left-shaped left-shaped P t o.task o.task v (task_few t h)
            (λ e. there.task ∙ ap (λ (k : TaskId). (task_at r k).processor) e)
            first);
      }
