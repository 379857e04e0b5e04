-- When a task's place, its life and its family stay as they were, and what that keeps.
use mathlib.Core.Path.{◌≡◌, refl, sym, ap, ◌∙◌, subst, fun_ext}
use mathlib.Core.Bool.{true, false, ◌&&◌}
use mathlib.Core.Logic.{◌≢◌}
use mathlib.Core.List.Memᴰ
use mathlib.Core.List.{List}
use Prim.Native.Nat.{ℕ, ◌+◌, ◌≤◌}
use lib.ListN.{length}
use Rattle.base.specs.Choice.{within}
use Rattle.base.specs.Sets.{member, removed}
use Rattle.base.proofs.Tests.{and_left}
use Rattle.base.proofs.Choices.{pick_cases}
use Rattle.base.proofs.Sets.{member_removed, other_removed}
use Rattle.plan.specs.declared.TaskId.{TaskId}
use Rattle.plan.specs.declared.ProcessorId.{ProcessorId}
use Rattle.plan.specs.declared.Instruction.{Instruction}
use Rattle.plan.specs.Programs.{Programs}
use Rattle.plan.specs.Users.{parent_of}
use Rattle.rules.specs.declared.task.TaskState.TheVariants.{Unborn, Ready, Waiting, Moving, Done}
use Rattle.rules.specs.declared.task.Task.{Task}
use Rattle.rules.specs.Tasks.{is_in, departed, arrived, readied, is_childless, with_children, without_child, woken, without_children}
use Rattle.rules.specs.Local.{create_rule}
use Rattle.net.specs.States.{at_task}
use Rattle.channel.specs.Bags.{In}
use Rattle.transitions.specs.Readings.{Reading}
use Rattle.transitions.specs.Messages.{ended_of, movers_of}
use Rattle.transitions.specs.Views.{Histories}
use Rattle.transitions.specs.Transitions.{Own, goes_on, waits, finished}
use Rattle.transitions.specs.Family.{Placed, Child, Kin}
use Rattle.transitions.proofs.Updates.{at_elim}
use Rattle.transitions.proofs.Flats.{none_of}
use Rattle.transitions.proofs.Tasks.{state_is, Steady, unchanged, steady_change, ready_stands, waiting_stands}
use Rattle.rules.specs.declared.channel.Hint.{Hint}
use Rattle.rules.specs.declared.system.ParentEntry.{ParentEntry}
use Rattle.channel.specs.Hints.{Table}

-- every task is in its place, and every child belongs to its parent
abbrev pub AllPlaced : Programs → Histories → Reading → Type 0
AllPlaced m h x = (t : TaskId) → within 1 (length m) t.0 ≡ true → Placed x.processors (h t) (x.tasks t) (x.parents t) (movers_of t x.messages)

abbrev pub ChildIn : Programs → Histories → Reading → TaskId → Type 0
ChildIn m h x u = Child u (h (parent_of m u)) (x.tasks (parent_of m u)) (x.tasks u) (x.parents (parent_of m u)) (ended_of u x.messages)

abbrev pub AllChildren : Programs → Histories → Reading → Type 0
AllChildren m h x = (u : TaskId) → within 2 (length m) u.0 ≡ true → ChildIn m h x u

pub record Kindred (m : Programs) (h : Histories) (x : Reading) : Type 0 where
  pub children : AllChildren m h x
  pub kin : Kin m x.tasks

-- what a running rig says of desks and families
pub record Families (m : Programs) (h : Histories) (x : Reading) : Type 0 where
  pub places : AllPlaced m h x
  pub children : AllChildren m h x
  pub kin : Kin m x.tasks

-- an empty list has nothing in it
pub none_in : {C : Type 0} {A : Type 0} (xs : List A) {a : A} → length xs ≡ 0 → In a xs → C
none_in xs e i = absurd (Memᴰ.not-nil (rw (none_of xs e) at i))

-- the task is where it was
pub record SamePlace (x z : Task) : Type 0 where
  pub processor : z.processor ≡ x.processor
  pub moves : z.moves ≡ x.moves
  pub moving : is_in Moving z ≡ is_in Moving x

-- it is born or not, done or not, as it was, and has its own pointer
pub record SameLife (x z : Task) : Type 0 where
  pub origin : z.origin ≡ x.origin
  pub unborn : is_in Unborn z ≡ is_in Unborn x
  pub done : is_in Done z ≡ is_in Done x

-- u is among its children if it was, and it is where it was
pub record SameFamily (u : TaskId) (x z : Task) : Type 0 where
  pub members : member u.0 z.children ≡ member u.0 x.children
  pub processor : z.processor ≡ x.processor
  pub moves : z.moves ≡ x.moves

pub same_placed : {n : ℕ} {history : ℕ → ℕ} {x z : Task} {entries : ℕ → ParentEntry} {movers : List ℕ} → SamePlace x z
    → Placed n history x entries movers → Placed n history z entries movers
same_placed e p =
    record {
      one_mover = rw e.moving p.one_mover;
      address = rw e.moves p.address;
      table = rw (e.moves, e.processor) p.table;
      self = rw e.processor p.self;
    }

-- pointers stay where only held children change
pub same_pointers : {n : ℕ} {history : ℕ → ℕ} {x : Task} {entries later : ℕ → ParentEntry} {movers : List ℕ} → ((d : ℕ) → (later d).hint ≡ (entries d).hint)
    → Placed n history x entries movers → Placed n history x later movers
same_pointers {n} {history} {x} {entries} {later} e p =
    let same : ◌≡◌ {A = ℕ → Hint} (λ d. (entries d).hint) (λ d. (later d).hint) = fun_ext λ d. sym (e d) in
    record {
      one_mover = p.one_mover;
      address = p.address;
      table = subst (λ (f : ℕ → Hint). Table n history x.moves x.processor.0 f) same p.table;
      self = λ d l q. p.self d l (ap (λ (o : Hint). o.processor.0) (sym (e d)) ∙ q);
    }

-- a child with a parent that has not left, of whose held children it is one if it was
pub same_child : {u : TaskId} {history : ℕ → ℕ} {parent p child c : Task} {entries later : ℕ → ParentEntry} {ended : List Hint}
    → SameFamily u parent p → SameLife child c → ((d : ℕ) → member u.0 (later d).held ≡ member u.0 (entries d).held)
    → Child u history parent child entries ended → Child u history p c later ended
same_child {u} {history} {parent} f l e k =
    record {
      living = rw (f.members, l.done, l.unborn, f.moves, e (history parent.moves)) k.living;
      later = rw (l.done, f.moves, e (history parent.moves)) k.later;
      held_for = λ d i. rw (f.processor, f.moves) (k.held_for d (sym (e d) ∙ i));
      way = rw f.moves k.way;
      own = rw (l.unborn, l.origin, f.moves) k.own;
      own_here = rw (l.unborn, l.origin, f.moves, f.processor) k.own_here;
    }

module _ {x z : Task} (e : Steady x z) where
  pub steady_place : SamePlace x z
  steady_place = record { processor = e.processor; moves = e.moves; moving = e.moving }

  pub steady_life : SameLife x z
  steady_life = record { origin = e.origin; unborn = e.unborn; done = e.done }

  pub steady_family : (u : TaskId) → SameFamily u x z
  steady_family u = record { members = ap (member u.0) e.children; processor = e.processor; moves = e.moves }

-- what is kept of task u where it is kept of the one that changes, or of the two
module _ (P : Task → Task → Type 0) (same : (x : Task) → P x x) (f : TaskId → Task) where
  pub kept_one : (t : TaskId) (z : Task) (u : TaskId) → (u.0 ≡ t.0 → P (f t) z) → P (f u) (at_task f t z u)
  kept_one t z u p = at_elim (λ v a. v.0 ≡ u.0 → P (f v) a) f t z (λ e. p (sym e)) (λ v ne e. same (f v)) u refl

  pub kept_two : (s t : TaskId) (y z : Task) (u : TaskId) → (u.0 ≡ s.0 → P (f s) y) → (u.0 ≡ t.0 → P (f t) z)
      → P (f u) (at_task (at_task f s y) t z u)
  kept_two s t y z u p q =
      at_elim (λ v a. v.0 ≡ u.0 → P (f v) a) (at_task f s y) t z (λ e. q (sym e)) (λ v ne e. kept_one s y v (λ o. p (sym e ∙ o))) u refl

-- an instruction of its own
pub own_steady : {i : Instruction} {x z : Task} → is_in Ready x ≡ true → Own i x z → Steady x z
own_steady {x = x} r (goes_on t j) =
    record { processor = refl; origin = refl; moves = refl; children = refl; unborn = refl; moving = refl; done = refl }
own_steady {x = x} r (waits o c) = steady_change ready_stands waiting_stands x r (x.pc + 1) x.word

-- a task that creates u, and one that finishes
module _ (x : Task) (ready : is_in Ready x ≡ true) where
  pub creator_place : (u : TaskId) → SamePlace x (create_rule x u)
  creator_place u = record { processor = refl; moves = refl; moving = refl }

  pub finished_place : SamePlace x (finished x)
  finished_place = record { processor = refl; moves = refl; moving = sym (state_is Ready Moving x ready) }

-- a task that may no longer wait
woken_steady : (x : Task) → Steady x (woken x)
unfolding woken
woken_steady x =
    pick_cases (Steady x) (is_in Waiting x && is_childless x) (readied x) x
    (λ e. steady_change waiting_stands ready_stands x (and_left (is_in Waiting x) (is_childless x) e) x.pc x.word)
    (λ e. unchanged x)

-- a task that loses child t
module _ (x : Task) (t : TaskId) where
  lost_steady : Steady (with_children x (removed t.0 x.children)) (without_child x t)
  lost_steady = woken_steady (with_children x (removed t.0 x.children))

  pub lost_set : (without_child x t).children ≡ removed t.0 x.children
  lost_set = lost_steady.children

  pub lost_out : member t.0 (without_child x t).children ≡ false
  lost_out = rw lost_set (member_removed t.0 x.children)

  pub lost_place : SamePlace x (without_child x t)
  lost_place = let e = lost_steady in record { processor = e.processor; moves = e.moves; moving = e.moving }

  pub lost_life : SameLife x (without_child x t)
  lost_life = let e = lost_steady in record { origin = e.origin; unborn = e.unborn; done = e.done }

  -- another child stays
  pub lost_family : (u : TaskId) → 1 ≤ t.0 → 1 ≤ u.0 → t.0 ≢ u.0 → SameFamily u x (without_child x t)
  lost_family u i j ne =
      let e = lost_steady in
      record {
        members = ap (member u.0) lost_set ∙ other_removed t.0 x.children u.0 i j ne;
        processor = e.processor;
        moves = e.moves;
      }

-- a task that departs, and one that arrives
pub departed_life : (x : Task) → is_in Ready x ≡ true → SameLife x (departed x)
departed_life x i = record { origin = refl; unborn = sym (state_is Ready Unborn x i); done = sym (state_is Ready Done x i) }

pub arrived_life : (x : Task) (d : ProcessorId) (held : ℕ) → is_in Moving x ≡ true → SameLife x (without_children (arrived x d) held)
arrived_life x d held i = record { origin = refl; unborn = sym (state_is Moving Unborn x i); done = sym (state_is Moving Done x i) }
