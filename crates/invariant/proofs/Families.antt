-- Every step keeps the tasks in their places and the children with their parents; and who has living children has a living child.
use mathlib.Core.Path.{◌≡◌, refl, ◌∙◌}
use mathlib.Core.Bool.{true, false, not}
use mathlib.Core.Logic.{◌⊎◌, inl, inr}
use mathlib.Core.List.{List, []}
use Prim.Native.Nat.{ℕ, suc, ◌+◌, ◌^◌, ◌<◌, ◌≤◌}
use native.Mathlib.Omega.{arith}
use lib.ListN.{length}
use borrow.Author.Tests.{eqb-false, not-true, not-false}
use Rattle.std.specs.Prelude.{Ok}
use Rattle.base.specs.Choice.{within}
use Rattle.base.specs.Range.{up_to}
use Rattle.base.specs.Sets.{member}
use Rattle.base.proofs.Tests.{is_false, within_low, within_both, up_to_at, below_cases}
use Rattle.base.proofs.Sets.{no_member}
use Rattle.plan.specs.declared.TaskId.{TaskId}
use Rattle.plan.specs.declared.ChannelId.{ChannelId}
use Rattle.plan.specs.declared.Word.{Word}
use Rattle.plan.specs.Numbers.{task_id}
use Rattle.plan.specs.Programs.{Programs}
use Rattle.plan.specs.Users.{parent_of}
use Rattle.plan.specs.Refusals.{plan_answer}
use Rattle.rules.specs.declared.task.TaskState.TheVariants.{Unborn, Moving, Done}
use Rattle.rules.specs.Reports.{Received}
use Rattle.rules.specs.Tasks.{is_in, is_childless}
use Rattle.rules_sound.proofs.Born.{children_few, born_passed}
use Rattle.net.specs.States.{Net}
use Rattle.net.proofs.Children.{child_within}
use Rattle.transitions.specs.Readings.{Reading}
use Rattle.transitions.specs.Progress.{flag, program_of}
use Rattle.transitions.specs.Messages.{flat, ended_of}
use Rattle.transitions.specs.Views.{Histories}
use Rattle.transitions.specs.Transitions.{RunTransition, transfers, owns, creates, finishes, DeliverTransition, delivers, ends, arrives, MoveTransition}
use Rattle.transitions.specs.Agreement.{Running}
use Rattle.invariant.proofs.FamilyParts.{AllPlaced, Kindred, Families}
use Rattle.invariant.proofs.PlacesKept.{places_channel, places_own, places_finish, places_ended, places_create, places_arrival, places_move}
use Rattle.invariant.proofs.ChildrenKept.{kindred_channel, kindred_own, kindred_finish, kindred_ended, kindred_arrival}
use Rattle.invariant.proofs.ChildrenKept.{kindred_move}
use Rattle.transitions.specs.Family.{is_held, Child}
use Rattle.transitions.proofs.Tasks.{unborn_is}
use Rattle.invariant.proofs.BirthsKept.{kindred_create}

-- a child of task p that lives
pub record Living (m : Programs) (x : Reading) (p : TaskId) : Type 0 where
  pub child : TaskId
  pub number : within 2 (length m) child.0 ≡ true
  pub parent : parent_of m child ≡ p
  pub living : member child.0 (x.tasks p).children ≡ true
  pub born : is_in Unborn (x.tasks child) ≡ false
  pub not_done : x.messages ≡ [] → is_in Done (x.tasks child) ≡ false

module _ {m : Programs} {h : Histories} {s : Net} {x : Reading} {w : ChannelId → List Word} (r : Running m h s x w) where
  -- nobody is moving where there is no letter
  pub no_moving : x.messages ≡ [] → (t : TaskId) → within 1 (length m) t.0 ≡ true → is_in Moving (x.tasks t) ≡ false
  unfolding flat
  no_moving e t i = is_false (is_in Moving (x.tasks t)) (λ q. let l = rw (e, q) at (r.places t i).one_mover in omega arith)

  -- who has a count and is not moving stands at a desk
  standing : (t : TaskId) → within 1 (length m) t.0 ≡ true → is_in Moving (x.tasks t) ≡ false → 1 ≤ (x.tasks t).moves → 1 ≤ (x.tasks t).processor.0
  standing t i e l =
      let n = x.processors in
      let g = program_of m t in
      let born : is_in Unborn (x.tasks t) ≡ false =
      is_false (is_in Unborn (x.tasks t)) (λ b. omega (arith, (unborn_is n (length m) g (x.tasks t) (r.tasks t i) b).unmoved)) in
      within_low 1 n (x.tasks t).processor.0 (rw e at (born_passed n (length m) g (x.tasks t) (r.tasks t i) born).processor)

module _ (m : Programs) (a : plan_answer m ≡ Ok tt) {h : Histories} {s : Net} {x : Reading} {w : ChannelId → List Word}
    (r : Running m h s x w) where
  -- nobody is held where there is no letter
  none_held : x.messages ≡ [] → (p u : TaskId) → within 1 (length m) p.0 ≡ true
      → Child u (h p) (x.tasks p) (x.tasks u) (x.parents p) (ended_of u x.messages) → is_held u (h p) (x.tasks p) (x.parents p) ≡ false
  none_held e p u i k =
      is_false (is_held u (h p) (x.tasks p) (x.parents p)) (λ q.
      let c = k.held_for (h p (x.tasks p).moves) q in
      omega (arith, standing r p i (no_moving r e p i) c.born, c.moving))

  -- where there is no letter, just the children that are born and not done are in a set
  pub living_flag : x.messages ≡ [] → (p u : TaskId) → within 1 (length m) p.0 ≡ true → within 2 (length m) u.0 ≡ true → parent_of m u ≡ p
      → flag (member u.0 (x.tasks p).children) + flag (is_in Done (x.tasks u)) ≡ flag (not (is_in Unborn (x.tasks u)))
  unfolding flat
  living_flag n p u i two parent =
      let k = rw parent at (r.children u two) in
      let l = rw (none_held n p u i k, n) at k.living in
      omega (arith, l)

  -- who is in a set is a living child
  lives : (p u : TaskId) → within 1 (length m) p.0 ≡ true → within 1 (length m) u.0 ≡ true
      → member u.0 (x.tasks p).children ≡ true → Living m x p
  unfolding flat
  lives p u i j e =
      let parent = r.kin p u (within_low 1 (length m) u.0 j) e in
      let two = child_within m a p u (within_low 1 (length m) p.0 i) parent in
      let k = rw parent at (r.children u two) in
      let l = rw e at k.living in
      let f = k.later in
      let born : is_in Unborn (x.tasks u) ≡ false = is_false (is_in Unborn (x.tasks u)) (λ b. let z = rw b at l in omega arith) in
      record {
        child = u;
        number = two;
        parent = parent;
        living = e;
        born = born;
        not_done = λ n. is_false (is_in Done (x.tasks u)) (λ d. let z = rw (d, born, none_held n p u i k, n) at l in omega arith);
      }

  -- a set that is not empty has a child
  pub living_child : (p : TaskId) → within 1 (length m) p.0 ≡ true → is_childless (x.tasks p) ≡ false → Living m x p
  living_child p i c = go (x.tasks p).children refl (below_cases (λ k. not (member (suc k) (x.tasks p).children)) (length m))
    where
      go : (set : ℕ) → (x.tasks p).children ≡ set
          → (up_to (length m) (λ k. not (member k set)) ≡ true) ⊎ ((k : ℕ) × (k < length m) × (not (member (suc k) set) ≡ false)) → Living m x p
      go set e (inl all) =
          let few : set < 2 ^ length m = rw e at (children_few x.processors (length m) (program_of m p) (x.tasks p) (r.tasks p i)) in
          let none = no_member (length m) set few (λ k l f. not-true (member k set) (up_to_at (λ k. not (member k set)) (length m) k l f all)) in
          absurd (eqb-false (x.tasks p).children 0 c (e ∙ none))
      go set e (inr (k, l, q)) =
          lives p (task_id (suc k)) i (within_both 1 (length m) (suc k) (omega arith) l) (rw e (not-false (member (suc k) set) q))

  both : {h' : Histories} {y : Reading} → AllPlaced m h' y → Kindred m h' y → Families m h' y
  both p k = record { places = p; children = k.children; kin = k.kin }

  -- by each act
  pub families_run : {h' : Histories} {y : Reading} {got : Received} → RunTransition m h x h' y got → Families m h' y
  families_run (transfers e transition) = both (places_channel r transition) (kindred_channel m a r transition)
  families_run (owns transition) = both (places_own r transition) (kindred_own m a r transition)
  families_run (creates transition) = both (places_create r transition) (kindred_create m a r transition)
  families_run (finishes transition) = both (places_finish r transition) (kindred_finish m a r transition)

  pub families_deliver : {y : Reading} {got : Received} → DeliverTransition m h x y got → Families m h y
  families_deliver (delivers p e transition) = both (places_channel r transition) (kindred_channel m a r transition)
  families_deliver (ends transition) = both (places_ended r transition) (kindred_ended m a r transition)
  families_deliver (arrives transition) = both (places_arrival r transition) (kindred_arrival m a r transition)

  pub families_move : {h' : Histories} {y : Reading} → MoveTransition m h h' x y → Families m h' y
  families_move transition = both (places_move r transition) (kindred_move m a r transition)
