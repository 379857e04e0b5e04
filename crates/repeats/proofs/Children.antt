-- The children that a task has created so far: complete here where they are there.
use mathlib.Core.Path.{◌≡◌, refl, sym, ◌∙◌}
use mathlib.Core.Bool.{Bool, true, false, not, ◌&&◌}
use mathlib.Core.List.{[], ◌∷◌}
use lib.Dec.{eqb}
use Rattle.base.specs.Choice.{pick}
use Rattle.base.specs.Lists.{every}
use Rattle.base.proofs.Tests.{and_left, and_right, and_both, or_follows}
use Rattle.plan.specs.declared.TaskId.{TaskId}
use Rattle.plan.specs.Numbers.{task_id}
use Rattle.plan.specs.Kinds.{op_create}
use Rattle.plan.specs.Programs.{Program, Programs}
use Rattle.net.specs.States.{Net}
use Rattle.net.specs.Labels.{is_create}
use Rattle.net.specs.Guards.{is_complete, child_complete}
use Rattle.repeat_laws.specs.Left.{creates_in}

-- only creates count
only_creates : (m : Programs) (s : Net) (g : Program) → every (child_complete m s) (creates_in g) ≡ every (child_complete m s) g
unfolding every creates_in
only_creates m s [] = refl
only_creates m s (i ∷ g) = go (eqb i.opcode op_create) refl (only_creates m s g)
  where
    go : (b : Bool) → eqb i.opcode op_create ≡ b → every (child_complete m s) (creates_in g) ≡ every (child_complete m s) g
        → every (child_complete m s) (pick b (i ∷ creates_in g) (creates_in g)) ≡ child_complete m s i && every (child_complete m s) g
    go true e h = rw h refl
    go false e h = rw e h

module _ (m o : Programs) (s n : Net) (follows : (u : TaskId) → is_complete m s u ≡ true → is_complete o n u ≡ true) where
  all_follow : (g : Program) → every (child_complete m s) g ≡ true → every (child_complete o n) g ≡ true
  unfolding every
  all_follow [] h = refl
  all_follow (i ∷ g) h =
      and_both (child_complete o n i) _ (or_follows (not (is_create i)) _ _ (follows (task_id i.operand)) (and_left (child_complete m s i) _ h))
      (all_follow g (and_right (child_complete m s i) _ h))

  -- of programs with the same creates
  pub children_follow : (g h : Program) → creates_in g ≡ creates_in h → every (child_complete m s) g ≡ true → every (child_complete o n) h ≡ true
  children_follow g h e k =
      sym (only_creates o n h) ∙ rw (← e) (all_follow (creates_in g) (only_creates m s g ∙ k))
