-- The frame law: a run of task t at desk d reads and changes only its footprint.
use Rattle.std.specs.Prelude.{◌≡◌, true, ◌⊎◌}
use Rattle.plan.specs.declared.TaskId.{TaskId}
use Rattle.rules.specs.declared.system.System.{System}
use Rattle.rules.specs.Tasks.{is_at}
use Rattle.rules.specs.Systems.{task_at}
use Rattle.rules.specs.Effects.{Effect}
use Rattle.rules_laws.specs.Shapes.{Shaped}
use Rattle.commute.specs.Footprints.{Footprint, footprint, outside, creates, Alike}

-- two effects are alike in a footprint, and they post and report the same
pub record SameEffect (f : Footprint) (e o : Effect) : Type 0 where
  pub system : Alike f e.system o.system
  pub posting : o.posting ≡ e.posting
  pub received : o.received ≡ e.received

-- another rig is alike in the footprint, has the same plan, and the same tasks are at the desk of task t
pub record SeenAlike (r : System) (t : TaskId) (q : System) : Type 0 where
  pub shaped : Shaped q
  pub plan : q.plan ≡ r.plan
  pub parts : Alike (footprint r t) r q
  pub there : (v : TaskId) → is_at (task_at r t).processor (task_at q v) ≡ is_at (task_at r t).processor (task_at r v)

-- what a run of task t does, as a function of the rig, is framed at the rig r
pub record Framed (r : System) (t : TaskId) (run : System → Effect) : Type 0 where
  -- outside its footprint it changes nothing
  pub changes : Alike (outside (footprint r t)) r (run r).system
  -- and what it does to the footprint, posts and reports follows from the footprint
  pub reads : (q : System) → SeenAlike r t q → SameEffect (footprint r t) (run r) (run q)
  -- no task changes its desk but the new child, which is then at the desk of task t
  pub stay : (v : TaskId)
      → ((task_at (run r).system v).processor ≡ (task_at r v).processor)
      ⊎ ((creates r t v ≡ true) × ((task_at (run r).system v).processor ≡ (task_at r t).processor))
