-- What is derived of a plan once a run, and the parts of a rig beside it.
use Rattle.std.specs.Prelude.{◌≡◌, true, List, ℕ}
use Rattle.plan.specs.declared.Plan.{Plan}
use Rattle.rules.specs.declared.system.TaskTable.{TaskTable}
use Rattle.rules.specs.declared.system.System.{System}
use Rattle.rules.specs.Sound.{system_ok}
use Rattle.rules.specs.Systems.{store_in}
use Rattle.rules_laws.specs.Shapes.{Shaped}
use Rattle.plan_index.specs.ends.Derived.{ends_of}
use Rattle.rig_parts.specs.declared.kept.Kept.{Kept}

pub record Facts : Type 0 where
  pub tasks : ℕ
  pub codes : List ℕ
  pub numbers : List ℕ
  pub senders : List ℕ
  pub receivers : List ℕ
  pub parents : List ℕ

abbrev pub facts : ℕ → List ℕ → List ℕ → List ℕ → List ℕ → List ℕ → Facts
facts n codes numbers senders receivers parents =
    record { tasks = n; codes = codes; numbers = numbers; senders = senders; receivers = receivers; parents = parents }

abbrev pub facts_of : Plan → Facts
facts_of p = facts p.tasks p.codes (ends_of p).numbers (ends_of p).senders (ends_of p).receivers (ends_of p).parents

-- what a rig keeps for channels and for parents
abbrev pub kept_in : System → Kept
kept_in r = record { store = store_in r; parents = r.parents }

-- these are the parts of a rig that 9 does not refuse: desks, tasks, what is kept for channels and parents, how many letters
pub record PartsOf (f : Facts) (n : ℕ) (ts : TaskTable) (s : Kept) (used : ℕ) : Type 0 where
  pub system : System
  pub shaped : Shaped system
  pub sound : system_ok system ≡ true
  pub facts_of_lem : f ≡ facts_of system.plan
  pub processors : n ≡ system.processors
  pub tasks : ts ≡ system.tasks
  pub kept : s ≡ kept_in system
  pub messages : used ≡ system.network.used
