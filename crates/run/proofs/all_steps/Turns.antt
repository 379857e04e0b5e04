-- Steps on the parts of a rig: one list after the other, and how many reports they give.
use mathlib.Core.Path.{◌≡◌, refl, ap}
use mathlib.Core.List.{List, [], ◌∷◌, ◌++◌}
use Prim.Native.Nat.{ℕ, suc}
use lib.ListN.{length}
use Rattle.rules.specs.declared.message.Network.{Network}
use Rattle.rules.specs.declared.step.Step.{Step}
use Rattle.rules.specs.declared.system.TaskTable.{TaskTable}
use Rattle.rig_parts.specs.declared.kept.Kept.{Kept}
use Rattle.rig_parts.specs.Facts.{Facts}
use Rattle.rig_parts.specs.Turns.{turn_of}
use Rattle.run.specs.all_steps.Writes.{Turns, turns_of}

-- what h and then g leave
abbrev pub then_turns : Turns → Turns → Turns
then_turns h g = record { reports = h.reports ++ g.reports; tasks = g.tasks; network = g.network; kept = g.kept }

module _ (f : Facts) (n : ℕ) where
  pub turns_append : (ts : TaskTable) (k : Network) (s : Kept) (xs ys : List Step)
      → let h = turns_of f n ts k s xs in turns_of f n ts k s (xs ++ ys) ≡ then_turns h (turns_of f n h.tasks h.network h.kept ys)
  unfolding turns_of
  turns_append ts k s [] ys = refl
  turns_append ts k s (x ∷ xs) ys =
      let t = turn_of f n ts k s x in
      rw (turns_append t.tasks t.network t.kept xs ys) refl

  pub turns_reports : (ts : TaskTable) (k : Network) (s : Kept) (xs : List Step) → length (turns_of f n ts k s xs).reports ≡ length xs
  unfolding turns_of
  turns_reports ts k s [] = refl
  turns_reports ts k s (x ∷ xs) = let t = turn_of f n ts k s x in ap suc (turns_reports t.tasks t.network t.kept xs)
