-- What a run adds: the words passed before it are a beginning of those passed after it, and each task completes an instruction for each label
-- that it takes part in.
use mathlib.Core.Path.{◌≡◌, refl}
use mathlib.Core.Bool.{Bool, true, false}
use mathlib.Core.List.{List, [], ◌∷◌, ◌++◌}
use mathlib.Core.Logic.{by_cases}
use Prim.Native.Nat.{◌+◌}
use native.Mathlib.Decide.{ℕ_discrete}
use native.Mathlib.Omega.{arith}
use Rattle.base.specs.Choice.{pick}
use Rattle.base.specs.Lists.{count}
use Rattle.base.specs.Beginnings.{Beginning}
use Rattle.base.proofs.Beginnings.{beginning_more, beginning_whole, beginning_trans}
use Rattle.base.proofs.Updates.{updated_at, updated_other}
use Rattle.net.specs.Machines.{Run, stop, take}
use Rattle.plan.specs.declared.TaskId.{TaskId}
use Rattle.plan.specs.declared.ChannelId.{ChannelId}
use Rattle.plan.specs.Programs.{Programs}
use Rattle.plan.specs.Users.{sender_of}
use Rattle.net.specs.States.{Net}
use Rattle.net.specs.Labels.{Label, own, pass, takes_part}
use Rattle.net.specs.Guards.{enabled}
use Rattle.net.specs.Effects.{after_own, after_pass, effect}
use Rattle.net.specs.Nets.{net}
use Rattle.net.proofs.Stays.{completed_grows, completed_stays}

module _ (m : Programs) where
  label_passed : (s : Net) (l : Label) (c : ChannelId) → Beginning (s.passed c) ((effect m s l).passed c)
  unfolding effect after_own after_pass
  label_passed s (own t) c = beginning_whole (s.passed c)
  label_passed s (pass d) c =
      by_cases (ℕ_discrete c.0 d.0)
      (λ e. rw (updated_at (λ (x : ChannelId). x.0) s.passed d c (s.passed d ++ (s.word (sender_of m d) ∷ [])) e) (same c e))
      (λ ne. rw (updated_other (λ (x : ChannelId). x.0) s.passed d c (s.passed d ++ (s.word (sender_of m d) ∷ [])) ne) (beginning_whole (s.passed c)))
    where
      same : (c : ChannelId) → c.0 ≡ d.0 → Beginning (s.passed c) (s.passed d ++ (s.word (sender_of m d) ∷ []))
      same c e = rw e (beginning_more (s.passed d) (s.word (sender_of m d) ∷ []))

  pub run_passed : {s z : Net} {ls : List Label} → Run (net m) s ls z → (c : ChannelId) → Beginning (s.passed c) (z.passed c)
  run_passed {s} stop c = beginning_whole (s.passed c)
  run_passed {z = z} (take {s = s} l h r) c = beginning_trans (s.passed c) ((effect m s l).passed c) (z.passed c) (label_passed s l c) (run_passed r c)

  label_completed : (s : Net) (l : Label) (t : TaskId) → enabled m s l ≡ true → (effect m s l).completed t ≡ s.completed t + pick (takes_part m t l) 1 0
  label_completed s l t h = go (takes_part m t l) refl
    where
      go : (b : Bool) → takes_part m t l ≡ b → (effect m s l).completed t ≡ s.completed t + pick b 1 0
      go true e = omega (arith, completed_grows m s l t h e)
      go false e = omega (arith, completed_stays m s l t e)

  pub run_completed : {s z : Net} {ls : List Label} → Run (net m) s ls z → (t : TaskId) → z.completed t ≡ s.completed t + count (takes_part m t) ls
  unfolding count
  run_completed stop t = omega arith
  run_completed (take {s = s} l h r) t = omega (arith, label_completed s l t h, run_completed r t)
