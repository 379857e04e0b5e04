-- What a plan means: all runs of its net from one state end in one normal form, with the same words on each channel and the same labels of each
-- task, and whatever is reached on the way is on the way there.
use mathlib.Core.Path.{◌≡◌}
use mathlib.Core.Bool.{Bool, true, false}
use mathlib.Core.List.{List}
use Prim.Native.Nat.{suc, ◌+◌, ◌-◌, ◌≤◌}
use native.Mathlib.Omega.{arith}
use lib.ListN.{length}
use Rattle.std.specs.Prelude.{Ok}
use Rattle.base.specs.Lists.{count}
use Rattle.base.specs.Beginnings.{Beginning}
use Rattle.base.proofs.Folds.{fold_same}
use Rattle.net.specs.Machines.{Run, Normal}
use Rattle.net.proofs.Confluence.{Rest, onward, one_normal_form}
use Rattle.plan.specs.declared.TaskId.{TaskId}
use Rattle.plan.specs.declared.ChannelId.{ChannelId}
use Rattle.plan.specs.Numbers.{task_id}
use Rattle.plan.specs.Programs.{Programs}
use Rattle.plan.specs.Refusals.{plan_answer}
use Rattle.plan.specs.Layout.{count_of, total_of}
use Rattle.net.specs.States.{Net, start_net}
use Rattle.net.specs.Labels.{Label, takes_part}
use Rattle.net.specs.Guards.{program_for, is_complete}
use Rattle.net.specs.Nets.{net, Reached, remaining}
use Rattle.net.specs.Stuck.{Stuck}
use Rattle.net.proofs.Commute.{commuting}
use Rattle.net.proofs.Passed.{run_passed}
use Rattle.net.proofs.Remaining.{run_ends, reaches_normal}
use Rattle.net.proofs.NextInstruction.{program_some}
use Rattle.net.proofs.Consistent.{consistent}
use Rattle.net.proofs.Stuck.{stuck}

-- two runs from one state, to a and to a normal form z
module _ (m : Programs) {s a z : Net} {ks ls : List Label} (p : Run (net m) s ks a) (q : Run (net m) s ls z) (normal : Normal (net m) z) where
  -- the first goes on to z, by the labels that are left
  pub continues : Rest (net m) a ks ls z
  continues = onward (net m) (commuting m) p q normal

  -- what it has passed is a beginning of what z has
  pub passed_beginning : (c : ChannelId) → Beginning (a.passed c) (z.passed c)
  passed_beginning c = run_passed m continues.run c

  -- if it has come to a normal form too, that is z, by as many labels of each kind: of each task
  module _ (end : Normal (net m) a) where
    pub same_end : a ≡ z
    same_end = (one_normal_form (net m) (commuting m) p end q normal).0

    pub same_labels : (kind : Label → Bool) → count kind ks ≡ count kind ls
    same_labels = (one_normal_form (net m) (commuting m) p end q normal).1

    pub same_work : (t : TaskId) → count (takes_part m t) ks ≡ count (takes_part m t) ls
    same_work t = same_labels (takes_part m t)

-- at the start all instructions remain: N
start_remaining : (m : Programs) → remaining m start_net ≡ total_of m
unfolding remaining start_net
start_remaining m =
    fold_same ◌+◌ 0 (length m) (λ k. length (program_for m (task_id (suc k))) - 0) (count_of m)
    (λ k h. let e : suc k - 1 ≡ k = omega arith in rw (program_some m (task_id (suc k)) (omega arith), e) (omega arith))

-- no run from the start has more labels than the plan has instructions
pub few_labels : (m : Programs) {ls : List Label} {s : Net} → Reached m ls s → length ls + remaining m s ≤ total_of m
few_labels m r = omega (arith, run_ends m r, start_remaining m)

-- what an accepted plan means: the normal form that every run from the start comes to
pub record Meaning (m : Programs) : Type 0 where
  pub labels : List Label
  pub end : Net
  pub run : Reached m labels end
  pub normal : Normal (net m) end
  pub stuck : (t : TaskId) → end.born t ≡ true → is_complete m end t ≡ false → Stuck m end t

pub meaning : (m : Programs) → plan_answer m ≡ Ok tt → Meaning m
meaning m a =
    let h = reaches_normal m start_net in
    record {
      labels = h.labels;
      end = h.end;
      run = h.run;
      normal = h.normal;
      stuck = stuck m a h.end (consistent m a h.run) h.normal;
    }
