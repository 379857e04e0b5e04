-- The outcome of a rule about a channel, stored in rigs that are alike in a footprint.
use mathlib.Core.Path.{◌≡◌, refl, ◌∙◌, ap}
use mathlib.Core.Bool.{true, false}
use Prim.Native.Nat.{◌≤◌}
use Rattle.plan.specs.declared.TaskId.{TaskId}
use Rattle.plan.specs.declared.ProcessorId.{ProcessorId}
use Rattle.plan.specs.declared.ChannelId.{ChannelId}
use Rattle.rules.specs.declared.task.Task.{Task}
use Rattle.rules.specs.declared.rule.Outcome.{Outcome}
use Rattle.rules.specs.declared.system.System.{System}
use Rattle.rules.specs.Systems.{task_at, channel_at, with_task}
use Rattle.rules.specs.Effects.{with_outcome}
use Rattle.rules_laws.specs.Shapes.{Shaped}
use Rattle.rules_laws.proofs.TaskAt.{with_task_shaped}
use Rattle.rules_laws.proofs.CellAt.{with_cell_task_at}
use Rattle.commute.specs.Footprints.{Footprint, Alike}
use Rattle.commute.specs.Frames.{SameEffect}
use Rattle.commute.proofs.Writes.{task_written}
use Rattle.commute.proofs.Alike.{alike_refl, both_task, both_cell, one_task_lem, one_cell}

-- two outcomes for the tasks s and u and channel c are alike in a footprint
pub record SameOutcome (f : Footprint) (s u : TaskId) (c : ChannelId) (o p : Outcome) : Type 0 where
  pub sender : f.task s ≡ true → p.sender ≡ o.sender
  pub receiver : f.task u ≡ true → p.receiver ≡ o.receiver
  pub entry : p.cell.entry ≡ o.cell.entry
  pub channel : f.channel c ≡ true → p.cell.channel ≡ o.cell.channel
  pub posting : p.posting ≡ o.posting
  pub received : p.received ≡ o.received

-- an outcome keeps what the footprint has of the rig r
pub record KeepsOutcome (f : Footprint) (r : System) (s u : TaskId) (c : ChannelId) (o : Outcome) : Type 0 where
  pub sender : f.task s ≡ true → o.sender ≡ task_at r s
  pub receiver : f.task u ≡ true → o.receiver ≡ task_at r u
  pub channel : f.channel c ≡ true → o.cell.channel ≡ channel_at r c

module _ (s u : TaskId) (sh : s.0 ≤ 64) (uh : u.0 ≤ 64) (c : ChannelId) (cl : 1 ≤ c.0) (ch : c.0 ≤ 128)
    (d : ProcessorId) (dl : 1 ≤ d.0) (dh : d.0 ≤ 6) where
  module _ (f : Footprint) where
    pub both_outcome : (r q : System) → Shaped r → Shaped q → Alike f r q → (o p : Outcome) → SameOutcome f s u c o p
        → SameEffect f (with_outcome r s u c d o) (with_outcome q s u c d p)
    unfolding with_outcome
    both_outcome r q rs qs a o p k =
        let r₁ = with_task r s o.sender in
        let q₁ = with_task q s p.sender in
        let rs₁ = with_task_shaped r s o.sender rs in
        let qs₁ = with_task_shaped q s p.sender qs in
        let first = both_task f r q rs qs a s o.sender p.sender sh k.sender in
        let second = both_task f r₁ q₁ rs₁ qs₁ first u o.receiver p.receiver uh k.receiver in
        record {
          system =
              both_cell f (with_task r₁ u o.receiver) (with_task q₁ u p.receiver) (with_task_shaped r₁ u o.receiver rs₁)
              (with_task_shaped q₁ u p.receiver qs₁)
              second
              d
              dl
              dh
              c
              o.cell
              p.cell
              cl
              ch
              (λ e. k.entry)
              k.channel;
          posting = k.posting;
          received = k.received;
        }

    pub one_outcome : (r : System) → Shaped r → f.processor d ≡ false → (o : Outcome) → KeepsOutcome f r s u c o → Alike f r (with_outcome r s u c d o).system
    unfolding with_outcome
    one_outcome r rs away o k =
        let r₁ = with_task r s o.sender in
        let rs₁ = with_task_shaped r s o.sender rs in
        let first = one_task_lem f r r rs (alike_refl f r) s o.sender sh k.sender in
        let second = one_task_lem f r r₁ rs₁ first u o.receiver uh k.receiver in
        one_cell f r (with_task r₁ u o.receiver) (with_task_shaped r₁ u o.receiver rs₁) second d dl dh away c o.cell cl ch k.channel

  -- nobody changes its desk
  pub outcome_stays : (r : System) → Shaped r → (o : Outcome) → o.sender.processor ≡ (task_at r s).processor → o.receiver.processor ≡ (task_at r u).processor
      → (v : TaskId) → (task_at (with_outcome r s u c d o).system v).processor ≡ (task_at r v).processor
  unfolding with_outcome
  outcome_stays r rs o sender receiver v =
      let P : Task → Task → Type 0 = λ y z. z.processor ≡ (task_at r v).processor in
      let r₁ = with_task r s o.sender in
      let rs₁ = with_task_shaped r s o.sender rs in
      let first : P (task_at r₁ v) (task_at r₁ v) =
      task_written r r rs rs P s o.sender o.sender v sh (λ e. sender ∙ ap (λ (x : TaskId). (task_at r x).processor) e) refl in
      ap (λ (x : Task). x.processor) (with_cell_task_at (with_task r₁ u o.receiver) d c o.cell v)
      ∙ task_written r₁ r₁ rs₁ rs₁ P u o.receiver o.receiver v uh (λ e. receiver ∙ ap (λ (x : TaskId). (task_at r x).processor) e) first
