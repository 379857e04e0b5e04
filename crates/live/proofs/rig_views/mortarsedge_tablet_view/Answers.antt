-- `mortarsedge_tablet_view`.
use mathlib.Core.Path.{ap, ◌∙◌}
use Prim.Native.Nat.{ℕ}
use Rattle.rules.specs.Numbers.{task_id}
use Rattle.rules.specs.Views.{tablet_view}
use Rattle.image.specs.Live.{byte_given, tablet_bytes}
use Rattle.live.proofs.Views.{tablet_short, tablet_refused, tablet_shown, put_tablet}
use Rattle.live.proofs.rig_views.mortarsedge_tablet_view.Goals as goal

pub returns-then-out-lt4 : goal.returns-then-out-lt4
returns-then-out-lt4 c = tablet_short _ _ _ c.if-out-lt4.true

pub returns-then-f-ne0 : goal.returns-then-f-ne0
returns-then-f-ne0 c =
    let a = c.args in
    tablet_refused a.rig.now a.task a.out.now (rw c.byte_given.ensures at c.find-f.ensures) c.if-out-lt4.false c.if-f-ne0.true

pub returns : goal.returns
returns c =
    let a = c.args in
    tablet_shown a.rig.now a.task a.out.now (rw c.byte_given.ensures at c.find-f.ensures) c.if-out-lt4.false c.if-f-ne0.false
    (put_tablet a.out.now (tablet_view (task_id (byte_given a.task)) c.find-f.result.task) (c.tablet_bytes-bytes.ensures ∙ ap tablet_bytes (c.tablet_view-v.ensures ∙ ap (λ (n : ℕ). tablet_view (task_id n) c.find-f.result.task) c.byte_given.ensures))
    c.put_bytes.ensures)
