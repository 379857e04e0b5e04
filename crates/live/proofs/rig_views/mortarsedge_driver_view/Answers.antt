-- `mortarsedge_driver_view`.
use native.Mathlib.Omega.{arith}
use mathlib.Core.Path.{ap, ◌∙◌}
use Prim.Native.Nat.{ℕ}
use Rattle.rules.specs.Numbers.{task_id}
use Rattle.rules.specs.Views.{driver_view}
use Rattle.image.specs.Live.{byte_given, driver_bytes}
use Rattle.live.proofs.Views.{driver_short, driver_refused, driver_shown, size_few, put_driver}
use Rattle.live.proofs.rig_views.mortarsedge_driver_view.Goals as goal

pub returns-then-out-lt21 : goal.returns-then-out-lt21
returns-then-out-lt21 c = driver_short _ _ _ c.if-out-lt21.true

pub returns-then-f-ne0 : goal.returns-then-f-ne0
returns-then-f-ne0 c =
    let a = c.args in
    driver_refused a.rig.now a.task a.out.now (rw c.byte_given.ensures at c.find-f.ensures) c.if-out-lt21.false c.if-f-ne0.true

pub driver_bytes-bytes-requires : goal.driver_bytes-bytes-requires
driver_bytes-bytes-requires c = rw c.driver_view-v.ensures (omega (arith, size_few 64 c.find-f.result.task.children))

pub returns : goal.returns
returns c =
    let a = c.args in
    driver_shown a.rig.now a.task a.out.now (rw c.byte_given.ensures at c.find-f.ensures) c.if-out-lt21.false c.if-f-ne0.false
    (put_driver a.out.now (driver_view (task_id (byte_given a.task)) c.find-f.result.task) (c.driver_bytes-bytes.ensures ∙ ap driver_bytes (c.driver_view-v.ensures ∙ ap (λ (n : ℕ). driver_view (task_id n) c.find-f.result.task) c.byte_given.ensures))
    c.put_bytes.ensures)
