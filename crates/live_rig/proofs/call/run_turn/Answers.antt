-- `run_turn`: the next ready task is run.
use mathlib.Core.Path.{sym, ap, ◌∙◌}
use Prim.Native.Nat.{ℕ, ◌-◌}
use Rattle.rules.specs.declared.message.Message.TheVariants.{Empty}
use Rattle.live_rig.proofs.Calls.{few_tasks, few_choices, choice_of, live_chosen, no_task_lem, task, run_delivers}
use Rattle.live_rig.proofs.call.run_turn.Goals as goal

pub next_ready-t-requires : goal.next_ready-t-requires
next_ready-t-requires c =
    let o = c.requires.some.on in
    (few_tasks o, rw c.wide8-k.ensures (few_choices o c.args.d))

pub returns-then-t-eq0 : goal.returns-then-t-eq0
returns-then-t-eq0 c r o =
    let found = rw (c.wide8-k.ensures, c.ready_at.ensures) at c.next_ready-t.ensures ∙ choice_of o c.args.d in
    no_task_lem o c.args.d (sym found ∙ c.if-t-eq0.true) c.skipped.ensures.1 c.skipped.ensures.0

pub make-m-requires : goal.make-m-requires
make-m-requires c =
    let d = c.args.d in
    let x = c.requires.some in
    let found = rw (c.wide8-k.ensures, c.ready_at.ensures) at c.next_ready-t.ensures ∙ choice_of x.on d in
    let place = ap (λ (k : ℕ). k - 1) c.wide8-k.ensures in
    record {
      last = _;
      some = record { accepted = x.accepted; system = _; on = live_chosen x.on d found place };
      letter = run_delivers c.args.n x.system.network Empty c.next_ready-t.result;
    }

pub returns : goal.returns
returns c r o =
    let d = c.args.d in
    let found = rw (c.wide8-k.ensures, c.ready_at.ensures) at c.next_ready-t.ensures ∙ choice_of o d in
    let place = ap (λ (k : ℕ). k - 1) c.wide8-k.ensures in
    task o d found c.if-t-eq0.false (c.make-m.ensures _ _ (live_chosen o d found place) (run_delivers c.args.n r.network Empty c.next_ready-t.result))
