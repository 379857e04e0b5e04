-- `mortarsedge_panel`.
use borrow.Author.Tests.{not-true, not-false}
use Rattle.live.proofs.Panels.{panel_short, panel_nine, panel_shown}
use Rattle.live.proofs.rig_panel.mortarsedge_panel.Goals as goal

pub returns-then-counts-lt27 : goal.returns-then-counts-lt27
returns-then-counts-lt27 c = panel_short _ _ c.if-counts-lt27.true

pub returns-then-not-q : goal.returns-then-not-q
returns-then-not-q c =
    let q = c.counts_in-q in
    panel_nine c.args.rig.now c.args.counts.now c.if-counts-lt27.false q.ensures (not-true q.result.ok c.if-not-q.true)

pub returns : goal.returns
returns c =
    let q = c.counts_in-q in
    panel_shown c.args.rig.now c.args.counts.now c.if-counts-lt27.false q.ensures (not-false q.result.ok c.if-not-q.false) c.put_counts.ensures
