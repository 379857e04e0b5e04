-- `mortarsedge_panel_after`.
use native.Mathlib.Omega.{arith}
use Rattle.step_panel.proofs.Panels.{refused_panel, short_panel, shown_panel}
use Rattle.step_panel.proofs.panel_counts.mortarsedge_panel_after.Goals as goal

pub returns-then-number-ne0 : goal.returns-then-number-ne0
returns-then-number-ne0 c = refused_panel _ _ _ _ c.panel_file-s.ensures c.run_number-number.ensures.0 c.if-number-ne0.true

pub returns-then-counts-lt27 : goal.returns-then-counts-lt27
returns-then-counts-lt27 c = short_panel _ _ _ _ c.panel_file-s.ensures c.run_number-number.ensures.0 c.if-number-ne0.false c.if-counts-lt27.true

pub returns : goal.returns
returns c = shown_panel _ _ _ _ c.panel_file-s.ensures c.run_number-number.ensures.0 c.if-number-ne0.false (omega arith) c.put_counts.ensures
