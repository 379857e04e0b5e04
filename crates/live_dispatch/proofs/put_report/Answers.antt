-- `put_report`.
use native.Mathlib.Omega.{arith}
use Rattle.live_dispatch.proofs.Dispatches.{report_told}
use Rattle.live_dispatch.proofs.put_report.Goals as goal

pub returns : goal.returns
returns c = report_told c.args.out.now c.args.at c.args.q (omega (arith, c.requires)) c.answer_number.ensures c.put_bytes.ensures c.put_received.ensures
