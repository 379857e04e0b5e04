-- `runnable`: a task after the last one, or one up to it.
use mathlib.Core.Logic.{by_cases}
use native.Mathlib.Decide.{dec_lt}
use native.Mathlib.Omega.{arith}
use borrow.Author.Rules.{rules}
use Rattle.finish.proofs.search.runnable.Goals as goal

pub returns-then-t-ne0 : goal.returns-then-t-ne0
returns-then-t-ne0 c =
    let (low, high, can) = c.search-t.ensures.some c.if-t-ne0.true in
    record { some = λ ne. (omega arith, high, can); none = λ e. absurd (c.if-t-ne0.true e) }

pub returns : goal.returns
returns c =
    let last = c.args.last in
    record {
      some = λ ne. let (low, high, can) = c.search.ensures.some ne in (low, omega (arith, c.requires.1), can);
      none =
          λ e t low high.
          by_cases (dec_lt last t)
          (λ l. c.search-t.ensures.none c.if-t-ne0.false t l high)
          (λ l. c.search.ensures.none e t low (omega arith));
    }
