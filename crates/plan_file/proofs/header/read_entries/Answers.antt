use mathlib.Core.Path.{◌≡◌, sym, ◌∙◌}
use mathlib.Core.Bool.{true}
use native.Mathlib.Omega.{arith}
use Rattle.std.proofs.Common.{rules}
use Rattle.base.proofs.Tests.{within_high, below_none, below_more}
use Rattle.plan.specs.Refusals.{size_ok}
use Rattle.plan_file.specs.Header.{entry_fits}
use Rattle.plan_file.proofs.Entries.{no_counts, first_end, next_counts, next_end_lem, entry_ok_lem, bad_count, bad_offset, bad_entry, good_entries}
use Rattle.plan_file.proofs.header.read_entries.Goals as goal
use Rattle.plan_file.proofs.header.read_entries.Goals.{then-not-contains-via-then-not-contains, then-not-contains-via-else-not-contains+then-offset-end}

pub loop-k-init : goal.loop-k-init
loop-k-init c =
    let a = c.args in
    let b = a.file.now in
    (omega arith, first_end b a.n, below_none (entry_fits b a.n), no_counts b a.n)

pub returns-then-not-contains : goal.returns-then-not-contains
returns-then-not-contains c =
    let a = c.args in
    let b = a.file.now in
    let k = c.loop-k.k in
    let h = c.word_at.ensures in
    let test : c.contains.result ≡ size_ok c.word_at.result = search rules in
    bad_entry b a.n k (omega arith)
    (elim c.then-not-contains.branch [
      | then-not-contains-via-then-not-contains w ↦ bad_count b a.n k c.word_at.result h (sym test ∙ w.if-not-contains.true)
      | then-not-contains-via-else-not-contains+then-offset-end w ↦
          bad_offset b a.n k c.word_at.result h c.loop-k.end _ c.loop-k.invariant.1 c.word_at-offset.ensures (sym test ∙ w.if-not-contains.false) w.if-offset-end.true
    ])

pub loop-k-preserved : goal.loop-k-preserved
loop-k-preserved c =
    let a = c.args in
    let b = a.file.now in
    let k = c.loop-k.k in
    let count = c.word_at.result in
    let h = c.word_at.ensures in
    let e = c.loop-k.invariant.1 in
    let test : c.contains.result ≡ size_ok count = search rules in
    let sized : size_ok count ≡ true = sym test ∙ c.if-not-contains.false in
    let few = within_high 1 64 count sized in
    let fits = entry_ok_lem b a.n k count h c.loop-k.end _ e c.word_at-offset.ensures sized c.if-offset-end.false in (
      omega (arith, few),
      next_end_lem b a.n k count h c.loop-k.end e,
      below_more (entry_fits b a.n) k c.loop-k.invariant.2 fits,
      next_counts b a.n k count h c.loop-k.lengths (omega arith) c.loop-k.invariant.3,
    )

pub returns : goal.returns
returns c =
    let a = c.args in
    let e : c.loop-k.k ≡ a.n = omega arith in
    good_entries a.file.now a.n c.loop-k.end c.loop-k.lengths (rw e at c.loop-k.invariant.2) (rw e at c.loop-k.invariant.1) (rw e at c.loop-k.invariant.3)
