-- `header::read_header` is the header of a file: each test is one of the layout's.
use Prim.Native.Nat.{◌≤◌}
use mathlib.Core.Path.{◌≡◌, sym, ◌∙◌}
use native.Mathlib.Omega.{arith}
use lib.ListN.{length}
use Rattle.std.proofs.Common.{rules}
use Rattle.plan.specs.Refusals.{size_ok}
use Rattle.plan_file.proofs.Headers.{short_file, tasks_out, entries_out, total_wrong, size_wrong, in_order}
use Rattle.plan_file.proofs.header.read_header.Goals as goal
use Rattle.plan_file.proofs.header.read_header.Goals.{then-entries-size-via-then-entries-size, then-entries-size-via-else-entries-size+then-left-entries}

pub returns-then-left-lt4 : goal.returns-then-left-lt4
returns-then-left-lt4 c =
    let p : c.args.left ≡ length c.args.file.now = c.requires in
    c.none.ensures ∙ short_file c.args.file.now (omega (arith, p))

pub returns-then-not-contains : goal.returns-then-not-contains
returns-then-not-contains c =
    let test : c.contains.result ≡ size_ok c.word_at.result = search rules in
    c.none-then-not-contains.ensures ∙ tasks_out c.args.file.now c.word_at.result c.word_at.ensures (sym test ∙ c.if-not-contains.true)

pub returns-in_default : goal.returns-in_default
returns-in_default c = c.none-in_default.ensures ∙ entries_out c.args.file.now c.word_at.result c.word_at.ensures (sym c.in_default.is ∙ c.read_entries.ensures)

pub returns-then-entries-size : goal.returns-then-entries-size
returns-then-entries-size c =
    let b = c.args.file.now in
    let n = c.word_at.result in
    let e = c.in-Some.entries in
    let read = sym c.in-Some.is ∙ c.read_entries.ensures in
    let p : c.args.left ≡ length c.args.file.now = c.requires in
    c.none-then-entries-size.ensures
    ∙ elim c.then-entries-size.branch [
      | then-entries-size-via-then-entries-size w ↦
          total_wrong b n c.word_at.ensures e read c.word_at-total.result c.word_at-total.ensures w.if-entries-size.true
      | then-entries-size-via-else-entries-size+then-left-entries w ↦
          size_wrong b n c.word_at.ensures e read c.word_at-total.result c.word_at-total.ensures w.if-entries-size.false (λ q. w.if-left-entries.true (p ∙ q))
    ]

pub returns : goal.returns
returns c =
    let p : c.args.left ≡ length c.args.file.now = c.requires in
    let test : c.contains.result ≡ size_ok c.word_at.result = search rules in
    let long : 4 ≤ c.args.left = c.if-left-lt4.false in
    in_order c.args.file.now c.word_at.result c.word_at.ensures c.in-Some.entries (sym c.in-Some.is ∙ c.read_entries.ensures) c.word_at-total.result
    c.word_at-total.ensures
    (omega (arith, p, long))
    (sym test ∙ c.if-not-contains.false)
    c.if-entries-size.false
    (sym p ∙ c.if-left-entries.false)
