-- `open`: the header's refusal, what the pass refuses, or the plan as it is read, with the tables of the pass.
use mathlib.Core.Path.{refl, sym, ◌∙◌, ap}
use mathlib.Core.List.{List}
use Prim.Native.Nat.{ℕ}
use Rattle.plan.specs.Programs.{canonical}
use Rattle.plan_file.specs.Code.{programs_in}
use Rattle.plan_file.proofs.Opens.{refused_opened, header_refused, behind_whole, answered_as, plan_opened}
use Rattle.plan_file.proofs.opening.open.Goals as goal

pub returns-then-not-h : goal.returns-then-not-h
returns-then-not-h c =
    let h = c.header_of-h.result in
    refused_opened _ _ c.refused.ensures (header_refused c.args.file.now h c.header_of-h.ensures c.if-not-h.true)

pub check_code-requires : goal.check_code-requires
check_code-requires c =
    let h = c.header_of-h.result in
    let whole = behind_whole c.args.file.now h c.header_of-h.ensures c.if-not-h.false in
    (rw c.rest_at-rest.ensures whole, record { parents = c.requires.1; senders = c.requires.2; receivers = c.requires.3 })

pub read_code-requires : goal.read_code-requires
read_code-requires c =
    let h = c.header_of-h.result in
    let whole = behind_whole c.args.file.now h c.header_of-h.ensures c.if-not-h.false in
    (rw c.rest_at-rest.ensures whole, c.requires.0)

pub returns-in-Err : goal.returns-in-Err
returns-in-Err c =
    let h = c.header_of-h.result in
    let q = rw c.rest_at-rest.ensures at c.check_code.ensures in
    refused_opened _ _ c.refused-in-Err.ensures
    (sym (answered_as c.args.file.now h c.header_of-h.ensures c.if-not-h.false) ∙ sym q.answer ∙ c.in-Err.is)

pub returns : goal.returns
returns c =
    let h = c.header_of-h.result in
    let q = rw c.rest_at-rest.ensures at c.check_code.ensures in
    let codes = c.read_code.ensures ∙ ap (λ (b : List ℕ). (canonical (programs_in b h.tasks h.lengths)).codes) c.rest_at-rest.ensures in
    plan_opened c.args.file.now h c.header_of-h.ensures c.if-not-h.false q c.in_default.is refl refl refl codes
