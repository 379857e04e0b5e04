-- `convert` asks for 2, and leaves the rest to what stands behind the header.
use mathlib.Core.Path.{◌≡◌, sym, ap, ◌∙◌}
use mathlib.Core.List.{List}
use Prim.Native.Nat.{ℕ}
use Rattle.plan.specs.Files.{layout_ok}
use Rattle.plan_file.specs.declared.header.Header.{Header}
use Rattle.plan_file.specs.Header.{header_of}
use Rattle.plan_file.proofs.Meaning.{header_ok}
use Rattle.convert.proofs.Stages.{bad_file, good_file, file_whole, file_programs_lem}
use Rattle.convert.proofs.convert.Goals as goal

-- a header that was read says whether the layout is in order
layout_is : (b : List ℕ) {h : Header} → h ≡ header_of b → layout_ok b ≡ h.ok
layout_is b e = sym (header_ok b) ∙ ap (λ (x : Header). x.ok) (sym e)

pub returns-then-not-header : goal.returns-then-not-header
returns-then-not-header c =
    bad_file c.args.file.now c.args.out.now (layout_is c.args.file.now c.header_at-header.ensures ∙ c.if-not-header.true)

pub convert_code-requires : goal.convert_code-requires
convert_code-requires c = file_whole c.args.file.now c.header_at-header.ensures c.if-not-header.false c.rest_at.ensures

pub returns : goal.returns
returns c =
    let b = c.args.file.now in
    let ok = c.if-not-header.false in
    good_file b c.args.out.now (layout_is b c.header_at-header.ensures ∙ ok) (file_programs_lem b c.header_at-header.ensures ok c.rest_at.ensures) c.convert_code.ensures
