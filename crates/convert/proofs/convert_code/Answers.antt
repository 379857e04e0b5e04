-- `convert_code` asks for 3 and 21 to 23 in the paper's order, and then writes the written-out plan.
use mathlib.Core.Path.{◌≡◌, refl, sym, ◌∙◌}
use mathlib.Core.Bool.{Bool, true, false, not}
use mathlib.Core.List.{List}
use Prim.Native.Nat.{ℕ, ◌≤◌}
use borrow.Author.Tests.{not-true, not-false}
use lib.ListN.{length}
use Rattle.plan.specs.Programs.{Programs}
use Rattle.plan.specs.Refusals.{size_ok}
use Rattle.plan.specs.RepeatRefusals.{new_instructions_ok}
use Rattle.plan_value.specs.Sizes.{sizes_in}
use Rattle.plan_value.proofs.Sized.{some_tasks, few_tasks}
use Rattle.base.proofs.Tests.{within_both}
use Rattle.plan_file.specs.Code.{programs_in}
use Rattle.plan_file.proofs.Instructions.{code_tasks}
use Rattle.convert.specs.declared.find.Found.{Found}
use Rattle.convert.specs.Marks.{FoundIn}
use Rattle.convert.specs.Tasks.{AllFine}
use Rattle.convert.proofs.Stages.{code_refused, bad_instruction, bad_repeat, repeated_create, too_long, left_empty, all_converted}
use Rattle.convert.proofs.convert_code.Goals as goal

-- what has passed
all_fine : (m : Programs) {o : Found} → ◌≡◌ {A = Bool} true (new_instructions_ok m) → FoundIn m o → not o.paired ≡ false → not o.creates ≡ false → not o.short ≡ false
    → AllFine m
all_fine m allowed found p c s =
    record {
      instructions = sym allowed;
      paired = sym found.paired ∙ not-false _ p;
      creates = sym found.creates ∙ not-false _ c;
      short = sym (found.short (not-false _ p)) ∙ not-false _ s;
    }

-- how many tasks there are
some_of : (b : List ℕ) (n : ℕ) (lengths : List ℕ) → sizes_in n lengths ≡ true → size_ok (length (programs_in b n lengths)) ≡ true
some_of b n lengths s = rw (code_tasks b n lengths) (within_both 1 64 n (some_tasks n lengths s) (few_tasks n lengths s))

few_of : (b : List ℕ) (n : ℕ) (lengths : List ℕ) → sizes_in n lengths ≡ true → length (programs_in b n lengths) ≤ 64
few_of b n lengths s = rw (code_tasks b n lengths) (few_tasks n lengths s)

pub returns-then-not-all_allowed : goal.returns-then-not-all_allowed
returns-then-not-all_allowed c =
    let m = programs_in c.args.file.now c.args.tasks c.args.lengths.now in
    code_refused m c.args.out.now _ (bad_instruction m (sym c.if-not-all_allowed.ensures))

pub returns-then-not-found : goal.returns-then-not-found
returns-then-not-found c =
    let m = programs_in c.args.file.now c.args.tasks c.args.lengths.now in
    code_refused m c.args.out.now _ (bad_repeat m (sym c.if-not-all_allowed.ensures) (sym c.find-found.ensures.paired ∙ not-true _ c.if-not-found.true))

pub returns-then-not-found-2 : goal.returns-then-not-found-2
returns-then-not-found-2 c =
    let m = programs_in c.args.file.now c.args.tasks c.args.lengths.now in
    let f = c.find-found.ensures in
    let paired = sym f.paired ∙ not-false _ c.if-not-found.false in
    code_refused m c.args.out.now _ (repeated_create m (sym c.if-not-all_allowed.ensures) paired (sym f.creates ∙ not-true _ c.if-not-found-2.true))

pub returns-then-not-found-3 : goal.returns-then-not-found-3
returns-then-not-found-3 c =
    let m = programs_in c.args.file.now c.args.tasks c.args.lengths.now in
    let f = c.find-found.ensures in
    let is_paired = not-false _ c.if-not-found.false in
    let creates = sym f.creates ∙ not-false _ c.if-not-found-2.false in
    code_refused m c.args.out.now _
    (too_long m (sym c.if-not-all_allowed.ensures) (sym f.paired ∙ is_paired) creates (sym (f.short is_paired) ∙ not-true _ c.if-not-found-3.true))

pub write_out-requires : goal.write_out-requires
write_out-requires c =
    let fine = all_fine _ c.if-not-all_allowed.ensures c.find-found.ensures c.if-not-found.false c.if-not-found-2.false c.if-not-found-3.false in
    (c.requires, fine, refl, refl)

pub none_empty-requires : goal.none_empty-requires
none_empty-requires c = few_tasks c.args.tasks c.args.lengths.now c.requires.sizes

pub returns-then-not-none_empty : goal.returns-then-not-none_empty
returns-then-not-none_empty c =
    let b = c.args.file.now in
    let n = c.args.tasks in
    let lengths = c.args.lengths.now in
    let fine = all_fine _ c.if-not-all_allowed.ensures c.find-found.ensures c.if-not-found.false c.if-not-found-2.false c.if-not-found-3.false in
    left_empty (programs_in b n lengths) (some_of b n lengths c.requires.sizes) (few_of b n lengths c.requires.sizes) fine c.write_out.ensures
    (sym (code_tasks b n lengths)) c.args.out.now (sym c.if-not-none_empty.ensures)

pub returns : goal.returns
returns c =
    let b = c.args.file.now in
    let n = c.args.tasks in
    let lengths = c.args.lengths.now in
    let fine = all_fine _ c.if-not-all_allowed.ensures c.find-found.ensures c.if-not-found.false c.if-not-found-2.false c.if-not-found-3.false in
    all_converted (programs_in b n lengths) (some_of b n lengths c.requires.sizes) (few_of b n lengths c.requires.sizes) fine c.write_out.ensures
    (sym (code_tasks b n lengths)) (sym c.if-not-none_empty.ensures) c.write_plan.ensures
