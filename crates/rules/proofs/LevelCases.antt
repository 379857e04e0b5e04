-- Cases of the four levels of a word: which one a set and an add change, and how a line shows them.
use mathlib.Core.Path.{◌≡◌, refl}
use mathlib.Core.Bool.{true, false}
use mathlib.Core.List.{[], ◌∷◌}
use Rattle.std.specs.Prelude.{Some}
use Rattle.std.specs.Prelude.{Ok}
use Rattle.plan.proofs.Edges.{does_on}
use Rattle.plan.specs.declared.Word.{Word}
use Rattle.plan.specs.Kinds.{op_set, op_add}
use Rattle.plan.specs.Words.{levels, set_word, add_word}
use Rattle.rules.specs.Trace.{step_line}
use Rattle.rules.proofs.Sites.{one}
use Rattle.rules.proofs.Evaluated.{evaluated}

abbrev four : Word
four = levels 1 2 3 65535

-- a set on each level leaves the others
set_first : set_word four (does_on 0 op_set 9) ≡ levels 9 2 3 65535
unfolding evaluated
set_first = refl

set_second : set_word four (does_on 1 op_set 9) ≡ levels 1 9 3 65535
unfolding evaluated
set_second = refl

set_third : set_word four (does_on 2 op_set 9) ≡ levels 1 2 9 65535
unfolding evaluated
set_third = refl

set_last : set_word four (does_on 3 op_set 9) ≡ levels 1 2 3 9
unfolding evaluated
set_last = refl

-- an add changes one level; a sum over the top in any of the four tells so, and nothing is carried into the next
add_second : add_word four (does_on 1 op_add 9) ≡ record { word = levels 1 11 3 65535; overflow = false }
unfolding evaluated
add_second = refl

add_last : add_word four (does_on 3 op_add 2) ≡ record { word = levels 1 2 3 1; overflow = true }
unfolding evaluated
add_last = refl

add_third : add_word four (does_on 2 op_add 65535) ≡ record { word = levels 1 2 2 65535; overflow = true }
unfolding evaluated
add_third = refl

-- `7 0 1 1 2 3 65535`
four_line : step_line 7 (record { answer = Ok tt; received = Some (one, four) })
    ≡ 55 ∷ 32 ∷ 48 ∷ 32 ∷ 49 ∷ 32 ∷ 49 ∷ 32 ∷ 50 ∷ 32 ∷ 51 ∷ 32 ∷ 54 ∷ 53 ∷ 53 ∷ 51 ∷ 53 ∷ 10 ∷ []
unfolding evaluated
four_line = refl
