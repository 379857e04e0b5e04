-- The fields of a word, the words that lines begin with, and the text of the last line.
use Rattle.std.specs.Prelude.{Bool, List, [], ◌∷◌, ◌++◌, ℕ}
use Rattle.base.specs.Choice.{pick}
use Rattle.plan.specs.declared.Word.{Word}
use Rattle.rules.specs.Trace.{decimal, fields}

-- a word's four levels, level 0 first, each behind a space
unfoldable pub level_fields : Word → List ℕ
level_fields w = (((32 ∷ decimal w.0) ++ (32 ∷ decimal w.1)) ++ (32 ∷ decimal w.2)) ++ (32 ∷ decimal w.3)

-- the word that the line of a marked task begins with
abbrev pub over_word : List ℕ
over_word = 111 ∷ 118 ∷ 101 ∷ 114 ∷ []

-- the word that the last line begins with
abbrev pub end_word : List ℕ
end_word = 101 ∷ 110 ∷ 100 ∷ []

-- the last line (`end_line`) of a rig with n letters; b says whether it is at rest
unfoldable pub end_text : Bool → ℕ → List ℕ
end_text b n = end_word ++ fields (pick b 1 0 ∷ n ∷ [])

-- the word that says whether a plan finishes
abbrev pub verdict_word : Bool → List ℕ
verdict_word finishes = pick finishes (121 ∷ 101 ∷ 115 ∷ []) (110 ∷ 111 ∷ [])
