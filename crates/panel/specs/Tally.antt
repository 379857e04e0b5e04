-- Twelve counts, one for each answer to a step, as the 27 counts of a panel.
use Rattle.std.specs.Prelude.{List, [], ◌∷◌, ℕ, ◌+◌, get_or, set}
use Rattle.panel.specs.declared.counts.Tally.{Tally}

-- each at the number of its answer; no answer has another number
abbrev pub counts_of : Tally → List ℕ
counts_of q =
    q.accepted
    ∷ 0 ∷ 0 ∷ 0 ∷ 0 ∷ 0 ∷ 0 ∷ 0 ∷ 0
    ∷ q.system
    ∷ q.task
    ∷ q.ready
    ∷ q.finish
    ∷ q.full
    ∷ q.message
    ∷ q.processor
    ∷ q.there
    ∷ q.children
    ∷ q.spent
    ∷ q.step
    ∷ 0 ∷ 0 ∷ 0 ∷ 0 ∷ 0 ∷ 0 ∷ 0
    ∷ []

-- one count goes up by one
abbrev pub raised : List ℕ → ℕ → List ℕ
raised counts i = set counts i (get_or counts i 0 + 1)
