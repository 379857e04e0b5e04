-- A choice by a test.
use Rattle.std.specs.Prelude.{Bool, true, false, ◌&&◌, ℕ, leb}

-- the first where the test holds, else the second
abbrev pub pick {ℓ} : {A : Type ℓ} → Bool → A → A → A
pick true a b = a
pick false a b = b

-- `unless ok refusal rest`: the refusal where the test fails
abbrev pub unless {ℓ} : {A : Type ℓ} → Bool → A → A → A
unless true refusal rest = rest
unless false refusal rest = refusal

-- low ≤ n ≤ high
abbrev pub within : ℕ → ℕ → ℕ → Bool
within low high n = leb low n && leb n high
