-- A letter that is known to be of one variant is of no other.
use mathlib.Core.Path.{◌≡◌, subst, ap, ◌∙◌}
use mathlib.Core.Bool.{not}
use Prim.Native.Nat.{ℕ}
use lib.Dec.{T}
use types.Run.{OneOf, miss}
use mir.Val.{has_key}
use denote.Enum.Declared.{tag_of}
use Rattle.rules.specs.contracts.message.Message.{the_type}
use Rattle.rules.specs.declared.message.Message.{Message}
use Rattle.channel_rules.proofs.outcomes.Others.{but}

-- the variant at position k
pub no_other : (k : ℕ) {m x : Message} → m ≡ x → tag_of the_type x ≡ k → T (not (has_key (but k) k)) → OneOf (but k) (tag_of the_type m) → ⊥
no_other k e at out here = miss (but k) k out (subst (λ (j : ℕ). OneOf (but k) j) (ap (tag_of the_type) e ∙ at) here)
