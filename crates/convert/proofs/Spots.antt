-- A task that goes on from a place knows where the last repeat began.
use mathlib.Core.Path.{◌≡◌, refl, sym}
use mathlib.Core.Bool.{Bool, true, false}
use Prim.Native.Nat.{suc, ◌-◌}
use native.Mathlib.Numerals.{add-one}
use lib.Dec.{ltb}
use Rattle.base.specs.Choice.{pick}
use Rattle.plan.specs.declared.Instruction.{Instruction}
use Rattle.plan.specs.Programs.{Program, instruction_at}
use Rattle.plan.specs.Repeats.{is_repeat, is_repeat_end}
use Rattle.plan.specs.RepeatPlaces.{place, behind_repeat, go_on}
use Rattle.repeat_laws.proofs.Going.{behind_stays}
use Rattle.convert.specs.declared.spot.Spot.{Spot}
use Rattle.convert.specs.Spots.{next_spot, place_of, Knows}

module _ (g : Program) (s : Spot) (knows : Knows g s) where
  abbrev x : Instruction
  x = instruction_at g s.at

  pub spot_on : place_of (next_spot s x) ≡ go_on g (place_of s)
  unfolding next_spot go_on
  spot_on = rw (knows, add-one s.at) (go (is_repeat x) (is_repeat_end x) (ltb 1 s.rounds))
    where
      go : (a b c : Bool)
          → place_of
          (pick a (record { at = suc s.at; rounds = x.operand; back = suc s.at })
          (pick b
          (pick c (record { at = behind_repeat g s.at; rounds = s.rounds - 1; back = behind_repeat g s.at }) (record { at = suc s.at; rounds = 0; back = behind_repeat g s.at }))
          (record { at = suc s.at; rounds = s.rounds; back = behind_repeat g s.at })))
          ≡ pick a (place (suc s.at) x.operand)
          (pick b (pick c (place (behind_repeat g s.at) (s.rounds - 1)) (place (suc s.at) 0)) (place (suc s.at) s.rounds))
      go true b c = refl
      go false true true = refl
      go false true false = refl
      go false false c = refl

  pub spot_knows : Knows g (next_spot s x)
  unfolding next_spot behind_repeat
  spot_knows = rw (knows, add-one s.at) (go (is_repeat x) refl (is_repeat_end x) (ltb 1 s.rounds))
    where
      go : (a : Bool) → is_repeat x ≡ a → (b c : Bool)
          → Knows g
          (pick a (record { at = suc s.at; rounds = x.operand; back = suc s.at })
          (pick b
          (pick c (record { at = behind_repeat g s.at; rounds = s.rounds - 1; back = behind_repeat g s.at }) (record { at = suc s.at; rounds = 0; back = behind_repeat g s.at }))
          (record { at = suc s.at; rounds = s.rounds; back = behind_repeat g s.at })))
      go true e b c = rw e refl
      go false e true true = sym (behind_stays g s.at)
      go false e true false = rw e refl
      go false e false c = rw e refl
