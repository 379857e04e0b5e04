-- What never changes in the bytes of a rig, written: the version, the length of the plan file, desks, the plan file and zeros behind it.
use Rattle.std.specs.Prelude.{List, [], ◌∷◌, ◌++◌, ℕ, ◌-◌, length, take, drop, replicate}
use Rattle.image.specs.Numbers.{number_bytes}
use Rattle.image.specs.Image.{version, plan_room}

unfoldable pub head_written : List ℕ → ℕ → List ℕ → List ℕ
head_written b n plan =
    version
    ++ (number_bytes 4 (length plan)
    ++ (take 4 (drop 8 b)
    ++ ((n ∷ 0 ∷ [])
    ++ (take 6 (drop 14 b)
    ++ (plan
    ++ (replicate (plan_room - length plan) 0
    ++ drop 16664 b))))))
