-- Each scene runs as it says, by computation; one lemma takes it to each entry.
use mathlib.Core.Path.{◌≡◌, refl}
use mathlib.Core.Bool.{true}
use Prim.Native.Nat.{ℕ, ◌<◌}
use lib.ListN.{length, get_or}
use Rattle.base.specs.Lists.{every}
use Rattle.base.proofs.Tests.{every_at}
use Rattle.rules.proofs.Scripts.{Script, script_holds}
use Rattle.rules.proofs.Evaluated.{evaluated}
use Rattle.examples.specs.Scenes.{scenes}

all_scenes : every script_holds scenes ≡ true
unfolding evaluated scenes
all_scenes = refl

-- scene k; e stands for what is behind the end
pub scene : (e : Script) (k : ℕ) → k < length scenes → script_holds (get_or scenes k e) ≡ true
scene e k h = every_at script_holds scenes k e h all_scenes
