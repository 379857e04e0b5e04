-- The image of a rig in the bytes that are lent.
use mathlib.Core.Path.{◌≡◌, sym, ap, ◌∙◌}
use mathlib.Core.List.{List, ◌++◌}
use Prim.Native.Nat.{ℕ}
use lib.ListN.{length, take, drop}
use lib.Seq.{take-append_seam}
use Rattle.rules.specs.declared.system.System.{System}
use Rattle.image.specs.Image.{image, rig_size}
use Rattle.image_laws.specs.Held.{Imaged}
use Rattle.image_laws.proofs.Held.{image_size, image_held, image_is}
use Rattle.image.specs.Live.{held, Left}
use Rattle.live_rig.specs.Turns.{Holds}

-- the first bytes are the image
pub held_front : (x y : List ℕ) → length x ≡ rig_size → held (x ++ y) ≡ x
held_front x y e = ap (λ (n : ℕ). take n (x ++ y)) (sym e) ∙ take-append_seam x y

pub left : {before after : List ℕ} (r : System) → Imaged r → after ≡ image r ++ drop rig_size before → Left before r after
left {before} r i e =
    let h = ap held e ∙ held_front (image r) (drop rig_size before) (image_size r i) in
    record { bytes = e; image = rw h (image_is r i); rig = rw h (image_held r i) }

-- bytes that hold a rig, before other bytes
pub holds_left : (before : List ℕ) {b : List ℕ} {r : System} → Holds r b → Left before r (b ++ drop rig_size before)
holds_left before {b} h =
    let front = held_front b (drop rig_size before) h.long in
    record { bytes = ap (λ (z : List ℕ). z ++ drop rig_size before) h.bytes; image = rw front h.image; rig = rw front h.rig }
