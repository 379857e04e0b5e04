-- A received word's record: ten bytes, five numbers put one behind the other.
use mathlib.Core.Path.{◌≡◌, refl, ap, ◌∙◌}
use mathlib.Core.List.{List, ◌++◌}
use Prim.Native.Nat.{ℕ, ◌+◌, ◌≤◌}
use lib.ListN.{length}
use Rattle.std.specs.Prelude.{None, Some}
use Rattle.plan.specs.Layout.{bytes16}
use Rattle.plan_write.specs.output.Output.{overlay}
use Rattle.plan_write.proofs.output.Overlay.{overlay_more}
use Rattle.rules.specs.Reports.{Received}
use Rattle.rules.specs.Logs.{log_record}
use Rattle.image.specs.Live.{word_record}

pub word_long : (x : Received) → length (word_record x) ≡ 10
unfolding log_record
word_long None = refl
word_long (Some (c, w)) = refl

pub five_put : (out : List ℕ) (at a b c d e : ℕ) {o1 o2 o3 o4 o5 : List ℕ} → at ≤ length out
    → o1 ≡ overlay out at (bytes16 a)
    → o2 ≡ overlay o1 (at + 2) (bytes16 b)
    → o3 ≡ overlay o2 (at + 4) (bytes16 c)
    → o4 ≡ overlay o3 (at + 6) (bytes16 d)
    → o5 ≡ overlay o4 (at + 8) (bytes16 e)
    → o5 ≡ overlay out at (bytes16 a ++ (bytes16 b ++ (bytes16 c ++ (bytes16 d ++ bytes16 e))))
five_put out at a b c d e h e1 e2 e3 e4 e5 =
    let two = bytes16 a ++ bytes16 b in
    let three = two ++ bytes16 c in
    let four = three ++ bytes16 d in
    let p2 = e2 ∙ ap (λ (z : List ℕ). overlay z (at + 2) (bytes16 b)) e1 ∙ overlay_more out at (bytes16 a) (bytes16 b) h in
    let p3 = e3 ∙ ap (λ (z : List ℕ). overlay z (at + 4) (bytes16 c)) p2 ∙ overlay_more out at two (bytes16 c) h in
    let p4 = e4 ∙ ap (λ (z : List ℕ). overlay z (at + 6) (bytes16 d)) p3 ∙ overlay_more out at three (bytes16 d) h in
    e5 ∙ ap (λ (z : List ℕ). overlay z (at + 8) (bytes16 e)) p4 ∙ overlay_more out at four (bytes16 e) h
