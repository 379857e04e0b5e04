-- What the call of a panel answers and leaves.
use mathlib.Core.Path.{◌≡◌, refl, sym, ap, ◌∙◌}
use mathlib.Core.Bool.{true, false}
use mathlib.Core.List.{List, ◌++◌}
use Prim.Native.Nat.{ℕ, ◌≤◌, ◌<◌}
use native.Mathlib.Omega.{arith}
use lib.ListN.{length, drop}
use borrow.Author.Tests.{le-leb, lt-leb}
use Rattle.image.specs.Live.{held, PanelMeets}
use Rattle.live_rig.specs.declared.counts.Counted.{Counted}
use Rattle.live_rig.specs.Shows.{Counts}

module _ (b counts : List ℕ) where
  pub panel_short : length counts < 27 → PanelMeets b counts 20 counts
  panel_short h = record { answer = rw (lt-leb 27 (length counts) h) refl; untouched = λ n. refl; shown = λ e. absurd (omega (arith, e)) }

  module _ (h : 27 ≤ length counts) {q : Counted} (g : Counts (held b) q) where
    pub panel_nine : q.ok ≡ false → PanelMeets b counts 9 counts
    panel_nine e =
        record {
          answer = rw (le-leb 27 (length counts) h, sym g.ok_is ∙ e) refl;
          untouched = λ n. refl;
          shown = λ z. absurd (omega (arith, z));
        }

    pub panel_shown : q.ok ≡ true → {after : List ℕ} → after ≡ q.counts ++ drop 27 counts → PanelMeets b counts 0 after
    panel_shown e c =
        let s = sym g.ok_is ∙ e in
        record {
          answer = rw (le-leb 27 (length counts) h, s) refl;
          untouched = λ n. absurd (n refl);
          shown = λ z. c ∙ ap (λ (x : List ℕ). x ++ drop 27 counts) (g.counts_are s);
        }
