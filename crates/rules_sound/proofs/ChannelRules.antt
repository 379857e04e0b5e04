-- The rules that birth, move and arrival apply to a channel leave a fine cell.
use mathlib.Core.Path.{◌≡◌, refl}
use mathlib.Core.Bool.{true}
use Prim.Native.Nat.{ℕ}
use Rattle.plan.specs.declared.ProcessorId.{ProcessorId}
use Rattle.rules.specs.declared.channel.Cell.{Cell}
use Rattle.rules.specs.Cells.{hint, unknown, no_offer, newer, counts, with_hint, with_held, carrying}
use Rattle.rules.specs.Starts.{located}
use Rattle.rules.specs.Arrivals.{taken_over, arrival_receiving, arrival_sending}
use Rattle.rules.specs.Moves.{departure_sending}
use Rattle.rules.specs.Sound.{known_ok}
use Rattle.rules_sound.specs.Fine.{FineCell}
use Rattle.base.proofs.Choices.{pick_cases}
use Rattle.rules_sound.proofs.Cells.{known_fine, newer_fine, with_hint_fine, with_held_fine, with_travelling_fine, carrying_fine}

module _ (n : ℕ) (x : Cell) (f : FineCell n x) where
  pub located_fine : (d : ProcessorId) (k : ℕ) → known_ok n (hint d k) ≡ true → FineCell n (located d k x)
  located_fine d k p = with_hint_fine n x f (hint d k) (known_fine n (hint d k) p)

  taken_over_fine : FineCell n (taken_over x)
  unfolding taken_over
  taken_over_fine =
      let o = x.entry.held in
      pick_cases (FineCell n) (counts x o) (with_held (carrying x o) no_offer) (with_held x no_offer)
      (λ e. with_held_fine n (carrying x o) (carrying_fine n x f o f.entry.held) no_offer refl)
      (λ e. with_held_fine n x f no_offer refl)

  pub departure_sending_fine : FineCell n (departure_sending x)
  departure_sending_fine = with_travelling_fine n x f x.entry.hint f.entry.hint

  pub arrival_sending_fine : FineCell n (arrival_sending x)
  arrival_sending_fine =
      let h = newer x.entry.hint x.channel.travelling in
      let g = newer_fine n x.entry.hint x.channel.travelling f.entry.hint f.channel.travelling in
      with_travelling_fine n (with_hint x h) (with_hint_fine n x f h g) unknown refl

pub arrival_receiving_fine : (n : ℕ) (x : Cell) → FineCell n x → (d : ProcessorId) (k : ℕ) → known_ok n (hint d k) ≡ true → FineCell n (arrival_receiving d k x)
arrival_receiving_fine n x f d k p = taken_over_fine n (located d k x) (located_fine n x f d k p)
