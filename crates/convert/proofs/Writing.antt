-- The instructions of a task written out, one after the other.
use mathlib.Core.Path.{◌≡◌, refl, sym, ap, ◌∙◌}
use mathlib.Core.Bool.{true, false}
use mathlib.Core.List.{List, ◌∷◌, map}
use mathlib.Core.Logic.{by_cases}
use Prim.Native.Nat.{ℕ, suc, ◌+◌, ◌≤◌, ◌<◌}
use native.Mathlib.Decide.{dec_lt}
use native.Mathlib.Numerals.{add-one}
use native.Mathlib.Omega.{arith}
use lib.ListN.{length, get_or, drop, set, length-map, length-drop, drop_of_length-le, get_or-map}
use lib.Seq.{drop-cons, paste, paste-zero, paste-suc}
use Rattle.plan.specs.declared.Instruction.{Instruction}
use Rattle.plan.specs.Kinds.{no_instruction}
use Rattle.plan.specs.Programs.{Program, instruction_at, code_of}
use Rattle.plan.specs.Repeats.{written_out}
use Rattle.plan.specs.RepeatPlaces.{behind_repeat, go_on}
use Rattle.repeat_laws.specs.Left.{left_from, goings, Stands, is_mark, On}
use Rattle.repeat_laws.proofs.Going.{goes_on, starts, left_start, left_end}
use Rattle.convert.specs.declared.spot.Spot.{Spot}
use Rattle.convert.specs.Spots.{start_spot, next_spot, place_of, Knows}
use Rattle.convert.specs.Tasks.{Fine, WrittenTask, Put}
use Rattle.convert.proofs.Spots.{spot_on, spot_knows}

-- a list from a place on begins with x: the place is in it, x stands there
pub drop_head : (l : List Instruction) (w : ℕ) (x : Instruction) (r : List Instruction) → drop w l ≡ x ∷ r
    → (w < length l) × (get_or l w no_instruction ≡ x) × (drop (suc w) l ≡ r)
drop_head l w x r e =
    by_cases (dec_lt w (length l)) (λ h. let f = sym (drop-cons l w no_instruction h) ∙ e in (h, cc, cc))
    (λ h. let none = ap length (sym (drop_of_length-le l {i = w} (omega arith)) ∙ e) in absurd (omega (arith, none)))

module _ (g : Program) (fine : Fine g) (first : ℕ) (before : List ℕ) (size : length before ≡ 4096) (room : first + 64 ≤ 4096) where
  abbrev out : Program
  out = written_out g

  pub put_start : Put g first before start_spot 0 before
  unfolding behind_repeat
  put_start =
      record {
        fits = omega arith;
        slots = paste-zero before first (map code_of out);
        left = sym (left_start g);
        stands = starts g fine.paired fine.creates;
        knows = refl;
      }

  module _ {s : Spot} {w : ℕ} {after : List ℕ} (p : Put g first before s w after) where
    pub put_end : length g ≤ s.at → WrittenTask out first before w after
    put_end h =
        let none = p.left ∙ left_end g s.at s.rounds p.stands h in
        let all : length out ≤ w = omega (arith, length-drop w out, ap length none) in
        let e : w ≡ length out = omega (arith, p.fits) in
        record { count = e; slots = p.slots ∙ rw e refl }

    module _ (x : Instruction) (here : x ≡ instruction_at g s.at) (more : s.at < length g) where
      on : On g (place_of s)
      on = goes_on fine.tasks g fine.instructions s.at s.rounds p.stands more

      to : place_of (next_spot s x) ≡ go_on g (place_of s)
      to = rw here (spot_on g s p.knows)

      then_stands : Stands g (place_of (next_spot s x))
      then_stands = rw to on.stands

      then_knows : Knows g (next_spot s x)
      then_knows = rw here (spot_knows g s p.knows)

      pub put_less : goings g (place_of (next_spot s x)) < goings g (place_of s)
      put_less = rw to (omega (arith, on.goings))

      pub put_mark : is_mark x ≡ true → Put g first before (next_spot s x) w after
      put_mark e =
          record {
            fits = p.fits;
            slots = p.slots;
            left = p.left ∙ on.left ∙ rw (← here, e, to) refl;
            stands = then_stands;
            knows = then_knows;
          }

      module _ (e : is_mark x ≡ false) where
        said : drop w out ≡ x ∷ left_from g (place_of (next_spot s x))
        said = p.left ∙ on.left ∙ rw (← here, e, to) refl

        there : (w < length out) × (get_or out w no_instruction ≡ x) × (drop (suc w) out ≡ left_from g (place_of (next_spot s x)))
        there = drop_head out w x _ said

        pub put_room : w < 64
        put_room = omega (arith, there.0, fine.short)

        pub put_plain : Put g first before (next_spot s x) (w + 1) (set after (first + w) (code_of x))
        put_plain =
            let (l, is, rest) = there in
            record {
              fits = omega arith;
              slots =
                  rw (p.slots, add-one w)
                  (ap (λ (c : ℕ). set (paste before first (map code_of out) w) (first + w) c) (ap code_of (sym is) ∙ sym (get_or-map code_of out w no_instruction))
                  ∙ paste-suc before first (map code_of out) w 0 (omega (arith, put_room)) (rw (length-map out code_of) l));
              left = rw (add-one w) rest;
              stands = then_stands;
              knows = then_knows;
            }
