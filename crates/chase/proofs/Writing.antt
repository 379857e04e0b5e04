-- What is put into the outputs, piece behind piece.
use mathlib.Core.Path.{◌≡◌, refl, sym, ap, ◌∙◌}
use mathlib.Core.List.{List, [], ◌∷◌, ◌++◌, append_assoc}
use Prim.Native.Nat.{ℕ, ◌+◌, ◌*◌, ◌≤◌, ◌<◌}
use native.Mathlib.Numerals.{add-one}
use native.Mathlib.Omega.{arith}
use lib.ListN.{length, get_or, take, set}
use lib.Seq.{length-take-le, take-suc}
use Rattle.base.specs.Range.{fold, joined}
use Rattle.plan.specs.Layout.{bytes16}
use Rattle.rules.specs.declared.step.Step.{Step}
use Rattle.rules.specs.Steps.{run_step, deliver_step}
use Rattle.plan_write.specs.output.Output.{overlay}
use Rattle.plan_write.proofs.output.Overlay.{overlay_none, overlay_more, two_stores}
use Rattle.chase.specs.Construction.{opening, round, ending, chase_steps, step_bytes, step_file, chase_file}
use Rattle.chase.proofs.Files.{file_append, length_file, length_rounds}

-- a step put byte by byte
pub step_put : (out : List ℕ) (at : ℕ) (s : Step) (then : List ℕ) → at + 4 ≤ length out
    → then ≡ overlay (set (set out at s.kind) (at + 1) s.task) (at + 2) (bytes16 s.number)
    → then ≡ overlay out at (step_bytes s)
step_put out at s then h e =
    e ∙ rw (two_stores out at s.kind s.task (omega arith)) (overlay_more out at (s.kind ∷ s.task ∷ []) (bytes16 s.number) (omega arith))

-- a file put behind a file
pub files_put : (out mid then : List ℕ) (at next : ℕ) (xs ys : List Step) → at ≤ length out → next ≡ at + 4 * length xs
    → mid ≡ overlay out at (step_file xs) → then ≡ overlay mid next (step_file ys) → then ≡ overlay out at (step_file (xs ++ ys))
files_put out mid then at next xs ys h n e f =
    let there : next ≡ at + length (step_file xs) = omega (arith, length_file xs) in
    f ∙ rw (e, there, file_append xs ys) (overlay_more out at (step_file xs) (step_file ys) h)

-- one step is a file
pub step_file_lem : (s : Step) → step_bytes s ≡ step_file (s ∷ [])
unfolding step_file
step_file_lem s = refl

-- the rounds
pub no_rounds : (out : List ℕ) (at : ℕ) → out ≡ overlay out at (step_file (joined 0 round))
unfolding fold step_file
no_rounds out at = sym (overlay_none out at)

pub round_more : (out mid then : List ℕ) (k : ℕ) → 12 ≤ length out → mid ≡ overlay out 12 (step_file (joined k round))
    → then ≡ overlay mid (12 + 12 * k) (step_file (round k)) → then ≡ overlay out 12 (step_file (joined (k + 1) round))
unfolding fold
round_more out mid then k h e f =
    rw (add-one k) (files_put out mid then 12 (12 + 12 * k) (joined k round) (round k) h (omega (arith, length_rounds k)) e f)

-- steps put from a list: none, and one more
pub no_steps : (out : List ℕ) (at : ℕ) → out ≡ overlay out at (step_file [])
unfolding step_file
no_steps out at = sym (overlay_none out at)

pub step_more : (out mid then : List ℕ) (at k : ℕ) (xs : List Step) (d : Step) → at ≤ length out → k < length xs → mid ≡ overlay out at (step_file (take k xs))
    → then ≡ overlay mid (at + 4 * k) (step_bytes (get_or xs k d)) → then ≡ overlay out at (step_file (take (k + 1) xs))
step_more out mid then at k xs d room h e f =
    let s = get_or xs k d in
    rw (add-one k, take-suc xs k d h)
    (files_put out mid then at (at + 4 * k) (take k xs) (s ∷ []) room (omega (arith, length-take-le k xs (omega arith))) e (rw (step_file_lem s) at f))

-- all steps
pub all_put : (out one two then : List ℕ) (m : ℕ) → one ≡ overlay out 0 (step_file opening) → two ≡ overlay one 12 (step_file (joined m round))
    → then ≡ overlay two (12 + 12 * m) (step_file ending) → 12 + 12 * m ≤ length out → then ≡ overlay out 0 (chase_file m)
unfolding chase_steps
all_put out one two then m e f g room =
    let first : two ≡ overlay out 0 (step_file (opening ++ joined m round)) = files_put out one two 0 12 opening (joined m round) (omega arith) refl e f in
    let whole = files_put out two then 0 (12 + 12 * m) (opening ++ joined m round) ending (omega arith) (omega (arith, length_rounds m)) first g in
    whole ∙ ap (λ (l : List Step). overlay out 0 (step_file l)) (append_assoc opening (joined m round) ending)

-- three steps, and the last eight, known under other names
pub three_are : (out then : List ℕ) (at : ℕ) (a b c x y z : Step) → a ≡ x → b ≡ y → c ≡ z → then ≡ overlay out at (step_file (a ∷ b ∷ c ∷ []))
    → then ≡ overlay out at (step_file (x ∷ y ∷ z ∷ []))
three_are out then at a b c x y z e f g h = rw (e, f, g) at h

pub ending_put : (out then : List ℕ) (at : ℕ) (n r s : Step) → n ≡ deliver_step 1 → r ≡ run_step 2 → s ≡ run_step 1
    → then ≡ overlay out at (step_file (n ∷ r ∷ n ∷ n ∷ n ∷ r ∷ n ∷ s ∷ [])) → then ≡ overlay out at (step_file ending)
ending_put out then at n r s en er es h = rw (en, er, es) at h
