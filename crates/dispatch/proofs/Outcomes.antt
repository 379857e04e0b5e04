-- The outcome of a choice of steps, in the order 1 to 6, 20; 2,000 steps at most.
use mathlib.Core.Path.{◌≡◌, refl, sym, ap, ◌∙◌, subst}
use mathlib.Core.Bool.{Bool, true, false, ◌&&◌}
use mathlib.Core.List.{List, [], ◌++◌, append_assoc}
use Prim.Native.Nat.{ℕ, ◌≤◌, ◌<◌}
use mathlib.Core.Logic.{by_cases}
use native.Mathlib.Decide.{dec_le}
use native.Mathlib.Omega.{arith}
use lib.Dec.{leb}
use lib.ListN.{length, take, drop, take-append-drop}
use lib.Seq.{length-take-le, drop-append-le}
use borrow.Author.Tests.{leb-true, le-leb, lt-leb}
use Rattle.std.specs.Prelude.{Ok, Err}
use Rattle.base.specs.Choice.{pick, within}
use Rattle.base.proofs.Tests.{and_left}
use Rattle.plan.specs.Answers.{PlanAnswer}
use Rattle.plan.specs.declared.Refusal.{Refusal}
use Rattle.plan.specs.declared.Refusal.TheVariants.{BadProcessors}
use Rattle.plan.specs.Files.{file_answer, start_answer}
use Rattle.rules.specs.Answers.{RunAnswer}
use Rattle.rules.specs.declared.step.RunRefusal.TheVariants.{Unstarted, OutputShort}
use Rattle.rules.specs.declared.system.System.{System}
use Rattle.rules.specs.Steps.{quiescent}
use Rattle.rules.specs.StepFiles.{start_of, text, written_after}
use Rattle.run.specs.all_steps.Writes.{Written}
use Rattle.run.proofs.all_steps.Fits.{fitting_room, written_filled}
use Rattle.dispatch.specs.Calls.{called, chosen_from, chosen_lines, room_in, chosen_answer, choose_answer, choose_text, Chooses}
use Rattle.dispatch.specs.Boards.{Ended}

-- what is written is within the room
room_after : (a : PlanAnswer) (lines : List (List ℕ)) (room : ℕ) (q : Bool) → length (written_after (chosen_answer a (leb (length (text lines)) room && q)) lines room) ≤ room
room_after (Err a) lines room q = omega arith
room_after (Ok tt) lines room q = go (leb (length (text lines)) room) q (leb-true (length (text lines)) room)
  where
    go : (b c : Bool) → (b ≡ true → length (text lines) ≤ room) → length (written_after (pick (b && c) (Ok tt) (Err OutputShort)) lines room) ≤ room
    go true true f = f refl
    go true false f = fitting_room room lines
    go false c f = fitting_room room lines

pub choose_room : (n : ℕ) (p : List ℕ) (room : ℕ) → length (choose_text n p room) ≤ room
unfolding choose_text choose_answer
choose_room n p room = room_after (start_answer n p) (chosen_lines n p) room (quiescent (chosen_from n p).system)

both_same : (a b c : Bool) → (a ≡ true → b ≡ c) → a && b ≡ a && c
both_same true b c f = f refl
both_same false b c f = refl

module _ (n : ℕ) (p o : List ℕ) where
  -- refusals 1 to 6
  unstarted : (a : Refusal) → start_answer n p ≡ Err a → Chooses n p (length o) o (Err (Unstarted a)) 0 o
  unfolding choose_answer choose_text
  unstarted a e = record { answered = rw e refl; count = rw e refl; bytes = rw e refl }

  pub processors_refused : within 1 6 n ≡ false → Chooses n p (length o) o (Err (Unstarted BadProcessors)) 0 o
  unfolding start_answer
  processors_refused d = unstarted BadProcessors (rw d refl)

  pub file_refused : within 1 6 n ≡ true → (a : Refusal) → file_answer p ≡ Err a → Chooses n p (length o) o (Err (Unstarted a)) 0 o
  unfolding start_answer
  file_refused d a e = unstarted a (rw d e)

  module _ (d : within 1 6 n ≡ true) (a : file_answer p ≡ Ok tt) {r : System} (q : r ≡ start_of n p) {filled : ℕ} {whole rest : Bool} {after : List ℕ}
      (h : Ended (called 12006 r 0) o filled whole rest after) where
    begun : start_answer n p ≡ Ok tt
    unfolding start_answer
    begun = rw d a

    chosen : Ended (chosen_from n p) o filled whole rest after
    unfolding chosen_from
    chosen = subst (λ (z : System). Ended (called 12006 z 0) o filled whole rest after) q h

    written : Written (chosen_lines n p) o filled whole after
    unfolding chosen_lines
    written = chosen.written

    all_is : whole && rest ≡ leb (length (text (chosen_lines n p))) (length o) && quiescent (chosen_from n p).system
    all_is = both_same whole rest (quiescent (chosen_from n p).system) chosen.rests ∙ ap (λ b. b && quiescent (chosen_from n p).system) written.all

    pub chosen_all : whole && rest ≡ true → Chooses n p (length o) o (Ok tt) filled after
    unfolding choose_answer choose_text
    chosen_all e =
        let t = sym all_is ∙ e in
        let l = written_filled (rw (and_left whole rest e) at written) in
        record { answered = rw (begun, t) refl; count = rw (begun, t) l.end; bytes = rw (begun, t) l.bytes }

    pub chosen_short : whole && rest ≡ false → Chooses n p (length o) o (Err OutputShort) filled after
    unfolding choose_answer choose_text
    chosen_short e =
        let t = sym all_is ∙ e in
        record { answered = rw (begun, t) refl; count = rw (begun, t) written.count; bytes = rw (begun, t) written.bytes }

-- in a short output, and in the first 8,000 bytes of a long one
pub in_short : (n : ℕ) (p o : List ℕ) {answer : RunAnswer} {filled : ℕ} {after : List ℕ} → length o ≤ 8000
    → Chooses n p (length o) o answer filled after → Chooses n p (room_in o) o answer filled after
in_short n p o h c = rw (le-leb (length o) 8000 h) c

pub in_long : (n : ℕ) (p o : List ℕ) {answer : RunAnswer} {filled : ℕ} {after : List ℕ} → 8000 < length o
    → Chooses n p (length (take 8000 o)) (take 8000 o) answer filled after → Chooses n p (room_in o) o answer filled (after ++ drop 8000 o)
in_long n p o {after = after} h c =
    let long = length-take-le 8000 o (omega arith) in
    let s = rw long at c in
    let t = choose_text n p 8000 in
    let behind : drop (length t) (take 8000 o) ++ drop 8000 o ≡ drop (length t) o =
    sym (drop-append-le (length t) (take 8000 o) (drop 8000 o) (omega (arith, long, choose_room n p 8000))) ∙ ap (drop (length t)) (take-append-drop 8000 o) in
    rw (lt-leb (length o) 8000 h)
    (record {
      answered = s.answered;
      count = s.count;
      bytes = ap (λ (z : List ℕ). z ++ drop 8000 o) s.bytes ∙ append_assoc t (drop (length t) (take 8000 o)) (drop 8000 o) ∙ ap (λ (z : List ℕ). t ++ z) behind;
    })

pub choose_few : (n : ℕ) (p o : List ℕ) → length (choose_text n p (room_in o)) ≤ 8000
choose_few n p o =
    by_cases (dec_le (length o) 8000)
    (λ (h : length o ≤ 8000). rw (le-leb (length o) 8000 h) (omega (arith, choose_room n p (length o))))
    (λ h. rw (lt-leb (length o) 8000 (omega arith)) (choose_room n p 8000))
