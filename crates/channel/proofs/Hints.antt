-- Laws of counted pointers to a moving task, over any table: what a pointer tells, and that the task's moves and what a desk learns keep
-- every pointer right.
use mathlib.Core.Path.{◌≡◌, refl, sym, ◌∙◌}
use mathlib.Core.Logic.{◌≢◌, by_cases, ◌⊎◌, inl, inr}
use Prim.Native.Nat.{ℕ, suc, ◌≤◌, ◌<◌}
use native.Mathlib.Omega.{arith}
use native.Mathlib.Decide.{ℕ_discrete, dec_lt, dec_le}
use lib.Dec.{ltb}
use borrow.Author.Tests.{ltb-true, ltb-false}
use Rattle.base.proofs.Choices.{pick_cases}
use Rattle.base.proofs.Updates.{updated_same, updated_other}
use Rattle.rules.specs.declared.channel.Hint.{Hint}
use Rattle.rules.specs.Hints.{newer}
use Rattle.channel.specs.Updates.{at_number}
use Rattle.channel.specs.Hints.{hint_to, Right, Table, Way, Coming}
use Rattle.channel.proofs.Updates.{at_elim, at_self}

-- the newer of two pointers is the other, with a larger count, or the desk's own
pub newer_cases : (P : Hint → Type 0) (own other : Hint) → (own.moves < other.moves → P other) → (other.moves ≤ own.moves → P own) → P (newer own other)
unfolding newer
newer_cases P own other new old =
    pick_cases P (ltb own.moves other.moves) other own
    (λ e. new (ltb-true own.moves other.moves e))
    (λ e. old (omega (arith, ltb-false own.moves other.moves e)))

pub newer_left : (own other : Hint) → own.moves ≤ (newer own other).moves
newer_left own other = newer_cases (λ h. own.moves ≤ h.moves) own other (λ l. omega arith) (λ l. omega arith)

pub newer_right : (own other : Hint) → other.moves ≤ (newer own other).moves
newer_right own other = newer_cases (λ h. other.moves ≤ h.moves) own other (λ l. omega arith) (λ l. l)

module _ {n : ℕ} {history : ℕ → ℕ} {moves at : ℕ} {hints : ℕ → Hint} (t : Table n history moves at hints) where
  -- no pointer names the desk 0 but the unknown one
  pub unknown : (x : ℕ) → (hints x).processor.0 ≡ 0 → (hints x).moves ≡ 0
  unknown x e =
      by_cases
      (dec_le 1 (hints x).moves)
      (λ l. absurd (omega (arith, t.low (hints x).moves l (t.right x).old, (t.right x).says)))
      (λ l. omega arith)

  pub known : (x : ℕ) → 1 ≤ (hints x).processor.0 → 1 ≤ (hints x).moves
  known x l =
      by_cases
      (ℕ_discrete (hints x).moves 0)
      (λ (z : (hints x).moves ≡ 0). let q : (hints x).processor.0 ≡ history 0 = rw z at (t.right x).says in absurd (omega (arith, t.none)))
      (λ ne. omega arith)

  -- a desk whose pointer names itself has the last count, and the task is there or on its way
  pub names_itself : (x : ℕ) → 1 ≤ x → (hints x).processor.0 ≡ x → (x ≡ history moves) × (1 ≤ moves)
  names_itself x some e =
      let k : ℕ = (hints x).moves in
      let o : k ≤ moves = (t.right x).old in
      let l : 1 ≤ k = known x (omega arith) in
      let s : history k ≡ x = sym (t.right x).says ∙ e in
      by_cases
      (dec_lt k moves)
      (λ u. let q : k < (hints x).moves = rw s at (t.past k l u) in absurd (omega arith))
      (λ u. let z : k ≡ moves = omega arith in (rw (← z) (sym s), omega arith))

  -- nothing newer where the task was sent with count m: it was sent there last
  pub nothing_newer : (x m : ℕ) → 1 ≤ m → m ≤ moves → x ≡ history m → ((hints x).processor.0 ≡ x) ⊎ ((hints x).moves ≤ m) → x ≡ history moves
  nothing_newer x m l u e (inl s) = (names_itself x (rw e (t.low m l u)) s).0
  nothing_newer x m l u e (inr s) =
      by_cases
      (dec_lt m moves)
      (λ lt. let q : m < (hints x).moves = rw (← e) at (t.past m l lt) in absurd (omega arith))
      (λ ge. let z : m ≡ moves = omega arith in rw (← z) e)

  -- .. and if it does not stand there, it stands nowhere
  pub away : (x : ℕ) → x ≡ history moves → x ≢ at → at ≡ 0
  away x e ne = by_cases (dec_le 1 at) (λ l. absurd (ne (e ∙ sym (t.here l)))) (λ l. omega arith)

  -- a task that was sent to desk x last and is not there is on its way
  pub coming : (x : ℕ) → x ≡ history moves → 1 ≤ moves → at ≢ x → Coming at moves x (history moves)
  coming x last some ne = record { moving = away x last (λ e. ne (sym e)); born = some; sent = last }

  -- so it is if a letter is not forwarded from a desk where it is not
  pub held_coming : {x m : ℕ} → Way history moves x m → ((hints x).processor.0 ≡ x) ⊎ ((hints x).moves ≤ m) → at ≢ x → Coming at moves x (history moves)
  held_coming {x} {m} w none ne =
      let l = w.some in
      let u = w.old in
      coming x (nothing_newer x m l u w.says none) (omega arith) ne

  pub at_most : at ≤ n
  at_most = by_cases (dec_le 1 at) (λ l. omega (arith, t.high moves (omega arith), t.here l)) (λ l. omega arith)

  pub right_here : 1 ≤ at → Right history moves (hint_to at moves)
  right_here l = record { old = omega arith; says = t.here l }

-- a pointer that is right stays so when the task is sent to desk e with the next count
pub right_more : {history : ℕ → ℕ} {moves : ℕ} (e : ℕ) {p : Hint} → Right history moves p → Right (at_number history (suc moves) e) (suc moves) p
right_more {history} {moves} e {p} r =
    let o = r.old in
    let ne : p.moves ≢ suc moves = omega arith in
    record { old = omega arith; says = rw (updated_other (λ k. k) history (suc moves) p.moves e ne) r.says }

-- and so does the way of a letter
pub way_more : {history : ℕ → ℕ} {moves : ℕ} (e : ℕ) {to k : ℕ} → Way history moves to k → Way (at_number history (suc moves) e) (suc moves) to k
way_more {history} {moves} e {to} {k} y =
    let o = y.old in
    let ne : k ≢ suc moves = omega arith in
    record { some = y.some; old = omega arith; says = rw (updated_other (λ n. n) history (suc moves) k e ne) y.says }

-- a letter goes where a right pointer says
pub pointed : {history : ℕ → ℕ} {moves : ℕ} {p : Hint} → Right history moves p → 1 ≤ p.moves → Way history moves p.processor.0 p.moves
pointed r l = record { some = l; old = r.old; says = r.says }

-- the task leaves desk d for desk e
pub depart : {n : ℕ} {history : ℕ → ℕ} {moves : ℕ} {hints : ℕ → Hint} (d e : ℕ) → 1 ≤ d → 1 ≤ e → e ≤ n → Table n history moves d hints
    → Table n (at_number history (suc moves) e) (suc moves) 0 (at_number hints d (hint_to e (suc moves)))
depart {n} {history} {moves} {hints} d e ld le ln t = record {
  none = let ne : 0 ≢ suc moves = omega arith in rw (updated_other (λ k. k) history (suc moves) 0 e ne) t.none;
  low = at_elim (λ k y. 1 ≤ k → k ≤ suc moves → 1 ≤ y) history (suc moves) e (λ a b. le) (λ k ne a b. t.low k a (omega arith));
  high = at_elim (λ k y. k ≤ suc moves → y ≤ n) history (suc moves) e (λ b. ln) (λ k ne b. t.high k (omega arith));
  right =
      at_elim (λ x y. Right (at_number history (suc moves) e) (suc moves) y) hints d (hint_to e (suc moves))
      (record { old = omega arith; says = sym (updated_same (λ k. k) history (suc moves) e) })
      (λ x ne. right_more e (t.right x));
  past =
      λ j l u.
      let ne : j ≢ suc moves = omega arith in
      rw (updated_other (λ k. k) history (suc moves) j e ne)
      (at_elim (λ x y. x ≡ history j → j < y.moves) hints d (hint_to e (suc moves))
      (λ q. u)
      (λ x nx (q : x ≡ history j).
      by_cases
      (ℕ_discrete j moves)
      (λ (z : j ≡ moves). absurd (nx (q ∙ rw z (sym (t.here ld)))))
      (λ nz. rw q (t.past j l (omega arith))))
      (history j) refl);
  here = λ l. absurd (omega arith);
  born = λ l. omega arith;
  top = λ l. absurd (omega arith);
}

-- it arrives where it was sent last
pub arrive : {n : ℕ} {history : ℕ → ℕ} {moves : ℕ} {hints : ℕ → Hint} (d : ℕ) → 1 ≤ moves → d ≡ history moves → Table n history moves 0 hints
    → Table n history moves d (at_number hints d (hint_to d moves))
arrive {n} {history} {moves} {hints} d some e t = record {
  none = t.none;
  low = t.low;
  high = t.high;
  right = at_elim (λ x y. Right history moves y) hints d (hint_to d moves) (record { old = omega arith; says = e }) (λ x ne. t.right x);
  past =
      λ j l u.
      at_elim (λ x y. x ≡ history j → j < y.moves) hints d (hint_to d moves) (λ q. u) (λ x ne q. rw q (t.past j l u)) (history j) refl;
  here = λ l. e;
  born = λ l. some;
  top = λ l. rw (updated_same (λ k. k) hints d (hint_to d moves)) refl;
}

-- it is born at desk d, with count 1
pub bear : {n : ℕ} {history : ℕ → ℕ} {hints : ℕ → Hint} (d : ℕ) → 1 ≤ d → d ≤ n → Table n history 0 0 hints
    → Table n (at_number history 1 d) 1 d (at_number hints d (hint_to d 1))
bear {n} {history} {hints} d ld ln t = record {
  none = let ne : ◌≢◌ {A = ℕ} 0 1 = omega arith in rw (updated_other (λ k. k) history 1 0 d ne) t.none;
  low = at_elim (λ k y. 1 ≤ k → k ≤ 1 → 1 ≤ y) history 1 d (λ a b. ld) (λ k ne a b. absurd (ne (omega arith)));
  high = at_elim (λ k y. k ≤ 1 → y ≤ n) history 1 d (λ b. ln) (λ k ne b. t.high k (omega arith));
  right =
      at_elim (λ x y. Right (at_number history 1 d) 1 y) hints d (hint_to d 1)
      (record { old = omega arith; says = sym (updated_same (λ k. k) history 1 d) })
      (λ x ne. right_more d (t.right x));
  past = λ j l u. absurd (omega arith);
  here = λ l. sym (updated_same (λ k. k) history 1 d);
  born = λ l. omega arith;
  top = λ l. rw (updated_same (λ k. k) hints d (hint_to d 1)) refl;
}

-- a desk learns a pointer that is right
pub learn : {n : ℕ} {history : ℕ → ℕ} {moves at : ℕ} {hints : ℕ → Hint} (d : ℕ) (p : Hint) → Right history moves p → Table n history moves at hints
    → Table n history moves at (at_number hints d (newer (hints d) p))
learn {n} {history} {moves} {at} {hints} d p r t =
    newer_cases (λ q. Table n history moves at (at_number hints d q)) (hints d) p learnt (λ l. rw (at_self hints d) t)
  where
    learnt : (hints d).moves < p.moves → Table n history moves at (at_number hints d p)
    learnt new = record {
      none = t.none;
      low = t.low;
      high = t.high;
      right = at_elim (λ x y. Right history moves y) hints d p r (λ x ne. t.right x);
      past =
          λ j l u.
          at_elim (λ x y. x ≡ history j → j < y.moves) hints d p
          (λ (e : d ≡ history j). let w : j < (hints d).moves = rw e (t.past j l u) in omega arith)
          (λ x ne (e : x ≡ history j). rw e (t.past j l u)) (history j) refl;
      here = t.here;
      born = t.born;
      top =
          λ a.
          at_elim (λ x y. x ≡ at → y.moves ≡ moves) hints d p
          (λ (e : d ≡ at). let w : (hints d).moves ≡ moves = rw e (t.top a) in let o = r.old in absurd (omega arith))
          (λ x ne (e : x ≡ at). rw e (t.top a)) at refl;
    }
