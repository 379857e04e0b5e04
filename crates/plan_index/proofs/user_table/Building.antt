-- The table of who uses what, channel by channel from the last down.
use mathlib.Core.Path.{◌≡◌, sym, ◌∙◌, ap}
use mathlib.Core.List.{List}
use mathlib.Core.Logic.{◌≢◌, by_cases}
use Prim.Native.Nat.{ℕ, ◌+◌, ◌*◌, ◌-◌, ◌≤◌, ◌<◌}
use native.Mathlib.Omega.{arith}
use native.Mathlib.Decide.{ℕ_discrete}
use lib.ListN.{get_or, set, length, length-set}
use lib.Seq.{get_or-set_same, get_or-set_other, set-set, set_comm}
use Rattle.plan_index.specs.user_table.Links.{next_in}
use Rattle.plan_index.specs.user_table.Built.{with_end, AtEnd}
use Rattle.plan_index.proofs.user_table.Linking.{next_here, next_past}

-- the channels after c are linked at one end, and channel 0, which is none, has its entry
pub record LinkedFrom (ends : List ℕ) (end first next c : ℕ) (users : List ℕ) : Type 0 where
  pub has : (k : ℕ) → k ≤ 128 → (1 ≤ k → c < k) → get_or users (4 * k + end) 0 ≡ get_or ends k 0
  pub firsts : (t : ℕ) → t ≤ 64 → get_or users (640 + 4 * t + first) 0 ≡ next_in ends t (128 - c)
  pub nexts : (k : ℕ) → c < k → k ≤ 128 → get_or users (4 * k + next) 0 ≡ next_in ends (get_or ends k 0) (128 - k)

-- the bytes at the other end are none of those at this end
pub record Apart (end first next end' first' next' : ℕ) : Type 0 where
  pub end_few : end' < 4
  pub first_few : first' < 4
  pub next_few : next' < 4
  pub end_end : end' ≢ end
  pub end_next : end' ≢ next
  pub next_end_lem : next' ≢ end
  pub next_next : next' ≢ next
  pub first_first : first' ≢ first

-- one channel more
module _ (users : List ℕ) (c t end first next : ℕ) (at : AtEnd c t end first next) where
  abbrev one : List ℕ
  one = set users (640 + 4 * t + first) c

  abbrev two : List ℕ
  two = set one (4 * c + next) (get_or users (640 + 4 * t + first) 0)

  abbrev after : List ℕ
  after = with_end users c t end first next

  pub end_long : length after ≡ length users
  unfolding with_end
  end_long = simp length-set

  pub end_other : (j : ℕ) → j ≢ 4 * c + end → j ≢ 4 * c + next → j ≢ 640 + 4 * t + first → get_or after j 0 ≡ get_or users j 0
  unfolding with_end
  end_other j p q r = simp (get_or-set_other)

  -- a byte apart may be stored before or after
  pub end_apart : (j x : ℕ) → j ≢ 4 * c + end → j ≢ 4 * c + next → j ≢ 640 + 4 * t + first → set after j x ≡ with_end (set users j x) c t end first next
  unfolding with_end
  end_apart j x p q r =
      let old = get_or users (640 + 4 * t + first) 0 in
      let same = get_or-set_other users j (640 + 4 * t + first) x 0 (λ e. r (sym e)) in
      set_comm two (4 * c + end) j t x (λ e. p (sym e))
      ∙ ap (λ (l : List ℕ). set l (4 * c + end) t) (set_comm one (4 * c + next) j old x (λ e. q (sym e)))
      ∙ ap (λ (l : List ℕ). set (set l (4 * c + next) old) (4 * c + end) t) (set_comm users (640 + 4 * t + first) j c x (λ e. r (sym e)))
      ∙ ap (λ (k : ℕ). set (set (set (set users j x) (640 + 4 * t + first) c) (4 * c + next) k) (4 * c + end) t) (sym same)

  module _ (long : length users ≡ 1024) where
    end_here : get_or after (4 * c + end) 0 ≡ t
    unfolding with_end
    end_here = get_or-set_same two (4 * c + end) t 0 (simp length-set (omega arith))

    end_next : end ≢ next → get_or after (4 * c + next) 0 ≡ get_or users (640 + 4 * t + first) 0
    unfolding with_end
    end_next ne =
        get_or-set_other two (4 * c + end) (4 * c + next) t 0 (omega arith)
        ∙ get_or-set_same one (4 * c + next) (get_or users (640 + 4 * t + first) 0) 0 (simp length-set (omega arith))

    end_first : get_or after (640 + 4 * t + first) 0 ≡ c
    unfolding with_end
    end_first =
        get_or-set_other two (4 * c + end) (640 + 4 * t + first) t 0 (omega arith)
        ∙ get_or-set_other one (4 * c + next) (640 + 4 * t + first) (get_or users (640 + 4 * t + first) 0) 0 (omega arith)
        ∙ get_or-set_same users (640 + 4 * t + first) c 0 (omega arith)

    -- what the other channels and tasks have stays, and so do the other bytes of these
    channel_kept : (k col : ℕ) → k ≤ 128 → col < 4 → (k ≡ c → (col ≢ end) × (col ≢ next)) → get_or after (4 * k + col) 0 ≡ get_or users (4 * k + col) 0
    channel_kept k col h few other =
        end_other (4 * k + col) (λ (e : 4 * k + col ≡ 4 * c + end). (other (omega arith)).0 (omega arith)) (λ (e : 4 * k + col ≡ 4 * c + next). (other (omega arith)).1 (omega arith)) (omega arith)

    task_kept : (s col : ℕ) → col < 4 → (s ≡ t → col ≢ first) → get_or after (640 + 4 * s + col) 0 ≡ get_or users (640 + 4 * s + col) 0
    task_kept s col few other =
        end_other (640 + 4 * s + col) (omega arith) (omega arith) (λ (e : 640 + 4 * s + col ≡ 640 + 4 * t + first). other (omega arith) (omega arith))

    -- the links at this end, and those at the other
    pub linked_here : (ends : List ℕ) → get_or ends c 0 ≡ t → end ≢ next → LinkedFrom ends end first next c users → LinkedFrom ends end first next (c - 1) after
    linked_here ends te ne l =
        record {
          has = λ k h p.
              by_cases
              (ℕ_discrete k c)
              (λ (e : k ≡ c). rw e (end_here ∙ sym te))
              (λ q. channel_kept k end h at.end_few (λ e. absurd (q e)) ∙ l.has k h (λ some. omega (arith, p some)));
          firsts = λ s h.
              by_cases
              (ℕ_discrete s t)
              (λ (e : s ≡ t). rw e (end_first ∙ sym (next_here ends t c at.channel_low at.channel te)))
              (λ q. task_kept s first at.first_few (λ e. absurd (q e)) ∙ l.firsts s h ∙ sym (next_past ends s c at.channel_low at.channel (λ e. q (sym e ∙ te))));
          nexts = λ k p h.
              by_cases
              (ℕ_discrete k c)
              (λ (e : k ≡ c). rw e (end_next ne ∙ l.firsts t at.task ∙ ap (λ s. next_in ends s (128 - c)) (sym te)))
              (λ q. channel_kept k next h at.next_few (λ e. absurd (q e)) ∙ l.nexts k (omega arith) h);
        }

    pub linked_there : (ends : List ℕ) (end' first' next' c' : ℕ) → Apart end first next end' first' next'
        → LinkedFrom ends end' first' next' c' users → LinkedFrom ends end' first' next' c' after
    linked_there ends end' first' next' c' p l =
        record {
          has = λ k h d. channel_kept k end' h p.end_few (λ _. (p.end_end, p.end_next)) ∙ l.has k h d;
          firsts = λ s h. task_kept s first' p.first_few (λ _. p.first_first) ∙ l.firsts s h;
          nexts = λ k d h. channel_kept k next' h p.next_few (λ _. (p.next_end_lem, p.next_next)) ∙ l.nexts k d h;
        }

-- a channel without a task: the first such channel so far is none, and this one goes before it
pub end_none : (users : List ℕ) (c none end first next : ℕ) → AtEnd c 0 end first next → length users ≡ 1024
    → set (set (set users (4 * c + next) none) (4 * c + end) 0) (640 + first) c ≡ with_end (set users (640 + first) none) c 0 end first next
unfolding with_end
end_none users c none end first next at long =
    let f = 640 + first in
    let n = 4 * c + next in
    let e = 4 * c + end in
    let was : get_or (set users f none) f 0 ≡ none = get_or-set_same users f none 0 (omega arith) in
    set_comm (set users n none) e f 0 c (omega arith)
    ∙ ap (λ (l : List ℕ). set l e 0) (set_comm users n f none c (omega arith))
    ∙ ap (λ (l : List ℕ). set (set l n none) e 0) (sym (set-set users f none c))
    ∙ ap (λ (k : ℕ). set (set (set (set users f none) f c) n k) e 0) (sym was)
