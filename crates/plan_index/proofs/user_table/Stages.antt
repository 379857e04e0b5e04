-- The table as it is built: where it begins, one channel more at both ends, and the whole.
use mathlib.Core.Path.{◌≡◌, refl, sym, ◌∙◌, ap}
use mathlib.Core.List.{List}
use mathlib.Core.Logic.{◌≢◌, by_cases}
use Prim.Native.Nat.{ℕ, ◌+◌, ◌*◌, ◌-◌, ◌≤◌, ◌<◌}
use native.Mathlib.Omega.{arith}
use native.Mathlib.Decide.{dec_lt, ℕ_discrete}
use lib.ListN.{get_or, set, length, length-set, replicate, length-replicate, get_or-replicate, get_or-eq_default}
use lib.Seq.{get_or-set_same, get_or-set_other, set-get_or, set_comm}
use Rattle.base.specs.Lists.{table}
use Rattle.base.proofs.Tables.{get_d_table, table_same, as_table}
use Rattle.plan_index.specs.user_table.Links.{Linked}
use Rattle.plan_index.specs.user_table.Users.{senders_of, receivers_of, parents_of, firsts_received, nexts_received, firsts_sent, nexts_sent}
use Rattle.plan_index.specs.user_table.Built.{with_parents, with_end, AtEnd, Few, Built}
use Rattle.plan_index.proofs.user_table.Linking.{next_none}
use Rattle.plan_index.proofs.user_table.Parents.{parents_long, parents_other, parents_at}
use Rattle.plan_index.proofs.user_table.Building.{LinkedFrom, end_long, end_other, end_apart, linked_here, linked_there}

-- the channels after c are linked at both ends, and the tasks have their parents
pub record Stage (senders receivers parents : List ℕ) (c : ℕ) (users : List ℕ) : Type 0 where
  pub long : length users ≡ 1024
  pub sending : LinkedFrom senders 0 2 3 c users
  pub receiving : LinkedFrom receivers 1 1 2 c users
  pub parent : (t : ℕ) → t ≤ 128 → get_or users (640 + 4 * t) 0 ≡ get_or parents t 0

-- the table with the first channels that have no task at an end, which are kept apart from it meanwhile
abbrev pub closed : List ℕ → ℕ → ℕ → List ℕ
closed users sent received = set (set users 642 sent) 641 received

pub closed_long : (users : List ℕ) (sent received : ℕ) → length (closed users sent received) ≡ length users
closed_long users sent received = simp length-set

-- a table with one end more has as many bytes
pub linked_long : (users after : List ℕ) (c t end first next j x r : ℕ) → AtEnd c t end first next → set after j r ≡ with_end (set users j x) c t end first next → length users ≡ 1024 → length after ≡ 1024
linked_long users after c t end first next j x r at e long =
    let q : length (set after j r) ≡ length (set users j x) = ap length e ∙ end_long (set users j x) c t end first next at in
    (simp length-set at q) ∙ long

module _ (senders receivers parents : List ℕ) (few : Few senders receivers parents) where
  -- the ends of one channel
  module _ (c : ℕ) (some : 1 ≤ c) (most : c ≤ 128) where
    pub send_at : AtEnd c (get_or senders c 0) 0 2 3
    send_at = omega (arith, few.sender c)

    pub receive_at : AtEnd c (get_or receivers c 0) 1 1 2
    receive_at = omega (arith, few.receiver c)

    module _ (users : List ℕ) where
      abbrev sent : List ℕ
      sent = with_end users c (get_or senders c 0) 0 2 3

      pub stage_more : Stage senders receivers parents c users → Stage senders receivers parents (c - 1) (with_end sent c (get_or receivers c 0) 1 1 2)
      stage_more g =
          let s = get_or senders c 0 in
          let r = get_or receivers c 0 in
          let long = end_long users c s 0 2 3 send_at ∙ g.long in
          record {
            long = end_long sent c r 1 1 2 receive_at ∙ long;
            sending = linked_there sent c r 1 1 2 receive_at long senders 0 2 3 (c - 1) (omega arith)
                (linked_here users c s 0 2 3 send_at g.long senders refl (omega arith) g.sending);
            receiving = linked_here sent c r 1 1 2 receive_at long receivers refl (omega arith)
                (linked_there users c s 0 2 3 send_at g.long receivers 1 1 2 c (omega arith) g.receiving);
            parent = λ t h.
                end_other sent c r 1 1 2 receive_at (640 + 4 * t) (omega arith) (omega arith) (omega arith)
                ∙ end_other users c s 0 2 3 send_at (640 + 4 * t) (omega arith) (omega arith) (omega arith)
                ∙ g.parent t h;
          }

    -- the same of tables that are closed only then
    module _ (users one two : List ℕ) (sent sent' received received' : ℕ)
        (e1 : set one 642 sent' ≡ with_end (set users 642 sent) c (get_or senders c 0) 0 2 3)
        (e2 : set two 641 received' ≡ with_end (set one 641 received) c (get_or receivers c 0) 1 1 2) where
      both_linked : closed two sent' received' ≡ with_end (with_end (closed users sent received) c (get_or senders c 0) 0 2 3) c (get_or receivers c 0) 1 1 2
      both_linked =
          let s = get_or senders c 0 in
          let r = get_or receivers c 0 in
          set_comm two 642 641 sent' received' (omega arith)
          ∙ ap (λ (l : List ℕ). set l 642 sent') e2
          ∙ end_apart (set one 641 received) c r 1 1 2 receive_at 642 sent' (omega arith) (omega arith) (omega arith)
          ∙ ap (λ (l : List ℕ). with_end l c r 1 1 2)
          (set_comm one 641 642 received sent' (omega arith)
          ∙ ap (λ (l : List ℕ). set l 641 received) e1
          ∙ end_apart (set users 642 sent) c s 0 2 3 send_at 641 received (omega arith) (omega arith) (omega arith))

      pub closed_more : Stage senders receivers parents c (closed users sent received) → Stage senders receivers parents (c - 1) (closed two sent' received')
      closed_more g = rw both_linked (stage_more (closed users sent received) g)

  -- no channel is linked
  abbrev zeros : List ℕ
  zeros = replicate 1024 0

  abbrev parented : List ℕ
  parented = with_parents parents 65 zeros

  abbrev begun : List ℕ
  begun = set (set parented 0 (get_or senders 0 0)) 1 (get_or receivers 0 0)

  zeros_long : length zeros ≡ 1024
  zeros_long = length-replicate {A = ℕ} 1024 0

  zero_at : (j : ℕ) → get_or zeros j 0 ≡ 0
  zero_at j =
      by_cases
      (dec_lt j 1024)
      (λ l. get_or-replicate 1024 j 0 0 l)
      (λ l. get_or-eq_default zeros 0 {n = j} (omega (arith, zeros_long)))

  parented_long : length parented ≡ 1024
  parented_long = parents_long parents zeros 65 ∙ zeros_long

  -- what is neither at 0 or 1 nor a parent
  begun_rest : (j : ℕ) → 1 < j → get_or begun j 0 ≡ get_or parented j 0
  begun_rest j h =
      get_or-set_other (set parented 0 (get_or senders 0 0)) 1 j (get_or receivers 0 0) 0 (omega arith)
      ∙ get_or-set_other parented 0 j (get_or senders 0 0) 0 (omega arith)

  begun_none : (j : ℕ) → 1 < j → ((t : ℕ) → t < 65 → j ≢ 640 + 4 * t) → get_or begun j 0 ≡ 0
  begun_none j h other = begun_rest j h ∙ parents_other parents zeros 65 j other ∙ zero_at j

  begun_linked : (ends : List ℕ) (end first next : ℕ) → 1 ≤ first → first < 4 → get_or begun end 0 ≡ get_or ends 0 0 → LinkedFrom ends end first next 128 begun
  begun_linked ends end first next some most e =
      record {
        has = λ k h p.
            by_cases
            (ℕ_discrete k 0)
            (λ (z : k ≡ 0). let s : 4 * k + end ≡ end = omega arith in rw (s, z) e)
            (λ q. absurd (omega (arith, p (omega arith))));
        firsts = λ t h. begun_none (640 + 4 * t + first) (omega arith) (λ u l. omega arith) ∙ sym (next_none ends t);
        nexts = λ k p h. absurd (omega arith);
      }

  pub stage_first : Stage senders receivers parents 128 begun
  stage_first =
      record {
        long = simp length-set parented_long;
        sending = begun_linked senders 0 2 3 (omega arith) (omega arith) (get_or-set_other (set parented 0 (get_or senders 0 0)) 1 0 (get_or receivers 0 0) 0 (omega arith) ∙ get_or-set_same parented 0 (get_or senders 0 0) 0 (omega (arith, parented_long)));
        receiving = begun_linked receivers 1 1 2 (omega arith) (omega arith) (get_or-set_same (set parented 0 (get_or senders 0 0)) 1 (get_or receivers 0 0) 0 (simp length-set (omega (arith, parented_long))));
        parent = λ t h.
            by_cases
            (dec_lt t 65)
            (λ l. begun_rest (640 + 4 * t) (omega arith) ∙ parents_at parents zeros zeros_long 65 t (omega arith) l)
            (λ l. begun_none (640 + 4 * t) (omega arith) (λ u q. omega arith) ∙ sym (few.parent t (omega arith)));
      }

  pub closed_first : Stage senders receivers parents 128 (closed begun 0 0)
  closed_first =
      let none = begun_none 642 (omega arith) (λ t l. omega arith) in
      let none' = begun_none 641 (omega arith) (λ t l. omega arith) in
      let e = ap (set begun 642) (sym none) ∙ set-get_or begun 642 0 in
      let e' = ap (λ (l : List ℕ). set l 641 0) e ∙ ap (set begun 641) (sym none') ∙ set-get_or begun 641 0 in
      rw e' stage_first

  -- all channels are linked
  module _ (users : List ℕ) (g : Stage senders receivers parents 0 users) where
    -- a list of 129, read from the table
    column : (list : List ℕ) (at : ℕ → ℕ) → length list ≡ 129 → ((k : ℕ) → k ≤ 128 → get_or users (at k) 0 ≡ get_or list k 0) → table 129 (λ k. get_or users (at k) 0) ≡ list
    column list at long same =
        table_same 129 (λ k. get_or users (at k) 0) (λ k. get_or list k 0) (λ k h. same k (omega arith)) ∙ ap (λ n. table n (λ k. get_or list k 0)) (sym long) ∙ as_table list 0

    linked_last : (ends : List ℕ) (end first next : ℕ) → LinkedFrom ends end first next 0 users
        → Linked ends (table 65 (λ t. get_or users (640 + 4 * t + first) 0)) (table 129 (λ c. get_or users (4 * c + next) 0))
    linked_last ends end first next l =
        record {
          first = λ t h. get_d_table 65 (λ t. get_or users (640 + 4 * t + first) 0) t 0 (omega arith) ∙ l.firsts t h;
          next = λ c some h. get_d_table 129 (λ c. get_or users (4 * c + next) 0) c 0 (omega arith) ∙ l.nexts c some h;
        }

    senders_last : senders_of users ≡ senders
    unfolding senders_of
    senders_last =
        column senders (λ k. 4 * k) few.senders_long
        (λ k h. let e : 4 * k ≡ 4 * k + 0 = omega arith in ap (λ n. get_or users n 0) e ∙ g.sending.has k h (λ some. omega arith))

    receivers_last : receivers_of users ≡ receivers
    unfolding receivers_of
    receivers_last = column receivers (λ k. 4 * k + 1) few.receivers_long (λ k h. g.receiving.has k h (λ some. omega arith))

    parents_last : parents_of users ≡ parents
    unfolding parents_of
    parents_last = column parents (λ t. 640 + 4 * t) few.parents_long g.parent

    pub stage_last : Built senders receivers parents users
    unfolding firsts_received nexts_received firsts_sent nexts_sent
    stage_last =
        record {
          senders_of_lem = senders_last;
          receivers_of_lem = receivers_last;
          parents_of_lem = parents_last;
          indexed = record {
            receiving = rw receivers_last (linked_last receivers 1 1 2 g.receiving);
            sending = rw senders_last (linked_last senders 0 2 3 g.sending);
          };
        }
