-- What is kept of some instructions, with one more that is not refused.
use mathlib.Core.Path.{◌≡◌, refl, sym, ◌∙◌, ap}
use mathlib.Core.Bool.{Bool, true, ◌&&◌, ◌||◌}
use mathlib.Core.List.{List, [], ◌∷◌, ◌++◌}
use mathlib.Core.Logic.{◌≢◌, by_cases}
use Prim.Native.Nat.{ℕ, suc, ◌-◌, ◌<◌, ◌≤◌}
use native.Mathlib.Decide.{ℕ_discrete}
use native.Mathlib.Omega.{arith}
use lib.ListN.{get_or, replicate}
use lib.Dec.{eqb, leb}
use borrow.Author.Tests.{eq-eqb, ne_eqb, le-leb, lt-leb}
use Rattle.base.specs.Range.{below}
use Rattle.base.specs.Lists.{every, any}
use Rattle.base.proofs.Folds.{fold_same}
use Rattle.base.proofs.Tables.{all_same, length_table, get_d_table, table_same, set_table}
use Rattle.base.proofs.Tests.{and_both, and_true, and_false, within_low, within_high, below_all, every_append}
use Rattle.plan.specs.Kinds.{op_create, op_send, op_receive}
use Rattle.plan.specs.Users.{first_of}
use Rattle.plan_laws.proofs.Programs.{create_operand}
use Rattle.plan_value.specs.declared.instruction.Edition.{Edition}
use Rattle.plan_value.specs.declared.pass.Entry.{Entry}
use Rattle.plan_value.specs.Marks.{kept_of, create_mark, end_mark}
use Rattle.plan_value.specs.Firsts.{NoFirsts}
use Rattle.plan_value.specs.Ends.{Counted}
use Rattle.plan_value.specs.Pass.{Seen, seen, start_pass, entry_ok, finish_fits, next_table, next_create, next_end, taken_seen, uses_of, firsts_of, create_fine, creates_fine, ends_fit, ends_fine, Passed}
use Rattle.plan_value.proofs.Changes.{or_true, below_mark}
use Rattle.plan_value.proofs.Nexts.{argument_fine, create_fits, send_fits, receive_fits}
use Rattle.plan_value.proofs.Marked.{first_more, create_more, ends_swap, ends_more}
use Rattle.plan_value.proofs.Unpaired.{unpaired_none}
use Rattle.plan_value.proofs.Uses.{uses_same, uses_one, uses_some}

-- of none
no_uses : (k : ℕ) {p : List ℕ} → p ≡ replicate 129 0 → p ≡ firsts_of k []
unfolding uses_of
no_uses k e = e ∙ all_same 129 (λ a. first_of (uses_of k a [])) 0 (λ a h. refl)

pub pass_none : (e : Edition) (n : ℕ) {x y z : List ℕ} → NoFirsts x y z → Passed e n [] (seen (start_pass n true) x y z)
unfolding uses_of every
pass_none e n none =
    record {
      size = refl;
      none = refl;
      instructions = refl;
      finishes = refl;
      creates = sym (below_all (λ k. leb (suc k) 1 || create_fine (suc k) (uses_of op_create (suc k) [])) n (λ k h. or_true (leb (suc k) 1)));
      channels = sym (below_all (λ k. ends_fit (uses_of op_send (suc k) []) (uses_of op_receive (suc k) [])) 128 (λ k h. unfold any in refl));
      unpaired = sym (rw (none.senders, none.receivers) unpaired_none);
      parents = no_uses op_create none.parents;
      senders = no_uses op_send none.senders;
      receivers = no_uses op_receive none.receivers;
      tasks = refl;
    }

module _ (l : List Entry) (x : Entry) (some : every (λ x. leb 1 x.task) l ≡ true) (task : 1 ≤ x.task) where
  abbrev then : List Entry
  then = l ++ (x ∷ [])

  abbrev kind : ℕ
  kind = x.instruction.opcode

  abbrev a : ℕ
  a = x.instruction.operand

  some_then : every (λ x. leb 1 x.task) (l ++ (x ∷ [])) ≡ true
  unfolding every
  some_then = every_append (λ x. leb 1 x.task) l (x ∷ []) ∙ and_both _ _ some (rw (le-leb 1 x.task task) refl)

  -- it is a use of one kind and argument only
  here : (k : ℕ) → kind ≡ k → uses_of k a (l ++ (x ∷ [])) ≡ uses_of k a l ++ (x.task ∷ [])
  here k o = uses_one k a l x (and_both (eqb kind k) (eqb a a) (eq-eqb kind k o) (eq-eqb a a refl))

  other_kind : (k : ℕ) → kind ≢ k → (b : ℕ) → uses_of k b (l ++ (x ∷ [])) ≡ uses_of k b l
  other_kind k ne b = uses_same k b l x (rw (ne_eqb kind k ne) refl)

  elsewhere : (k b : ℕ) → b ≢ a → uses_of k b (l ++ (x ∷ [])) ≡ uses_of k b l
  elsewhere k b ne = uses_same k b l x (rw (ne_eqb a b (λ e. ne (sym e))) (and_false (eqb kind k)))

  first_here : (k : ℕ) {f : List ℕ} → f ≡ firsts_of k l → a < 129 → get_or f a 0 ≡ first_of (uses_of k a l)
  first_here k e fits = rw e (get_d_table 129 (λ b. first_of (uses_of k b l)) a 0 fits)

  firsts_next : (k : ℕ) {f : List ℕ} → f ≡ firsts_of k l → (kind ≡ k → a < 129) → next_table k x f ≡ firsts_of k (l ++ (x ∷ []))
  firsts_next k {f} e fits = by_cases (ℕ_discrete kind k) (λ (o : kind ≡ k). taken o) (λ ne. rw (ne_eqb kind k ne) (e ∙ table_same 129 _ _ (λ b h. ap first_of (sym (other_kind k ne b)))))
    where
      taken : kind ≡ k → next_table k x f ≡ firsts_of k (l ++ (x ∷ []))
      taken o =
          let new : kept_of (get_or f a 0) x.task ≡ first_of (uses_of k a (l ++ (x ∷ []))) =
          ap (λ (t : ℕ). kept_of t x.task) (first_here k e (fits o)) ∙ sym (first_more (uses_of k a l) x.task (uses_some k a l some)) ∙ ap first_of (sym (here k o)) in
          rw (eq-eqb kind k o, new, e)
          (set_table 129 (λ b. first_of (uses_of k b l)) (λ b. first_of (uses_of k b (l ++ (x ∷ [])))) a 0 (fits o)
          (λ b h ne. ap first_of (sym (elsewhere k b ne))))

  -- creates
  creates_next : (n : ℕ) {f : List ℕ} → f ≡ firsts_of op_create l → (kind ≡ op_create → (2 ≤ a) × (a ≤ n) × (a < 129))
      → creates_fine n (l ++ (x ∷ [])) ≡ creates_fine n l && next_create x f
  creates_next n {f} e fits =
      by_cases
      (ℕ_discrete kind op_create)
      (λ (o : kind ≡ op_create). rw (eq-eqb kind op_create o) (below_mark n (a - 1) before after (create_mark (get_or f a 0) x.task a) (omega (arith, fits o)) (same o) (mark o)))
      (λ ne.
      rw (ne_eqb kind op_create ne)
      (fold_same ◌&&◌ true n after before (λ k h. ap (λ (u : List ℕ). leb (suc k) 1 || create_fine (suc k) u) (other_kind op_create ne (suc k)))
      ∙ sym (and_true (creates_fine n l))))
    where
      before : ℕ → Bool
      before k = leb (suc k) 1 || create_fine (suc k) (uses_of op_create (suc k) l)

      after : ℕ → Bool
      after k = leb (suc k) 1 || create_fine (suc k) (uses_of op_create (suc k) (l ++ (x ∷ [])))

      same : kind ≡ op_create → (k : ℕ) → k < n → k ≢ a - 1 → after k ≡ before k
      same o k h ne = ap (λ (u : List ℕ). leb (suc k) 1 || create_fine (suc k) u) (elsewhere op_create (suc k) (λ z. ne (omega (arith, fits o))))

      mark : kind ≡ op_create → after (a - 1) ≡ before (a - 1) && create_mark (get_or f a 0) x.task a
      mark o =
          let at : suc (a - 1) ≡ a = omega (arith, fits o) in
          rw (at, lt-leb a 1 (omega (arith, fits o)), here op_create o, first_here op_create e (fits o).2)
          (create_more a (uses_of op_create a l) x.task (uses_some op_create a l some))

  -- channels: kind k is of one end, kind j of the other
  abbrev ends_over : ℕ → ℕ → List Entry → ℕ → Bool
  ends_over k j r c = ends_fit (uses_of k (suc c) r) (uses_of j (suc c) r)

  turned : (k j : ℕ) (r : List Entry) → every (λ x. leb 1 x.task) r ≡ true → below 128 (ends_over k j r) ≡ below 128 (ends_over j k r)
  turned k j r h =
      fold_same ◌&&◌ true 128 (ends_over k j r) (ends_over j k r)
      (λ c q. ends_swap (uses_of k (suc c) r) (uses_of j (suc c) r) (uses_some k (suc c) r h) (uses_some j (suc c) r h))

  end_next : (k j : ℕ) {f g : List ℕ} → f ≡ firsts_of k l → g ≡ firsts_of j l → kind ≡ k → k ≢ j → 1 ≤ a → a < 129
      → below 128 (ends_over k j (l ++ (x ∷ []))) ≡ below 128 (ends_over k j l) && end_mark (get_or f a 0) (get_or g a 0) x.task
  end_next k j {f} {g} e d o ne low fits =
      let other = other_kind j (λ z. ne (sym o ∙ z)) in
      let at : suc (a - 1) ≡ a = omega arith in
      let whole = rw (here k o) at (uses_some k a (l ++ (x ∷ [])) some_then) in
      below_mark 128 (a - 1) (ends_over k j l) (ends_over k j (l ++ (x ∷ []))) (end_mark (get_or f a 0) (get_or g a 0) x.task) (omega arith)
      (λ c h z. rw (elsewhere k (suc c) (λ w. z (omega arith)), other (suc c)) refl)
      (rw (at, here k o, other a, first_here k e fits, first_here j d fits)
      (ends_more (uses_of k a l) (uses_of j a l) x.task (uses_some k a l some) (ne_eqb x.task 0 (λ z. omega arith)) whole))

  channels_next : {f g : List ℕ} → f ≡ firsts_of op_send l → g ≡ firsts_of op_receive l → (kind ≡ op_send → (1 ≤ a) × (a < 129)) → (kind ≡ op_receive → (1 ≤ a) × (a < 129))
      → ends_fine (l ++ (x ∷ [])) ≡ ends_fine l && (next_end op_send x f g && next_end op_receive x g f)
  channels_next {f} {g} e d sent received =
      by_cases
      (ℕ_discrete kind op_send)
      (λ (o : kind ≡ op_send).
      rw (eq-eqb kind op_send o, ne_eqb kind op_receive (λ z. omega arith))
      (end_next op_send op_receive e d o (λ z. omega arith) (sent o).0 (sent o).1 ∙ ap (λ (b : Bool). ends_fine l && b) (sym (and_true (end_mark (get_or f a 0) (get_or g a 0) x.task)))))
      (λ ne.
      by_cases
      (ℕ_discrete kind op_receive)
      (λ (o : kind ≡ op_receive).
      rw (ne_eqb kind op_send ne, eq-eqb kind op_receive o)
      (turned op_send op_receive (l ++ (x ∷ [])) some_then
      ∙ end_next op_receive op_send d e o (λ z. omega arith) (received o).0 (received o).1
      ∙ ap (λ (b : Bool). b && end_mark (get_or g a 0) (get_or f a 0) x.task) (turned op_receive op_send l some)))
      (λ no.
      rw (ne_eqb kind op_send ne, ne_eqb kind op_receive no)
      (fold_same ◌&&◌ true 128 (ends_over op_send op_receive (l ++ (x ∷ []))) (ends_over op_send op_receive l)
      (λ c h. rw (other_kind op_send ne (suc c), other_kind op_receive no (suc c)) refl)
      ∙ sym (and_true (ends_fine l)))))

pub pass_counted : {e : Edition} {n : ℕ} {l : List Entry} {s : Seen} → Passed e n l s → Counted s.pass.unpaired s.senders s.receivers
pass_counted {l = l} p =
    record {
      size = rw p.senders (length_table 129 (λ a. first_of (uses_of op_send a l)));
      other_size = rw p.receivers (length_table 129 (λ a. first_of (uses_of op_receive a l)));
      count = p.unpaired;
    }

pub pass_taken : (e : Edition) (n : ℕ) {l : List Entry} (x : Entry) {s : Seen} → n ≤ 64 → Passed e n l s → 1 ≤ x.task → entry_ok e n x ≡ true → Passed e n (l ++ (x ∷ [])) (taken_seen x s)
unfolding every
pass_taken e n {l} x {s} few p task fine =
    let a = x.instruction.operand in
    record {
      size = p.size;
      none = p.none;
      instructions = every_append (entry_ok e n) l (x ∷ []) ∙ and_both _ _ p.instructions (rw fine refl);
      finishes = ap (λ (b : Bool). b && finish_fits x) p.finishes ∙ ap (λ (b : Bool). every finish_fits l && b) (sym (and_true (finish_fits x))) ∙ sym (every_append finish_fits l (x ∷ []));
      creates =
          ap (λ (b : Bool). b && next_create x s.parents) p.creates
          ∙ sym
          (creates_next l x p.tasks task n p.parents
          (λ o. let r = create_operand n x.instruction (argument_fine e n x fine (omega arith)) o in (within_low 2 n a r, within_high 2 n a r, create_fits e n x fine few o)));
      channels =
          ap (λ (b : Bool). b && (next_end op_send x s.senders s.receivers && next_end op_receive x s.receivers s.senders)) p.channels
          ∙ sym
          (channels_next l x p.tasks task p.senders p.receivers
          (send_fits e n x fine) (receive_fits e n x fine));
      unpaired = refl;
      parents = firsts_next l x p.tasks task op_create p.parents (create_fits e n x fine few);
      senders = firsts_next l x p.tasks task op_send p.senders (λ o. (send_fits e n x fine o).1);
      receivers = firsts_next l x p.tasks task op_receive p.receivers (λ o. (receive_fits e n x fine o).1);
      tasks = some_then l x p.tasks task;
    }
