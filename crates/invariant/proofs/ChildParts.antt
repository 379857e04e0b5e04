-- A child with its parent: what it says of either, and that each step keeps it.
use mathlib.Core.Path.{◌≡◌, refl, sym, ap, ◌∙◌}
use mathlib.Core.Bool.{Bool, true, false, not}
use mathlib.Core.Logic.{⊎_elim}
use mathlib.Core.List.{List, ◌++◌}
use mathlib.Core.Option.{some}
use Prim.Native.Nat.{ℕ, suc, ◌+◌, ◌≤◌}
use native.Mathlib.Numerals.{add-one}
use native.Mathlib.Omega.{arith}
use lib.ListN.{length, get_elem?, length-append}
use borrow.Author.Tests.{eqb-true}
use Rattle.base.specs.Sets.{member}
use Rattle.base.proofs.Tests.{is_false, is_true, tests_differ}
use Rattle.base.proofs.Sets.{member_inserted, none_member, removed_all_other, removed_all_out}
use Rattle.base.proofs.Updates.{updated_same}
use Rattle.plan.specs.declared.TaskId.{TaskId}
use Rattle.plan.specs.declared.ProcessorId.{ProcessorId}
use Rattle.rules.specs.declared.task.TaskState.TheVariants.{Unborn, Ready, Done}
use Rattle.rules.specs.declared.task.Task.{Task}
use Rattle.rules.specs.declared.channel.Hint.{Hint}
use Rattle.rules.specs.declared.system.ParentEntry.{ParentEntry}
use Rattle.rules.specs.Hints.{hint}
use Rattle.rules.specs.Tasks.{is_in, born, departed, arrived, is_childless, without_child, without_children}
use Rattle.rules.specs.Local.{create_rule, holding_child}
use Rattle.rules.specs.Arrivals.{arrival_parent}
use Rattle.channel.specs.Bags.{one, without}
use Rattle.channel.specs.Updates.{at_number}
use Rattle.channel.specs.Hints.{Way, Coming}
use Rattle.channel.proofs.Bags.{in_post, in_without, length_without}
use Rattle.channel.proofs.Hints.{way_more}
use Rattle.channel.proofs.Updates.{at_elim}
use Rattle.transitions.specs.Progress.{flag}
use Rattle.transitions.specs.Transitions.{finished}
use Rattle.transitions.specs.Family.{is_held, Child}
use Rattle.transitions.proofs.Tasks.{state_is}
use Rattle.invariant.proofs.FamilyParts.{none_in, lost_out, lost_place}

-- a flag is 0 or 1
flag_false : (b : Bool) → flag b ≡ 0 → b ≡ false
flag_false true e = absurd (omega arith)
flag_false false e = refl

module _ {u : TaskId} {history : ℕ → ℕ} {parent child : Task} {entries : ℕ → ParentEntry} {ended : List Hint}
    (k : Child u history parent child entries ended) where
  -- of a child that is not done no letter is under way, and it is not held
  none_ended : is_in Done child ≡ false → length ended ≡ 0
  none_ended d = let l = rw d at k.later in omega arith

  not_held : is_in Done child ≡ false → is_held u history parent entries ≡ false
  not_held d = let l = rw d at k.later in flag_false (is_held u history parent entries) (omega arith)

  -- nobody is held for a parent that stands at a desk, or is not born
  none_held : (Coming parent.processor.0 parent.moves 0 0 → ⊥) → (d : ℕ) → member u.0 (entries d).held ≡ false
  none_held f d =
      is_false (member u.0 (entries d).held)
      (λ e. let c = k.held_for d e in f (record { moving = c.moving; born = c.born; sent = refl }))

  -- it is created by its parent, which stands at a desk
  pub created_child : is_in Unborn child ≡ true → 1 ≤ parent.moves → parent.processor.0 ≡ history parent.moves
      → Child u history (create_rule parent u) (born parent.processor (hint parent.processor parent.moves)) entries ended
  created_child b l e =
      let d = state_is Unborn Done child b in
      let z = none_ended d in
      let h = not_held d in
      record {
        living = rw (member_inserted u.0 parent.children, z, h) refl;
        later = rw (z, h) (omega arith);
        held_for = k.held_for;
        way = λ o i. none_in ended z i;
        own = λ f. record { some = l; old = omega arith; says = e };
        own_here = λ f g. refl;
      }

  -- it finishes with its parent near, or away
  pub near_child : is_in Ready child ≡ true → Child u history (without_child parent u) (finished child) entries ended
  near_child r =
      let d = state_is Ready Done child r in
      let z = none_ended d in
      let h = not_held d in
      let p = lost_place parent u in
      let b = state_is Ready Unborn child r in
      record {
        living = rw (lost_out parent u, p.moves, z, h) refl;
        later = rw (p.moves, z, h) (omega arith);
        held_for = rw (p.processor, p.moves) k.held_for;
        way = λ o i. none_in ended z i;
        own = λ f. rw p.moves (k.own b);
        own_here = λ f. rw (p.moves, p.processor) (k.own_here b);
      }

  pub away_child : is_in Ready child ≡ true → (along : Hint) → Way history parent.moves along.processor.0 along.moves
      → Child u history parent (finished child) entries (ended ++ one along)
  away_child r along w =
      let d = state_is Ready Done child r in
      let b = state_is Ready Unborn child r in
      let z = none_ended d in
      let h = not_held d in
      let l = rw (d, b, z, h) at k.living in
      let n = length-append ended (one along) in
      record {
        living = rw (n, z, h) (omega arith);
        later = rw (n, z, h) (omega arith);
        held_for = k.held_for;
        way = λ o i. ⊎_elim (λ (e : o ≡ along). rw e w) (k.way o) (in_post ended i);
        own = λ f. k.own b;
        own_here = λ f. k.own_here b;
      }

  -- its ended letter is delivered: it leaves the set, the letter is forwarded, or it is held
  module _ (p : ℕ) (along : Hint) (at : get_elem? ended p ≡ some along) where
    pub ended_child : member u.0 parent.children ≡ true → Child u history (without_child parent u) child entries (without ended p)
    ended_child i =
        let n = length_without ended p at in
        let l = rw i at k.living in
        let q = lost_place parent u in
        record {
          living = rw (lost_out parent u, q.moves) (omega arith);
          later = rw q.moves (omega (arith, k.later));
          held_for = rw (q.processor, q.moves) k.held_for;
          way = λ o j. rw q.moves (k.way o (in_without ended p j));
          own = rw q.moves k.own;
          own_here = rw (q.moves, q.processor) k.own_here;
        }

    pub onward_child : (pointer : Hint) → Way history parent.moves pointer.processor.0 pointer.moves
        → Child u history parent child entries (without ended p ++ one pointer)
    onward_child pointer w =
        let n = length_without ended p at in
        let a = length-append (without ended p) (one pointer) in
        let same : length (without ended p ++ one pointer) ≡ length ended = omega arith in
        record {
          living = rw same k.living;
          later = rw same k.later;
          held_for = k.held_for;
          way = λ o j. ⊎_elim (λ (e : o ≡ pointer). rw e w) (λ i. k.way o (in_without ended p i)) (in_post (without ended p) j);
          own = k.own;
          own_here = k.own_here;
        }

    pub held_child : (d : ℕ) → Coming parent.processor.0 parent.moves d (history parent.moves)
        → Child u history parent child (at_number entries d (holding_child (entries d) u)) (without ended p)
    held_child d c =
        let n = length_without ended p at in
        let few = k.later in
        let most : flag (is_in Done child) ≤ 1 = flag_most (is_in Done child) in
        let h : is_held u history parent entries ≡ false = flag_false (is_held u history parent entries) (omega arith) in
        let l = rw h at k.living in
        let f = rw h at k.later in
        let now : member u.0 (at_number entries d (holding_child (entries d) u) (history parent.moves)).held ≡ true =
        rw (← c.sent, updated_same (λ (j : ℕ). j) entries d (holding_child (entries d) u)) (member_inserted u.0 (entries d).held) in
        record {
          living = rw now (omega arith);
          later = rw now (omega arith);
          held_for =
              at_elim (λ x o. member u.0 o.held ≡ true → Coming parent.processor.0 parent.moves x (history parent.moves)) entries d
              (holding_child (entries d) u) (λ i. c) (λ x ne. k.held_for x);
          way = λ o j. k.way o (in_without ended p j);
          own = k.own;
          own_here = k.own_here;
        }
      where
        flag_most : (b : Bool) → flag b ≤ 1
        flag_most true = omega arith
        flag_most false = omega arith

  -- its parent departs to desk e
  pub departed_child : (e : ℕ) → 1 ≤ parent.processor.0 → (later : ℕ → ParentEntry) → ((d : ℕ) → (later d).held ≡ (entries d).held)
      → Child u (at_number history (suc parent.moves) e) (departed parent) child later ended
  departed_child e stands later same =
      let out = none_held (λ c. omega (arith, c.moving)) in
      let gone : (d : ℕ) → member u.0 (later d).held ≡ false = λ d. rw (same d) (out d) in
      let l = rw (out (history parent.moves)) at k.living in
      let f = rw (out (history parent.moves)) at k.later in
      record {
        living = rw (gone (at_number history (suc parent.moves) e (parent.moves + 1))) l;
        later = rw (gone (at_number history (suc parent.moves) e (parent.moves + 1))) f;
        held_for = λ d i. absurd (tests_differ i (gone d));
        way = λ o i. rw (add-one parent.moves) (way_more e (k.way o i));
        own = λ b. rw (add-one parent.moves) (way_more e (k.own b));
        own_here = λ b q. absurd (let o = (k.own b).old in omega arith);
      }

  -- its parent arrives at desk d, where it was sent last: if it is held there it leaves the set
  pub arrived_child : (d : ProcessorId) → 1 ≤ u.0 → u.0 ≤ 64 → d.0 ≡ history parent.moves
      → Child u history (without_children (arrived parent d) (entries d.0).held) child (at_number entries d.0 (arrival_parent d parent.moves)) ended
  arrived_child d low high sent =
      record {
        living = rw gone (fewer (member u.0 (entries d.0).held) refl);
        later = rw gone (omega (arith, k.later));
        held_for =
            at_elim (λ x o. member u.0 o.held ≡ true → Coming d.0 parent.moves x (history parent.moves)) entries d.0
            (arrival_parent d parent.moves) (λ i. absurd (tests_differ i (none_member u.0)))
            (λ x ne i. absurd (ne ((k.held_for x i).sent ∙ sym sent)));
        way = k.way;
        own = k.own;
        own_here = λ b (q : child.origin.moves ≡ parent.moves). sent ∙ sym ((k.own b).says ∙ ap history q);
      }
    where
      gone : member u.0 (at_number entries d.0 (arrival_parent d parent.moves) (history parent.moves)).held ≡ false
      gone = rw (← sent, updated_same (λ (j : ℕ). j) entries d.0 (arrival_parent d parent.moves)) (none_member u.0)

      set : ℕ
      set = (without_children (arrived parent d) (entries d.0).held).children

      fewer : (b : Bool) → member u.0 (entries d.0).held ≡ b → flag (member u.0 set) + flag (is_in Done child) ≡ flag (not (is_in Unborn child)) + (length ended + 0)
      fewer false e =
          let l = k.living in
          let held : is_held u history parent entries ≡ false = rw (← sent) e in
          rw (removed_all_other 64 (entries d.0).held parent.children u.0 low e) (rw held at l)
      fewer true e =
          let held : is_held u history parent entries ≡ true = rw (← sent) e in
          let l = rw held at k.living in
          let f = rw held at k.later in
          let done : is_in Done child ≡ true = is_true (is_in Done child) (λ q. let z = rw q at f in omega arith) in
          let b = state_is Done Unborn child done in
          let z = rw done at f in
          rw (removed_all_out 64 (entries d.0).held parent.children u.0 low high e, done, b) (omega arith)

  -- its parent is born: it is not
  module _ (unborn : parent.moves ≡ 0) where
    pub never_born : is_in Unborn child ≡ true
    never_born = is_true (is_in Unborn child) (λ b. let w = k.own b in let l = w.some in let o = w.old in omega arith)

    pub not_member : member u.0 parent.children ≡ false
    not_member =
        let b = never_born in
        let d = state_is Unborn Done child b in
        is_false (member u.0 parent.children) (λ e. let l = rw (e, b, d, none_ended d, not_held d) at k.living in omega arith)

    pub no_ended_yet : length ended ≡ 0
    no_ended_yet = none_ended (state_is Unborn Done child never_born)

    pub born_parent : (then : ℕ → ℕ) (at : ProcessorId) (own : Hint) (later : ℕ → ParentEntry) → ((d : ℕ) → (later d).held ≡ (entries d).held)
        → Child u then (born at own) child later ended
    born_parent then at own later same =
        let b = never_born in
        let d = state_is Unborn Done child b in
        let z = none_ended d in
        let out = none_held (λ c. omega (arith, c.born)) in
        let gone : (x : ℕ) → member u.0 (later x).held ≡ false = λ x. rw (same x) (out x) in
        record {
          living = rw (none_member u.0, b, d, z, gone (then 1)) refl;
          later = rw (z, gone (then 1)) (omega arith);
          held_for = λ x i. absurd (tests_differ i (gone x));
          way = λ o i. none_in ended z i;
          own = λ f. absurd (tests_differ b f);
          own_here = λ f. absurd (tests_differ b f);
        }

  -- a born child of a task with no living children is done
  pub childless_done : is_childless parent ≡ true → is_in Unborn child ≡ false → is_in Done child ≡ true
  childless_done e b =
      let out : member u.0 parent.children ≡ false = rw (eqb-true parent.children 0 e) (none_member u.0) in
      is_true (is_in Done child) (λ d. let l = rw (out, b, d, none_ended d, not_held d) at k.living in omega arith)
