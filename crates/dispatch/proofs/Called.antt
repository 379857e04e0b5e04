-- Calls one after the other: what the first of them have left and written.
use mathlib.Core.Path.{◌≡◌, refl, sym, ap, ◌∙◌}
use mathlib.Core.Bool.{Bool, true, false}
use mathlib.Core.List.{List, [], ◌∷◌, ◌++◌, map, append_assoc, append-nil}
use Prim.Native.Nat.{ℕ, zero, suc, ◌+◌, ◌≤◌}
use native.Mathlib.Omega.{arith}
use lib.ListN.{length, get_or}
use lib.Dec.{ltb}
use borrow.Author.Tests.{ne_eqb, ltb-true}
use Rattle.base.proofs.Tests.{tests_differ, within_both}
use Rattle.rules.specs.declared.message.Network.{Network}
use Rattle.rules.specs.declared.step.Step.{Step}
use Rattle.rules.specs.declared.dispatch.Dispatched.{Dispatched}
use Rattle.rules.specs.declared.system.System.{System}
use Rattle.rules.specs.Numbers.{processor_id, processor_ok}
use Rattle.rules.specs.Steps.{quiescent}
use Rattle.rules.specs.Dispatch.{delivery_turn, run_turn, ruled_dispatch, dispatched, step_of}
use Rattle.board.specs.declared.act.Size.{Size}
use Rattle.board.specs.Lent.{Lent}
use Rattle.run.specs.all_steps.Writes.{WrittenBy, filled_by, whole_by}
use Rattle.run.proofs.all_steps.Progress.{next_stopped, next_then}
use Rattle.dispatch.specs.Calls.{step_bytes, desk_after, Called, called}
use Rattle.dispatch.specs.Boards.{On, TurnMade, Ended}
use Rattle.dispatch.proofs.Starting.{nothing_written}

-- steps, and then what further calls leave
abbrev pub after : List Step → Called → Called
after ss c = record { steps = ss ++ c.steps; system = c.system }

called_rest : (j : ℕ) (r : System) (d : ℕ) → quiescent r ≡ true → called j r d ≡ record { steps = []; system = r }
unfolding called
called_rest zero r d h = refl
called_rest (suc j) r d h = rw h refl

called_none : (j : ℕ) (r : System) (d : ℕ) → j ≡ 0 → called j r d ≡ record { steps = []; system = r }
unfolding called
called_none zero r d h = refl
called_none (suc j) r d h = absurd (omega arith)

called_more : (j : ℕ) (r : System) (d : ℕ) → quiescent r ≡ false
    → let o = dispatched r (processor_id (desk_after r.processors d)) in
    called (suc j) r d ≡ after (step_of o.delivery ++ step_of o.run) (called j o.system (desk_after r.processors d))
unfolding called
called_more j r d h = rw h refl

-- the desk after a desk of the rig is one
pub desk_after_lem : (n d : ℕ) → 1 ≤ n → (1 ≤ desk_after n d) × (desk_after n d ≤ n)
desk_after_lem n d h = go (ltb d n) refl
  where
    go : (b : Bool) → ltb d n ≡ b → (1 ≤ desk_after n d) × (desk_after n d ≤ n)
    go true e = rw e (omega arith, omega (arith, ltb-true d n e))
    go false e = rw e (omega arith, h)

map_append : (xs ys : List Step) → map step_bytes (xs ++ ys) ≡ map step_bytes xs ++ map step_bytes ys
map_append [] ys = refl
map_append (x ∷ xs) ys = ap (λ (t : List (List ℕ)). step_bytes x ∷ t) (map_append xs ys)

-- after the first calls from rig r: j are left, at the desks after d; where the rig is awake, it is not at rest
pub record Going (codes numbers users : List ℕ) (size : Size) (m : ℕ) (r : System) (before : List ℕ) (j d : ℕ) (awake : Bool) (k : Network) (l : Lent) (last progress out : List ℕ) : Type 0 where
  pub system : System
  pub steps : List Step
  pub on : On codes numbers users size k l last system
  pub left : called m r 0 ≡ after steps (called j system d)
  pub written : WrittenBy (map step_bytes steps) before progress out
  pub two : length progress ≡ 2
  pub room : filled_by progress ≤ length out
  pub woken : awake ≡ true → quiescent system ≡ false

pub going_start : {codes numbers users : List ℕ} {size : Size} (m : ℕ) {r : System} {k : Network} {l : Lent} {last : List ℕ} → On codes numbers users size k l last r
    → (before : List ℕ) {progress : List ℕ} → progress ≡ 0 ∷ 0 ∷ [] → Going codes numbers users size m r before m 0 false k l last progress before
going_start m {r} o before e =
    rw e (record { system = r; steps = []; on = o; left = refl; written = nothing_written before; two = refl; room = omega arith; woken = λ e. absurd (tests_differ e refl) })

module _ {codes numbers users : List ℕ} {size : Size} {m : ℕ} {r : System} {before : List ℕ} {j d : ℕ} {awake : Bool} {k : Network} {l : Lent} {last progress out : List ℕ}
    (g : Going codes numbers users size m r before j d awake k l last progress out) where
  -- a step did not fit
  pub ended_short : {rest : Bool} → (get_or progress 1 0 ≡ 0 → ⊥) → Ended (called m r 0) before (filled_by progress) (whole_by progress) rest out
  ended_short h =
      let c = called j g.system d in
      record {
        written = rw (g.left, map_append g.steps c.steps) ((next_stopped (map step_bytes c.steps) progress out h).more (map step_bytes g.steps) before g.written);
        rests = λ e. absurd (tests_differ e (ne_eqb (get_or progress 1 0) 0 h));
      }

  -- no call is left to make
  ended : {rest : Bool} → called j g.system d ≡ record { steps = []; system = g.system } → rest ≡ quiescent g.system
      → Ended (called m r 0) before (filled_by progress) (whole_by progress) rest out
  ended e q = record { written = rw (g.left, e, append-nil g.steps) g.written; rests = λ w. rw (g.left, e) q }

  pub ended_rest : {rest : Bool} → rest ≡ true → rest ≡ quiescent g.system → Ended (called m r 0) before (filled_by progress) (whole_by progress) true out
  ended_rest t q = ended (called_rest j g.system d (sym q ∙ t)) (sym t ∙ q)

  pub ended_all : {rest : Bool} → j ≡ 0 → rest ≡ quiescent g.system → Ended (called m r 0) before (filled_by progress) (whole_by progress) rest out
  ended_all z q = ended (called_none j g.system d z) q

  -- a call more
  abbrev desk : ℕ
  desk = desk_after size.processors d

  ruled : 1 ≤ size.processors → dispatched g.system (processor_id desk) ≡ ruled_dispatch g.system (processor_id desk)
  unfolding dispatched
  ruled some =
      let h = desk_after_lem size.processors d some in
      let ok : processor_ok g.system.processors (processor_id desk) ≡ true = rw (← g.on.processors) (within_both 1 size.processors desk h.0 h.1) in
      rw (g.on.sound, ok) refl

  module _ {i : ℕ} (count : j ≡ suc i) (some : 1 ≤ size.processors) (unrest : quiescent g.system ≡ false)
      {k' k'' : Network} {l' l'' : Lent} {last'' progress' out' progress'' out'' : List ℕ}
      (a : TurnMade codes numbers users size (delivery_turn g.system (processor_id desk)) k' l' last progress out progress' out')
      (b : TurnMade codes numbers users size (run_turn (delivery_turn g.system (processor_id desk)).system (processor_id desk)) k'' l'' last'' progress' out' progress'' out'') where
    abbrev delivered : System
    delivered = (delivery_turn g.system (processor_id desk)).system

    abbrev both : List Step
    both = step_of (delivery_turn g.system (processor_id desk)).turn ++ step_of (run_turn delivered (processor_id desk)).turn

    then : called j g.system d ≡ after both (called i (run_turn delivered (processor_id desk)).system desk)
    unfolding ruled_dispatch
    then =
        let e : called j g.system d ≡ called (suc i) g.system d = ap (λ (x : ℕ). called x g.system d) count in
        let same : desk_after g.system.processors d ≡ desk = rw (← g.on.processors) refl in
        e
        ∙ called_more i g.system d unrest
        ∙ ap (λ (x : ℕ). let o = dispatched g.system (processor_id x) in after (step_of o.delivery ++ step_of o.run) (called i o.system x)) same
        ∙ ap (λ (o : Dispatched). after (step_of o.delivery ++ step_of o.run) (called i o.system desk)) (ruled some)

    pub going_more : {awake' : Bool} → (awake' ≡ true → quiescent (run_turn delivered (processor_id desk)).system ≡ false)
        → Going codes numbers users size m r before i desk awake' k'' l'' last'' progress'' out''
    going_more w =
        let c = called i (run_turn delivered (processor_id desk)).system desk in
        let lines = next_then a.lines b.lines in
        record {
          system = (run_turn delivered (processor_id desk)).system;
          steps = g.steps ++ both;
          on = b.on;
          left = g.left ∙ ap (after g.steps) then ∙ ap (λ (x : List Step). record { steps = x; system = c.system }) (sym (append_assoc g.steps both c.steps));
          written = rw (map_append g.steps both, map_append (step_of (delivery_turn g.system (processor_id desk)).turn) (step_of (run_turn delivered (processor_id desk)).turn))
              (lines.more (map step_bytes g.steps) before g.written);
          two = lines.long ∙ g.two;
          room = lines.room g.room;
          woken = w;
        }

  -- at whatever desk that is
  module _ {i : ℕ} (count : j ≡ suc i) (some : 1 ≤ size.processors) (unrest : quiescent g.system ≡ false) {e : ℕ} (q : e ≡ desk)
      {k' k'' : Network} {l' l'' : Lent} {last'' progress' out' progress'' out'' : List ℕ} where
    pub going_next : TurnMade codes numbers users size (delivery_turn g.system (processor_id e)) k' l' last progress out progress' out'
        → TurnMade codes numbers users size (run_turn (delivery_turn g.system (processor_id e)).system (processor_id e)) k'' l'' last'' progress' out' progress'' out''
        → {awake' : Bool} → (awake' ≡ true → quiescent (run_turn (delivery_turn g.system (processor_id e)).system (processor_id e)).system ≡ false)
        → Going codes numbers users size m r before i e awake' k'' l'' last'' progress'' out''
    going_next a b w = rw q (going_more count some unrest (rw q at a) (rw q at b) (rw q at w))
