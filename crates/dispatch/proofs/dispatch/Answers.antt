-- `dispatch` tests 9 and 15, then makes the two turns.
use mathlib.Core.Path.{◌≡◌, refl, sym, ◌∙◌}
use mathlib.Core.Bool.{true}
use Rattle.rules.specs.Numbers.{processor_ok}
use Rattle.rules.specs.Sound.{system_ok}
use Rattle.rules.specs.Dispatch.{dispatched}
use Rattle.rules_laws.specs.Shapes.{Shaped}
use Rattle.rules_laws.proofs.Sound.{messages_fit}
use Rattle.dispatch.proofs.Turns.{together, few_tasks, few_chosen, six}
use borrow.Author.Rules.{rules}
use Rattle.dispatch.proofs.dispatch.Goals as goal

pub returns-then-not-system_ok : goal.returns-then-not-system_ok
unfolding dispatched
returns-then-not-system_ok c = c.undispatched.ensures ∙ rw (← c.system_ok.ensures, c.if-not-system_ok.true) refl

pub returns-then-not-contains : goal.returns-then-not-contains
unfolding dispatched
returns-then-not-contains c =
    let passed : system_ok c.args.r ≡ true = sym c.system_ok.ensures ∙ c.if-not-system_ok.false in
    let e : c.contains.result ≡ processor_ok c.args.r.processors c.args.d = search rules in
    let q = sym e ∙ c.if-not-contains.true in
    c.undispatched-then-not-contains.ensures ∙ rw (passed, q) refl

pub delivery_turn-a-requires : goal.delivery_turn-a-requires
delivery_turn-a-requires c =
    let passed : system_ok c.args.r ≡ true = sym c.system_ok.ensures ∙ c.if-not-system_ok.false in
    messages_fit c.args.r passed

pub run_turn-b-requires : goal.run_turn-b-requires
run_turn-b-requires c =
    let r = c.args.r in
    let d = c.args.d in
    let passed : system_ok c.args.r ≡ true = sym c.system_ok.ensures ∙ c.if-not-system_ok.false in
    let e : c.contains.result ≡ processor_ok c.args.r.processors c.args.d = search rules in
    let desk : processor_ok c.args.r.processors c.args.d ≡ true = sym e ∙ c.if-not-contains.false in
    let f = c.well_formed.0.1.1 in
    let tasks = f.1.1.0.1.1 in
    let tables = f.1.1.1.0.1.1 in
    let channels = f.1.1.1.1.0.1.1 in
    let parents = f.1.1.1.1.1.0.1.1 in
    let network = f.1.1.1.1.1.1.0.1.1 in
    let shaped : Shaped c.args.r = record {
      tasks = tasks.0.1.0.1;
      ready = tasks.1.0.1.0.1;
      chosen = f.1.1.1.1.1.1.1.0.1.0.1;
      hintprocessors = tables.0.1.0.1;
      hintmoves = tables.1.0.1.0.1;
      heldprocessors = tables.1.1.0.1.0.1;
      heldnumbers = tables.1.1.1.0.1.0.1;
      notes = tables.1.1.1.1.0.1.0.1;
      granted = channels.0.1.0.1;
      awaiting = channels.1.0.1.0.1;
      carriedprocessors = channels.1.1.0.1.0.1;
      carriednumbers = channels.1.1.1.0.1.0.1;
      travellingprocessors = channels.1.1.1.1.0.1.0.1;
      travellingmoves = channels.1.1.1.1.1.0.1.0.1;
      parentprocessors = parents.0.1.0.1;
      parentmoves = parents.1.0.1.0.1;
      parentheld = parents.1.1.0.1.0.1;
      slots = network.0.1.0.1;
    } in
    let l = six r d passed desk in
    (l.0, l.1, rw c.delivery_turn-a.ensures.system (few_tasks r d shaped passed), rw c.delivery_turn-a.ensures.system (few_chosen r d shaped passed))

pub returns : goal.returns
unfolding dispatched
returns c =
    let passed : system_ok c.args.r ≡ true = sym c.system_ok.ensures ∙ c.if-not-system_ok.false in
    let e : c.contains.result ≡ processor_ok c.args.r.processors c.args.d = search rules in
    let desk : processor_ok c.args.r.processors c.args.d ≡ true = sym e ∙ c.if-not-contains.false in
    rw (passed, desk) (together c.args.r c.args.d c.delivery_turn-a.result c.run_turn-b.result c.delivery_turn-a.ensures c.run_turn-b.ensures)
