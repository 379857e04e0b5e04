use mathlib.Core.Path.{◌≡◌, refl, ◌∙◌}
use mathlib.Core.Bool.{◌&&◌}
use native.Mathlib.Omega.{arith}
use Rattle.rules.specs.Sound.{tables_ok, chosen_ok}
use Rattle.base.specs.Choice.{within}
use Rattle.board.specs.Lent.{lent, store_of}
use Rattle.rig_read.specs.Passing.{bytes_pass, board_passes, mail_passes}
use Rattle.rig_read.proofs.Together.{few_opened, short_opened, tables_opened, together, on_true, on_false, grouped}
use Rattle.rig_read.proofs.check.passes.Goals as goal
use Rattle.rig_read.proofs.check.passes.Goals.{then-bytes_ok, else-bytes_ok, then-board_ok, else-board_ok, then-tables_ok, else-tables_ok, then-processors_ok, else-processors_ok}

pub board_ok-requires : goal.board_ok-requires
board_ok-requires c = let o = c.requires in (few_opened o, short_opened o)

pub tables_ok-requires : goal.tables_ok-requires
tables_ok-requires c = tables_opened c.requires

pub returns-then-all_at_most : goal.returns-then-all_at_most
unfolding chosen_ok
returns-then-all_at_most c =
    let a = c.args in
    let store = store_of (lent a.hintprocessors.now a.hintmoves.now a.heldprocessors.now a.heldnumbers.now a.notes.now a.board.now) in
    let two : c.if-bytes_ok.value ≡ bytes_pass a.rig.now && board_passes a.lengths.now a.codes.now a.n.processors a.n.tasks a.board.now =
    elim c.if-bytes_ok.branch [
      | then-bytes_ok w ↦ on_true w.value-is w.board_ok.ensures w.if-bytes_ok.true c.bytes_ok.ensures
      | else-bytes_ok w ↦ on_false _ w.value-is w.if-bytes_ok.false c.bytes_ok.ensures
    ] in
    let three : c.if-board_ok.value ≡ (bytes_pass a.rig.now && board_passes a.lengths.now a.codes.now a.n.processors a.n.tasks a.board.now) && tables_ok a.n.processors store.tables =
    elim c.if-board_ok.branch [
      | then-board_ok w ↦ on_true w.value-is w.tables_ok.ensures w.if-board_ok.true two
      | else-board_ok w ↦ on_false _ w.value-is w.if-board_ok.false two
    ] in
    let four : c.if-tables_ok.value ≡ ((bytes_pass a.rig.now && board_passes a.lengths.now a.codes.now a.n.processors a.n.tasks a.board.now) && tables_ok a.n.processors store.tables) && within 1 6 a.n.processors =
    elim c.if-tables_ok.branch [
      | then-tables_ok w ↦ on_true w.value-is w.processors_ok.ensures w.if-tables_ok.true three
      | else-tables_ok w ↦ on_false _ w.value-is w.if-tables_ok.false three
    ] in
    let five : c.if-processors_ok.value ≡ (((bytes_pass a.rig.now && board_passes a.lengths.now a.codes.now a.n.processors a.n.tasks a.board.now) && tables_ok a.n.processors store.tables) && within 1 6 a.n.processors) && chosen_ok a.n.tasks a.chosen =
    elim c.if-processors_ok.branch [
      | then-processors_ok w ↦ on_true w.value-is w.all_at_most.ensures w.if-processors_ok.true four
      | else-processors_ok w ↦ on_false _ w.value-is w.if-processors_ok.false four
    ] in
    rw (together c.requires (λ i. omega (arith, c.type_inv.rig i)))
    (on_true refl c.mail_ok.ensures c.if-all_at_most.true five ∙ grouped (bytes_pass a.rig.now) (board_passes a.lengths.now a.codes.now a.n.processors a.n.tasks a.board.now) (tables_ok a.n.processors store.tables) (within 1 6 a.n.processors) (chosen_ok a.n.tasks a.chosen) (mail_passes a.n.processors a.n.tasks a.rig.now))

pub returns-else-all_at_most : goal.returns-else-all_at_most
unfolding chosen_ok
returns-else-all_at_most c =
    let a = c.args in
    let store = store_of (lent a.hintprocessors.now a.hintmoves.now a.heldprocessors.now a.heldnumbers.now a.notes.now a.board.now) in
    let two : c.if-bytes_ok.value ≡ bytes_pass a.rig.now && board_passes a.lengths.now a.codes.now a.n.processors a.n.tasks a.board.now =
    elim c.if-bytes_ok.branch [
      | then-bytes_ok w ↦ on_true w.value-is w.board_ok.ensures w.if-bytes_ok.true c.bytes_ok.ensures
      | else-bytes_ok w ↦ on_false _ w.value-is w.if-bytes_ok.false c.bytes_ok.ensures
    ] in
    let three : c.if-board_ok.value ≡ (bytes_pass a.rig.now && board_passes a.lengths.now a.codes.now a.n.processors a.n.tasks a.board.now) && tables_ok a.n.processors store.tables =
    elim c.if-board_ok.branch [
      | then-board_ok w ↦ on_true w.value-is w.tables_ok.ensures w.if-board_ok.true two
      | else-board_ok w ↦ on_false _ w.value-is w.if-board_ok.false two
    ] in
    let four : c.if-tables_ok.value ≡ ((bytes_pass a.rig.now && board_passes a.lengths.now a.codes.now a.n.processors a.n.tasks a.board.now) && tables_ok a.n.processors store.tables) && within 1 6 a.n.processors =
    elim c.if-tables_ok.branch [
      | then-tables_ok w ↦ on_true w.value-is w.processors_ok.ensures w.if-tables_ok.true three
      | else-tables_ok w ↦ on_false _ w.value-is w.if-tables_ok.false three
    ] in
    let five : c.if-processors_ok.value ≡ (((bytes_pass a.rig.now && board_passes a.lengths.now a.codes.now a.n.processors a.n.tasks a.board.now) && tables_ok a.n.processors store.tables) && within 1 6 a.n.processors) && chosen_ok a.n.tasks a.chosen =
    elim c.if-processors_ok.branch [
      | then-processors_ok w ↦ on_true w.value-is w.all_at_most.ensures w.if-processors_ok.true four
      | else-processors_ok w ↦ on_false _ w.value-is w.if-processors_ok.false four
    ] in
    rw (together c.requires (λ i. omega (arith, c.type_inv.rig i)))
    (on_false (mail_passes a.n.processors a.n.tasks a.rig.now) refl c.if-all_at_most.false five ∙ grouped (bytes_pass a.rig.now) (board_passes a.lengths.now a.codes.now a.n.processors a.n.tasks a.board.now) (tables_ok a.n.processors store.tables) (within 1 6 a.n.processors) (chosen_ok a.n.tasks a.chosen) (mail_passes a.n.processors a.n.tasks a.rig.now))
