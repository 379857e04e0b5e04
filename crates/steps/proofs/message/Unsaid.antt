-- A mover letter, and one that is none, posts nothing and gives no word.
use mathlib.Core.Path.{◌≡◌}
use mathlib.Core.List.{List, [], ◌∷◌}
use Prim.Native.Nat.{ℕ}
use types.Run.{OneOf, miss}
use denote.Enum.Declared.{tag_of}
use Rattle.base.proofs.Choices.{pick_either}
use Rattle.rules.specs.contracts.message.Message.{the_type}
use Rattle.rules.specs.declared.message.Message.{Message}
use Rattle.rules.specs.declared.message.Message.TheVariants.{Empty, Offered, Advert, ReadyToReceive, Data, Terminated, Migration}
use Rattle.rules.specs.declared.task.TaskState.TheVariants.{Moving}
use Rattle.rules.specs.declared.rule.Posting.TheVariants.{Nothing as NoPosting}
use Rattle.rules.specs.Tasks.{is_in, arrived, without_children}
use Rattle.rig_parts.specs.declared.sweep.Sweep.TheVariants.{Arrival}
use Rattle.rig_parts.specs.declared.change.Change.{Change}
use Rattle.rig_parts.specs.Sweeps.{parent_in}
use Rattle.rig_parts.specs.Fetches.{site_in}
use Rattle.rig_parts.specs.Scopes.{alone}
use Rattle.rig_parts.specs.RunVerdicts.{change, tasks_only, task_change}
use Rattle.rig_parts.specs.Openings.{opened_in}
use Rattle.board.specs.declared.act.Act.{Act}
use Rattle.board.specs.Lent.{Lent, tasks_of, store_of, parents_on}
use Rattle.board.specs.Acted.{accepted_act, plain_act}
use Rattle.board.specs.Rigs.{Opening}

-- the positions of its variants
abbrev rest : List ℕ
rest = 0 ∷ 6 ∷ []

pub unsaid : (codes users : List ℕ) (l : Lent) (m : Message) {r : Act} → OneOf rest (tag_of the_type m) → r ≡ plain_act → Opening codes users m l r
unfolding opened_in
unsaid codes users l Empty here a = λ count numbers. a
unsaid codes users l (Offered c o h) here a = absurd (miss rest 1 tt here)
unsaid codes users l (Advert c d from) here a = absurd (miss rest 2 tt here)
unsaid codes users l (ReadyToReceive c d h) here a = absurd (miss rest 3 tt here)
unsaid codes users l (Data c d w) here a = absurd (miss rest 4 tt here)
unsaid codes users l (Terminated h t) here a = absurd (miss rest 5 tt here)
unsaid codes users l (Migration d t) {r} here a = λ count numbers.
    let x = site_in codes (tasks_of l) (store_of l) (alone t d) in
    pick_either (λ (k : Change). r ≡ accepted_act k.outcome) (is_in Moving x.sender)
    (change (alone t d) (tasks_only x (without_children (arrived x.sender d) (parent_in (parents_on l.board) d t).held) x.receiver NoPosting) (Arrival t d x.sender.moves)) (task_change (alone t d) x x.sender) a a
