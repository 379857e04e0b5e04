-- Where a task stands in a program of the new edition, and how it goes on, without writing the program out.
use Rattle.std.specs.Prelude.{ℕ, zero, suc, ◌-◌, nat_lt}
use Rattle.base.specs.Choice.{pick}
use Rattle.plan.specs.Programs.{Program, instruction_at}
use Rattle.plan.specs.Repeats.{is_repeat, is_repeat_end}

-- how many instructions stand before it, and how many rounds of the repeat that it stands in are left, with the one that it is in; 0 outside
pub record Place : Type 0 where
  pub at : ℕ
  pub rounds : ℕ

abbrev pub place : ℕ → ℕ → Place
place at rounds = record { at = at; rounds = rounds }

-- behind the last repeat among the first k instructions
unfoldable pub behind_repeat : Program → ℕ → ℕ
behind_repeat g zero = 0
behind_repeat g (suc k) = pick (is_repeat (instruction_at g k)) (suc k) (behind_repeat g k)

-- what a repeat runs (specs/Repeats has the sentence), place by place: at a repeat a task goes on behind it
-- with n rounds; at the end it goes back behind the repeat while rounds are left, else on behind the end; at any other instruction on by one
unfoldable pub go_on : Program → Place → Place
go_on g p =
    let i = instruction_at g p.at in
    pick (is_repeat i) (place (suc p.at) i.operand)
    (pick (is_repeat_end i) (pick (nat_lt 1 p.rounds) (place (behind_repeat g p.at) (p.rounds - 1)) (place (suc p.at) 0))
    (place (suc p.at) p.rounds))
