-- `last_channel`.
use mathlib.Core.Path.{◌≡◌, ap}
use Prim.Native.Nat.{◌-◌, ◌≤◌}
use native.Mathlib.Omega.{arith}
use borrow.Author.Rules.{rules}
use Rattle.plan.specs.declared.Instruction.{Instruction}
use Rattle.rig_parts.specs.Fetches.{instruction_in}
use Rattle.finish.proofs.stuck.last_channel.Goals as goal

-- the channel, as it was read
operand : {i j : Instruction} → i ≡ j → j.operand ≤ 128 → (i.operand ≡ j.operand) × (i.operand ≤ 128)
operand e h = let o = ap (λ (i : Instruction). i.operand) e in (o, omega (arith, o, h))

pub overflow_cast-result : goal.overflow_cast-result
overflow_cast-result c = omega (arith, operand c.instruction_in-i.ensures c.requires.channel)

pub returns : goal.returns
returns c = operand c.instruction_in-i.ensures c.requires.channel
