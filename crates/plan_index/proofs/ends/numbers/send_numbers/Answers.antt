-- `numbers::send_numbers` is what `put_numbers` stores.
use mathlib.Core.Path.{refl}
use Rattle.plan_index.proofs.ends.numbers.send_numbers.Goals as goal

pub put_numbers-requires : goal.put_numbers-requires
put_numbers-requires c = (c.requires, refl)

pub returns : goal.returns
returns c = c.put_numbers.ensures
