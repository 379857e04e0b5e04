-- The child that a letter names.
use Rattle.std.specs.Prelude.{ℕ}
use Rattle.rules.specs.declared.message.Message.{Message}
use Rattle.rules.specs.declared.message.Message.TheVariants.{Empty, Offered, Advert, ReadyToReceive, Data, Terminated, Migration}

-- the child's number that an ended letter names, 1 of another letter: what a task number's limits are asked of
abbrev pub child_of : Message → ℕ
child_of Empty = 1
child_of (Offered c o h) = 1
child_of (Advert c d from) = 1
child_of (ReadyToReceive c d h) = 1
child_of (Data c d w) = 1
child_of (Terminated h t) = t.0
child_of (Migration d t) = 1
