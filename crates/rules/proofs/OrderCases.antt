-- Cases of two runs at different desks: whichever comes first, they do the same.
use mathlib.Core.Path.{◌≡◌, refl}
use mathlib.Core.List.{List, [], ◌∷◌, ◌++◌}
use Rattle.plan.specs.Programs.{Programs}
use Rattle.rules.specs.declared.task.TaskState.{TaskState}
use Rattle.rules.specs.declared.task.TaskState.TheVariants.{Waiting}
use Rattle.rules.specs.declared.message.Message.{Message}
use Rattle.rules.specs.declared.message.Message.TheVariants.{Advert}
use Rattle.rules.specs.declared.step.Step.{Step}
use Rattle.rules.specs.declared.system.System.{System}
use Rattle.rules.specs.Numbers.{task_id}
use Rattle.rules.specs.Networks.{messages}
use Rattle.rules.specs.Systems.{task_at}
use Rattle.rules.specs.Steps.{ruled_steps}
use Rattle.rules.proofs.Scripts.{create, sync, finish, send, receive, run, deliver, move, start_on}
use Rattle.rules.proofs.Sites.{processor, one}
use Rattle.rules.proofs.Evaluated.{evaluated}

-- task 2 has gone to desk 2, then these steps
abbrev then : Programs → List Step → System
then m ss = (ruled_steps (start_on 2 m) ((run 1 ∷ move 2 2 ∷ deliver 1 ∷ []) ++ ss)).system

-- task 1 creates the receiver at desk 1, and task 2 sends at desk 2, whose pointer is unknown in either order
abbrev parted : Programs
parted = (create 2 ∷ create 3 ∷ sync ∷ finish ∷ []) ∷ (send 1 ∷ finish ∷ []) ∷ (receive 1 ∷ finish ∷ []) ∷ []

abbrev advert : List Message
advert = Advert one (processor 1) (processor 2) ∷ []

create_first : messages (then parted (run 1 ∷ run 2 ∷ [])).network ≡ advert
unfolding evaluated
create_first = refl

send_first : messages (then parted (run 2 ∷ run 1 ∷ [])).network ≡ advert
unfolding evaluated
send_first = refl

-- task 2 finishes at desk 2, and its parent syncs at desk 1: it waits for the letter in either order
abbrev family : Programs
family = (create 2 ∷ sync ∷ finish ∷ []) ∷ (finish ∷ []) ∷ []

abbrev parent_state : List Step → TaskState
parent_state ss = (task_at (then family ss) (task_id 1)).state

sync_first : parent_state (run 1 ∷ run 2 ∷ []) ≡ Waiting
unfolding evaluated
sync_first = refl

finish_first : parent_state (run 2 ∷ run 1 ∷ []) ≡ Waiting
unfolding evaluated
finish_first = refl
