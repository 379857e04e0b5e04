-- Each sample of SoundEdges is judged as it says.
use mathlib.Core.Path.{◌≡◌, refl}
use mathlib.Core.Bool.{true}
use Rattle.base.specs.Lists.{every}
use Rattle.rules.specs.Sound.{hint_ok, offer_ok, message_ok, task_ok, origin_ok, tables_ok, channel_entries_ok, parents_ok, ready_ok, chosen_ok, network_ok}
use Rattle.rules.proofs.SoundEdges.{judged, program, hint_samples, offer_samples, message_samples, task_samples, origin_samples, first_samples, tables_samples, channels_samples, parents_samples, ready_samples, chosen_samples, network_samples}
use Rattle.rules.proofs.Evaluated.{evaluated}

all_hints : every (judged (hint_ok 2)) hint_samples ≡ true
unfolding evaluated hint_samples
all_hints = refl

all_offers : every (judged (offer_ok 2)) offer_samples ≡ true
unfolding evaluated offer_samples
all_offers = refl

all_messages : every (judged (message_ok 2 3)) message_samples ≡ true
unfolding evaluated message_samples
all_messages = refl

all_tasks : every (judged (task_ok 2 3 program)) task_samples ≡ true
unfolding evaluated task_samples
all_tasks = refl

all_origins : every (judged (origin_ok 2 2)) origin_samples ≡ true
unfolding evaluated origin_samples
all_origins = refl

first_origins : every (judged (origin_ok 2 1)) first_samples ≡ true
unfolding evaluated first_samples
first_origins = refl

all_tables : every (judged (tables_ok 2)) tables_samples ≡ true
unfolding evaluated tables_samples
all_tables = refl

all_channels : every (judged (channel_entries_ok 2)) channels_samples ≡ true
unfolding evaluated channels_samples
all_channels = refl

all_parents : every (judged (parents_ok 2 3)) parents_samples ≡ true
unfolding evaluated parents_samples
all_parents = refl

all_ready : every (judged (ready_ok 3)) ready_samples ≡ true
unfolding evaluated ready_samples
all_ready = refl

all_chosen : every (judged (chosen_ok 3)) chosen_samples ≡ true
unfolding evaluated chosen_samples
all_chosen = refl

all_networks : every (judged (network_ok 2 3)) network_samples ≡ true
unfolding evaluated network_samples
all_networks = refl
