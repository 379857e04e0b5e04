-- The steps that are about no channel make the measure smaller: those of one task, births, ends and arrivals.
use mathlib.Core.Path.{◌≡◌, refl, sym, ap, ◌∙◌}
use mathlib.Core.Logic.{◌≢◌, by_cases}
use mathlib.Core.Bool.{true, ◌&&◌}
use mathlib.Core.List.{List, ◌++◌, []}
use mathlib.Core.Option.{some}
use Prim.Native.Nat.{ℕ, suc, ◌+◌, ◌≤◌, ◌<◌}
use native.Mathlib.Omega.{arith}
use lib.ListN.{length, get_elem?}
use Rattle.std.specs.Prelude.{Ok}
use Rattle.base.specs.Choice.{within}
use Rattle.base.specs.Sets.{removed}
use Rattle.base.proofs.Choices.{pick_either}
use Rattle.base.proofs.Folds.{fold_same}
use Rattle.plan.specs.declared.TaskId.{TaskId}
use Rattle.plan.specs.declared.ChannelId.{ChannelId}
use Rattle.plan.specs.declared.Instruction.{Instruction}
use Rattle.plan.specs.declared.Word.{Word}
use Rattle.plan.specs.Numbers.{channel_id, task_id}
use Rattle.plan.specs.Programs.{Programs}
use Rattle.plan.specs.Users.{parent_of}
use Rattle.rules.specs.declared.task.TaskState.TheVariants.{Waiting}
use Rattle.rules.specs.declared.task.Task.{Task}
use Rattle.rules.specs.declared.message.Message.TheVariants.{Terminated}
use Rattle.rules.specs.Tasks.{is_in, is_childless, with_children, readied, born, arrived, without_child, woken, without_children}
use Rattle.rules.specs.Local.{create_rule}
use Rattle.net.specs.States.{Net, at_task}
use Rattle.channel.specs.Bags.{one, without}
use Rattle.channel.specs.Views.{View}
use Rattle.channel.specs.Events.{sender_born_lem, receiver_born_lem, sender_arrives_lem, receiver_arrives_lem}
use Rattle.channel.specs.Invariant.{Invariant}
use Rattle.channel.specs.Measure.{measure}
use Rattle.channel.proofs.Measure.{is_departure, place_still}
use Rattle.transitions.specs.Readings.{Reading}
use Rattle.transitions.specs.Progress.{program_of}
use Rattle.transitions.specs.Views.{Histories, view_of}
use Rattle.transitions.specs.Transitions.{Ending, taken, onward, holds, Unseen, OwnTransition, goes_on, waits, Own, Placing, none, sender_birth, receiver_birth, sender_arrival, receiver_arrival}
use Rattle.transitions.specs.Transitions.{CreateTransition, finished, Finishing, alone, near, away, FinishTransition, EndedTransition, ArrivalTransition}
use Rattle.transitions.specs.Agreement.{Running}
use Rattle.transitions.proofs.Updates.{task_cases, at_other}
use Rattle.transitions.proofs.Parents.{task_number_lem, child_number, parent_number}
use Rattle.transitions.proofs.Tasks.{unborn_apart, unborn_is}
use Rattle.invariant.proofs.Work.{Went, one_goes, nobody, work_went, place_at, place_other, places_same}
use Rattle.invariant.specs.Weights.{channel_count, channels_weight, tasks_weight, ended_weight, task_weight}
use Rattle.invariant.proofs.ChannelFalls.{split, Less}
use native.Mathlib.Decide.{ℕ_discrete}
use Rattle.plan.specs.Refusals.{plan_answer}
use Rattle.rules.specs.declared.channel.Hint.{Hint}
use Rattle.rules.specs.Hints.{hint}
use Rattle.channel.proofs.Bags.{total_post, total_without, in_at, length_without}
use Rattle.channel.proofs.Forwards.{forwards_most, forward_falls}
use Rattle.transitions.specs.Messages.{ended_to, mover_to, ended_of, movers_of}
use Rattle.transitions.proofs.Flats.{flat_post, flat_post_nothing, flat_without, Sorted, flat_place, own_ended, other_ended, no_ended, own_mover, other_mover, no_mover, none_of}
use Rattle.invariant.proofs.TaskWeights.{weight_same, weight_none, weights_same, weights_change, weight_is}
use Rattle.invariant.proofs.Counts.{SameCounts, own_counts, finish_counts, ended_counts, arrival_counts}
use Rattle.invariant.proofs.ChildParts.{no_ended_yet}
use Rattle.invariant.proofs.BirthsKept.{unmoved}
use Rattle.invariant.proofs.PlacesKept.{sent_other}
use Rattle.invariant.proofs.FamilyParts.{kept_one}

module _ (m : Programs) where
  -- every view weighs the same
  still : (h h' : Histories) (x y : Reading) → ((c : ChannelId) → 1 ≤ c.0 → c.0 ≤ 128 → measure (view_of m h' y c) ≡ measure (view_of m h x c))
      → channels_weight m h' y ≡ channels_weight m h x
  still h h' x y same =
      fold_same ◌+◌ 0 channel_count (λ k. measure (view_of m h' y (channel_id (suc k)))) (λ k. measure (view_of m h x (channel_id (suc k))))
      (λ k l. same (channel_id (suc k)) (omega arith) (omega arith))

  unseen_still : (h : Histories) (x y : Reading) → Unseen m h x y → channels_weight m h y ≡ channels_weight m h x
  unseen_still h x y u = still h h x y (λ c l k. ap measure (u.views c l k))

  placing_still : {v w : View} → Invariant v → Placing v w → measure w ≡ measure v
  unfolding is_departure
  placing_still {v} i none = refl
  placing_still {v} i (sender_birth d g) = place_still (sender_born_lem d) v refl i g
  placing_still {v} i (receiver_birth d g) = place_still (receiver_born_lem d) v refl i g
  placing_still {v} i (sender_arrival d g) = place_still (sender_arrives_lem d) v refl i g
  placing_still {v} i (receiver_arrival d g) = place_still (receiver_arrives_lem d) v refl i g

  -- one task goes on by one place, and the letters of tasks weigh at most 9 more
  ran_less : {h h' : Histories} {x y : Reading} (t : TaskId) → within 1 (length m) t.0 ≡ true → (x.tasks t).pc ≤ length (program_of m t)
      → (y.tasks t).pc ≡ suc (x.tasks t).pc
      → ((u : TaskId) → within 1 (length m) u.0 ≡ true → u.0 ≢ t.0 → (y.tasks u).pc ≡ (x.tasks u).pc)
      → channels_weight m h' y ≡ channels_weight m h x → tasks_weight m h' y ≤ 9 + tasks_weight m h x → Less m h h' x y 1
  ran_less {h} {h'} {x} {y} t is more goes same c l =
      let places : Went m x.tasks y.tasks 1 = one_goes t is more goes same in
      let work = work_went places in
      record { places = places; work = work; weight = omega (arith, split m h x, split m h' y, work, c, l) }

  -- the letters of tasks weigh less, and every place stays
  taken_less : {h : Histories} {x y : Reading} → ((u : TaskId) → (y.tasks u).pc ≡ (x.tasks u).pc) → channels_weight m h y ≡ channels_weight m h x
      → tasks_weight m h y < tasks_weight m h x → Less m h h x y 0
  taken_less {h} {x} {y} same c l =
      let places : Went m x.tasks y.tasks 0 = nobody (λ u is. same u) in
      let work = work_went places in
      record { places = places; work = work; weight = omega (arith, split m h x, split m h y, work, c, l) }

  -- a parent's place stays when it loses a child
  parent_place : (k : Task) (u : TaskId) → (without_child k u).pc ≡ k.pc
  unfolding woken
  parent_place k u =
      let left = with_children k (removed u.0 k.children) in
      pick_either (λ (a : Task). a.pc ≡ k.pc) (is_in Waiting left && is_childless left) (readied left) left refl refl

  -- a task's own instruction takes it one place on
  own_place : {i : Instruction} {k l : Task} → Own i k l → l.pc ≡ suc k.pc
  own_place (goes_on a b) = omega arith
  own_place (waits a b) = omega arith

  module _ (accepted : plan_answer m ≡ Ok tt) {h : Histories} {s : Net} {x : Reading} {w : ChannelId → List Word} (run : Running m h s x w) where
    -- births and arrivals change no weight of a channel
    placings : (h' : Histories) (y : Reading) → ((c : ChannelId) → 1 ≤ c.0 → c.0 ≤ 128 → Placing (view_of m h x c) (view_of m h' y c))
        → channels_weight m h' y ≡ channels_weight m h x
    placings h' y f = still h h' x y (λ c l u. placing_still (run.views c l u) (f c l u))

    -- no count of a task changes: the letters of which nothing changes weigh the same
    module _ (y : Reading) (counts : SameCounts x.tasks y.tasks) (n : y.processors ≡ x.processors) where
      kept : (u : TaskId) → ended_of u y.messages ≡ ended_of u x.messages → movers_of u y.messages ≡ movers_of u x.messages
          → task_weight m h y u ≡ task_weight m h x u
      kept u e l = weight_same m h h x y u refl (counts (parent_of m u)) n e l

      -- no letter
      quiet : y.messages ≡ x.messages → tasks_weight m h y ≤ 9 + tasks_weight m h x
      quiet e = omega (arith, weights_same m h h x y (λ u is. kept u (rw e refl) (rw e refl)))

    -- by each act
    pub own_less : {y : Reading} → OwnTransition m h x y → Less m h h x y 1
    own_less {y} transition =
        let t = transition.task in
        ran_less {h = h} {h' = h} {x = x} {y = y} t transition.runs.number transition.runs.high
        (place_at x.tasks y.tasks t transition.then transition.tasks ∙ own_place transition.own)
        (λ u is. place_other x.tasks y.tasks t transition.then transition.tasks u)
        (unseen_still h x y transition.unseen) (quiet y (own_counts m transition) transition.unseen.processors transition.messages)

    -- a birth: a task that is not born has no child of which a letter is under way
    module _ {h' : Histories} {y : Reading} (transition : CreateTransition m h h' x y) where
      abbrev made : TaskId
      made = transition.child

      none_yet : (u : TaskId) → within 1 (length m) u.0 ≡ true → (parent_of m u).0 ≡ made.0 → ended_of u x.messages ≡ []
      none_yet u is e =
          by_cases
          (ℕ_discrete u.0 1)
          (λ (one : u.0 ≡ 1). let first : u ≡ task_id 1 = ap task_id one in rw first run.root)
          (λ ne.
          let parent : parent_of m u ≡ made = ap task_id e in
          let k = rw parent at (run.children u (child_number (length m) u.0 is ne)) in
          none_of (ended_of u x.messages) (no_ended_yet k (unmoved m accepted run transition)))

      create_weights : tasks_weight m h' y ≡ tasks_weight m h x
      create_weights =
          let t = transition.task in
          let d = (x.tasks t).processor in
          let parting = create_rule (x.tasks t) made in
          let child = born d (hint d (x.tasks t).moves) in
          let first = at_task x.tasks t parting in
          weights_same m h h' x y
          (λ u is.
          by_cases
          (ℕ_discrete (parent_of m u).0 made.0)
          (λ e. weight_none m h h' x y u (none_yet u is e) transition.messages)
          (λ ne.
          let v = parent_of m u in
          let moves : (y.tasks v).moves ≡ (x.tasks v).moves =
          ap (λ (o : TaskId → Task). (o v).moves) transition.tasks ∙ ap (λ (z : Task). z.moves) (at_other first made v child ne)
          ∙ kept_one (λ o z. z.moves ≡ o.moves) (λ z. refl) x.tasks t parting v (λ q. refl) in
          weight_same m h h' x y u (rw transition.history (sent_other h made 1 d v ne)) moves transition.processors
          (rw transition.messages refl) (rw transition.messages refl)))

    pub create_less : {h' : Histories} {y : Reading} → CreateTransition m h h' x y → Less m h h' x y 1
    create_less {h'} {y} transition =
        let t = transition.task in
        let u = transition.child in
        let parting = create_rule (x.tasks t) u in
        let child = born (x.tasks t).processor (hint (x.tasks t).processor (x.tasks t).moves) in
        let first = at_task x.tasks t parting in
        let apart = unborn_apart x.tasks t u transition.runs.ready transition.unborn in
        ran_less {h = h} {h' = h'} {x = x} {y = y} t transition.runs.number transition.runs.high
        (place_other first y.tasks u child transition.tasks t (λ e. apart (sym e)) ∙ place_at x.tasks first t parting refl ∙ omega arith)
        (task_cases (λ v. within 1 (length m) v.0 ≡ true → v.0 ≢ t.0 → (y.tasks v).pc ≡ (x.tasks v).pc) u
        (λ is ne.
        place_at first y.tasks u child transition.tasks
        ∙ sym (unborn_is x.processors (length m) (program_of m u) (x.tasks u) (run.tasks u is) transition.unborn).place)
        (λ v nu is nt. place_other first y.tasks u child transition.tasks v nu ∙ place_other x.tasks first t parting refl v nt))
        (placings h' y transition.views) (omega (arith, create_weights transition))

    pub finish_less : {y : Reading} → FinishTransition m h x y → Less m h h x y 1
    finish_less {y} transition = go transition.finishing
      where
        t : TaskId
        t = transition.task

        end : Task
        end = finished (x.tasks t)

        n : y.processors ≡ x.processors
        n = transition.unseen.processors

        counts : SameCounts x.tasks y.tasks
        counts = finish_counts m transition

        less : (f : TaskId → Task) → y.tasks ≡ at_task f t end → ((u : TaskId) → (f u).pc ≡ (x.tasks u).pc)
            → tasks_weight m h y ≤ 9 + tasks_weight m h x → Less m h h x y 1
        less f e same l =
            ran_less {h = h} {h' = h} {x = x} {y = y} t transition.runs.number transition.runs.high (place_at f y.tasks t end e ∙ omega arith)
            (λ u is ne. place_other f y.tasks t end e u ne ∙ same u) (unseen_still h x y transition.unseen) l

        go : Finishing m h x y transition.task → Less m h h x y 1
        go (alone one e l) = less x.tasks e (λ u. refl) (quiet y counts n l)
        go (near ne e l) =
            let p = parent_of m t in
            let fewer = without_child (x.tasks p) t in
            less (at_task x.tasks p fewer) e
            (places_same x.tasks (at_task x.tasks p fewer) p fewer refl (parent_place (x.tasks p) t))
            (quiet y counts n l)
        go (away along ne ways e l) =
            let message = Terminated along t in
            let p = parent_of m t in
            let weigh = ended_weight (h p) (x.tasks p).moves x.processors in
            let ended : ended_of t y.messages ≡ ended_of t x.messages ++ one along =
            ap (ended_of t) l ∙ flat_post (ended_to t) x.messages message (one along) (own_ended t along) in
            let movers : movers_of t y.messages ≡ movers_of t x.messages = ap (movers_of t) l ∙ flat_post_nothing (mover_to t) x.messages message (no_mover t along t) in
            let change =
            weights_change m h h x y t transition.runs.number
            (λ u is ne.
            kept y counts n u
            (ap (ended_of u) l ∙ flat_post_nothing (ended_to u) x.messages message (other_ended u along t (λ q. ne (sym q))))
            (ap (movers_of u) l ∙ flat_post_nothing (mover_to u) x.messages message (no_mover u along t))) in
            let mine = weight_is m h h x y t (ended_of t x.messages ++ one along) (movers_of t x.messages) refl (counts p) n ended movers in
            let post = total_post weigh (ended_of t x.messages) along in
            less x.tasks e (λ u. refl) (omega (arith, change, mine, post, forwards_most (h p) (x.tasks p).moves x.processors along.moves, run.few))

    -- an ended letter for child t, at place k of the mail: it is gone, or can be forwarded less often
    module _ (y : Reading) (k : ℕ) (along : Hint) (t : TaskId) (message : get_elem? x.messages k ≡ some (Terminated along t))
        (number : within 2 (length m) t.0 ≡ true) (counts : SameCounts x.tasks y.tasks) (n : y.processors ≡ x.processors) where
      abbrev p : TaskId
      p = parent_of m t

      abbrev weigh : Hint → ℕ
      weigh = ended_weight (h p) (x.tasks p).moves x.processors

      place : Sorted (ended_to t) x.messages k along
      place = flat_place (ended_to t) x.messages k along message (own_ended t along)

      -- the mail without the letter: what is left of that task, and of another
      left_ended : (u : TaskId) → u.0 ≢ t.0 → ended_of u (without x.messages k) ≡ ended_of u x.messages
      left_ended u ne = flat_without (ended_to u) x.messages k message (other_ended u along t (λ q. ne (sym q)))

      left_movers : (u : TaskId) → movers_of u (without x.messages k) ≡ movers_of u x.messages
      left_movers u = flat_without (mover_to u) x.messages k message (no_mover u along t)

      gone : y.messages ≡ without x.messages k → tasks_weight m h y < tasks_weight m h x
      gone l =
          let change =
          weights_change m h h x y t (task_number_lem (length m) t.0 number)
          (λ u is ne. kept y counts n u (ap (ended_of u) l ∙ left_ended u ne) (ap (movers_of u) l ∙ left_movers u)) in
          let ended : ended_of t y.messages ≡ without (ended_of t x.messages) place.place = ap (ended_of t) l ∙ place.taken in
          let movers : movers_of t y.messages ≡ movers_of t x.messages = ap (movers_of t) l ∙ left_movers t in
          let mine =
          weight_is m h h x y t (without (ended_of t x.messages) place.place) (movers_of t x.messages) refl (counts p) n ended movers in
          let was = total_without weigh (ended_of t x.messages) place.place along place.at in
          omega (arith, change, mine, was)

      onward_less : along.moves < (x.parents p along.processor.0).hint.moves
          → y.messages ≡ without x.messages k ++ one (Terminated (x.parents p along.processor.0).hint t)
          → tasks_weight m h y < tasks_weight m h x
      onward_less more l =
          let pointer = (x.parents p along.processor.0).hint in
          let rest = without x.messages k in
          let letter = Terminated pointer t in
          let change =
          weights_change m h h x y t (task_number_lem (length m) t.0 number)
          (λ u is ne.
          kept y counts n u
          (ap (ended_of u) l ∙ flat_post_nothing (ended_to u) rest letter (other_ended u pointer t (λ q. ne (sym q))) ∙ left_ended u ne)
          (ap (movers_of u) l ∙ flat_post_nothing (mover_to u) rest letter (no_mover u pointer t) ∙ left_movers u)) in
          let ended : ended_of t y.messages ≡ without (ended_of t x.messages) place.place ++ one pointer =
          ap (ended_of t) l ∙ flat_post (ended_to t) rest letter (one pointer) (own_ended t pointer)
          ∙ ap (λ (o : List Hint). o ++ one pointer) place.taken in
          let movers : movers_of t y.messages ≡ movers_of t x.messages =
          ap (movers_of t) l ∙ flat_post_nothing (mover_to t) rest letter (no_mover t pointer t) ∙ left_movers t in
          let now =
          weight_is m h h x y t (without (ended_of t x.messages) place.place ++ one pointer) (movers_of t x.messages) refl (counts p) n ended movers in
          let post = total_post weigh (without (ended_of t x.messages) place.place) pointer in
          let was = total_without weigh (ended_of t x.messages) place.place along place.at in
          let ways = (run.children t number).way along (in_at (ended_of t x.messages) place.place place.at) in
          let table = (run.places p (parent_number m accepted t number)).table in
          let falls = forward_falls table along.processor.0 along.moves ways.some ways.old ways.says more in
          omega (arith, change, now, post, was, falls)

      ending_less : Ending m h x y k along t → channels_weight m h y ≡ channels_weight m h x → Less m h h x y 0
      ending_less (taken f l e) c =
          taken_less {h = h} {x = x} {y = y} (places_same x.tasks y.tasks p (without_child (x.tasks p) t) f (parent_place (x.tasks p) t)) c (gone l)
      ending_less (onward more f l e) c = taken_less {h = h} {x = x} {y = y} (λ u. rw f refl) c (onward_less more l)
      ending_less (holds o f l e) c = taken_less {h = h} {x = x} {y = y} (λ u. rw f refl) c (gone l)

    pub ended_less : {y : Reading} → EndedTransition m h x y → Less m h h x y 0
    ended_less {y} transition =
        ending_less y transition.p transition.along transition.task transition.message transition.number (ended_counts m transition)
        transition.unseen.processors transition.ending (unseen_still h x y transition.unseen)

    pub arrival_less : {y : Reading} → ArrivalTransition m h x y → Less m h h x y 0
    arrival_less {y} transition =
        let t = transition.task in
        let d = transition.at in
        let p = parent_of m t in
        let l = transition.messages in
        let counts = arrival_counts m transition in
        let n = transition.processors in
        let k = flat_place (mover_to t) x.messages transition.p d.0 transition.message (own_mover t d) in
        let ended : (u : TaskId) → ended_of u y.messages ≡ ended_of u x.messages =
        λ u. ap (ended_of u) l ∙ flat_without (ended_to u) x.messages transition.p transition.message (no_ended u d t) in
        let change =
        weights_change m h h x y t transition.number
        (λ u is ne.
        kept y counts n u (ended u)
        (ap (movers_of u) l ∙ flat_without (mover_to u) x.messages transition.p transition.message (other_mover u d t (λ q. ne (sym q))))) in
        let mine =
        weight_is m h h x y t (ended_of t x.messages) (without (movers_of t x.messages) k.place) refl (counts p) n (ended t)
        (ap (movers_of t) l ∙ k.taken) in
        let fewer = length_without (movers_of t x.messages) k.place k.at in
        taken_less {h = h} {x = x} {y = y}
        (places_same x.tasks y.tasks t (without_children (arrived (x.tasks t) d) (x.parents t d.0).held) transition.tasks refl)
        (placings h y transition.views) (omega (arith, change, mine, fewer))
