-- Each edge holds: a test of each list, by computation, and one lemma, `every_at`, that takes it to each entry.
use mathlib.Core.Path.{◌≡◌, refl}
use mathlib.Core.Bool.{true, false≢true}
use mathlib.Core.List.{List, [], ◌∷◌}
use Prim.Native.Nat.{ℕ, ◌<◌}
use lib.ListN.{length, get_or}
use lib.Dec.{eqb}
use borrow.Author.Tests.{eqb-true}
use Rattle.base.specs.Lists.{every}
use Rattle.base.proofs.Tests.{every_at, and_left, and_right}
use Rattle.plan.proofs.WriteEdges.{same_bytes}
use Rattle.rules.specs.declared.system.System.{System}
use Rattle.rules.specs.Answers.{step_number}
use Rattle.rules.specs.Steps.{step}
use Rattle.rules.specs.StepFiles.{printed}
use Rattle.rules.specs.Sound.{system_ok}
use Rattle.examples.specs.Edges.{TextEdge, text_edges, text_holds, bytes_of, OutputEdge, output_edges, output_holds, StepEdge, step_edges, step_holds, sender, mover, family, spent}
use Rattle.examples.specs.SystemEdges.{pair, system_samples}
use Rattle.rules.proofs.SoundEdges.{Sample, judged}
use Rattle.rules.proofs.Sites.{small, crowded}
use Rattle.rules.proofs.Evaluated.{evaluated}

all_texts : every text_holds text_edges ≡ true
unfolding evaluated text_edges bytes_of
all_texts = refl

all_outputs : every output_holds output_edges ≡ true
unfolding evaluated output_edges bytes_of
all_outputs = refl

all_steps : every step_holds step_edges ≡ true
unfolding evaluated step_edges crowded sender mover family spent
all_steps = refl

all_systems : every (judged system_ok) system_samples ≡ true
unfolding evaluated small pair crowded system_samples
all_systems = refl

-- bytes that are found the same are the same
same_bytes_lem : (xs ys : List ℕ) → same_bytes xs ys ≡ true → xs ≡ ys
unfolding same_bytes
same_bytes_lem [] [] h = refl
same_bytes_lem [] (y ∷ ys) h = absurd (false≢true h)
same_bytes_lem (x ∷ xs) [] h = absurd (false≢true h)
same_bytes_lem (x ∷ xs) (y ∷ ys) h = rw (eqb-true x y (and_left (eqb x y) (same_bytes xs ys) h), same_bytes_lem xs ys (and_right (eqb x y) (same_bytes xs ys) h))

-- entry k of a list; e stands for what is behind its end
pub text_edge : (e : TextEdge) (k : ℕ) → k < length text_edges
    → printed (get_or text_edges k e).processors (get_or text_edges k e).file (get_or text_edges k e).steps ≡ (get_or text_edges k e).text
text_edge e k h = same_bytes_lem _ _ (every_at text_holds text_edges k e h all_texts)

pub output_edge_lem : (e : OutputEdge) (k : ℕ) → k < length output_edges → output_holds (get_or output_edges k e) ≡ true
output_edge_lem e k h = every_at output_holds output_edges k e h all_outputs

pub step_edge : (e : StepEdge) (k : ℕ) → k < length step_edges
    → step_number (step (get_or step_edges k e).system (get_or step_edges k e).step).report.answer ≡ (get_or step_edges k e).number
step_edge e k h = eqb-true _ _ (every_at step_holds step_edges k e h all_steps)

pub system_edge : (e : Sample System) (k : ℕ) → k < length system_samples → judged system_ok (get_or system_samples k e) ≡ true
system_edge e k h = every_at (judged system_ok) system_samples k e h all_systems
