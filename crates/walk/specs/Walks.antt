-- The parent step on a chain: the opening, then 40, then the state; 50 to 54 carry the commit's file and its position there.
use Rattle.std.specs.Prelude.{ℕ, List, ◌≡◌, Result, Ok, Err, Option}
use Rattle.words.specs.First.{refuse}
use Rattle.types.specs.Said.{Answers}
use Rattle.types.specs.declared.refusal.Refusal.{Refusal}
use Rattle.file.specs.declared.File.{File}
use Rattle.parents.specs.Said.{answer_said}
use Rattle.parents.specs.Walks.{step_of as fileStep}
use Rattle.parents.specs.declared.Step.{Step as FileStep}
use Rattle.steps.specs.declared.Parent.{Parent}
use Rattle.steps.specs.declared.Phase.TheVariants.{Exhausted}
use Rattle.graph.specs.Chain.{in_file, part_at, open_at, file_of, pos_of, asked}
use Rattle.walk.specs.declared.Walk.{Walk}
use Rattle.walk.specs.declared.Step.{Step}

-- a refusal keeps the walk's position and leaves it exhausted
abbrev pub refused : Walk → Refusal → Step
refused w r = record { answer = Err r; next = record { commit = w.commit; phase = Exhausted } }

abbrev pub step_in : ℕ → Walk → FileStep → Step
step_in k w s = record { answer = in_file k s.answer; next = record { commit = w.commit; phase = s.next } }

unfoldable pub step_by : ℕ → List ℕ → Result File Refusal → ℕ → Walk → Step
step_by k p (Ok f) i w = step_in k w (fileStep p f i w.phase)
step_by k p (Err r) i w = refused w r

unfoldable pub step_of : ℕ → List ℕ → List ℕ → Walk → Step
step_of z c l w =
    refuse (asked z c l w.commit.0) (refused w)
    (step_by (file_of z c l w.commit.0) (part_at z c l (file_of z c l w.commit.0)) (open_at z c l (file_of z c l w.commit.0))
    (pos_of z c l w.commit.0) w)

-- the second door: what it answers for a walk, and the walk that it leaves
abbrev pub ByDoor : List ℕ → List ℕ → Walk → Result (Option Parent) Refusal → Walk → Type 0
ByDoor c l w r x = Answers answer_said r (step_of 32 c l w).answer × (x ≡ (step_of 32 c l w).next)
