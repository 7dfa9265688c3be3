-- What the steps of a walk come to: what each does to the walk, and where they lead.
use Rattle.std.specs.Prelude.{ℕ, ◌<◌, List, [], ◌∷◌, ◌≡◌, Some, None, Result, Ok, Err, ⊤}
use Rattle.types.specs.declared.refusal.Refusal.{Refusal}
use Rattle.fit.specs.Fits.{edge_chunk}
use Rattle.file.specs.declared.File.{File}
use Rattle.commit.specs.Commits.{row_of}
use Rattle.steps.specs.Walks.{Walked, rest_of, positions, end_of}
use Rattle.types.specs.Refusals.{number_of}
use Rattle.types.specs.declared.refusal.Reason.{Reason}
use Rattle.words.specs.First.{fine}
use Rattle.steps.specs.declared.Parent.{Parent as Ancestor}
use Rattle.steps.specs.declared.Phase.{Phase}
use Rattle.steps.specs.declared.Phase.TheVariants.{First, Exhausted}
use Rattle.graph.specs.Chain.{part_at, file_of, pos_of}
use Rattle.walk.specs.Lists.{walked_at, parents_at}
use Rattle.walk.specs.Walks.{step_of}
use Rattle.walk.specs.declared.Walk.{Walk}

-- what a step does to a walk, also where the walk is forged or the chain is refused
pub record Keeps (z : ℕ) (c l : List ℕ) (w : Walk) : Type 0 where
  pub commit : (step_of z c l w).next.commit ≡ w.commit
  pub ended : (step_of z c l w).answer ≡ Ok None → (step_of z c l w).next.phase ≡ Exhausted
  pub refused : (r : Refusal) → (step_of z c l w).answer ≡ Err r → (step_of z c l w).next.phase ≡ Exhausted
  pub named : (r : Refusal) → (step_of z c l w).answer ≡ Err r → 0 < number_of r.reason

-- the steps of a walk followed to its end: the parents that they answer, and the reason of the refusal that ends them, if any
pub data Follows (z : ℕ) (c l : List ℕ) : Walk → List ℕ → Result ⊤ Reason → Type 0 where
  ends : {w : Walk} → (step_of z c l w).answer ≡ Ok None → Follows z c l w [] fine
  stops : {w : Walk} {r : Refusal} → (step_of z c l w).answer ≡ Err r → Follows z c l w [] (Err r.reason)
  goes : {w : Walk} {p : Ancestor} {ps : List ℕ} {e : Result ⊤ Reason} → (step_of z c l w).answer ≡ Ok (Some p) → Follows z c l (step_of z c l w).next ps e
      → Follows z c l w (p.position.0 ∷ ps) e

-- each walk is followed to exactly one end
pub record Ends (z : ℕ) (c l : List ℕ) (w : Walk) : Type 0 where
  pub parents : List ℕ
  pub last : Result ⊤ Reason
  pub follows : Follows z c l w parents last
  pub only : (ps : List ℕ) (e : Result ⊤ Reason) → Follows z c l w ps e → (ps ≡ parents) × (e ≡ last)

-- what is left of the walk over commit i of a file at a phase
abbrev pub rest_at : List ℕ → File → ℕ → Phase → Walked
rest_at p f i s = rest_of (row_of p f i).first (row_of p f i).second (edge_chunk p f) s

abbrev pub walk_at : ℕ → Phase → Walk
walk_at g s = record { commit = record { 0 = g }; phase = s }

-- followed to its end the walk of position g is the parent list; and from any phase what is left of it, in the open file f
pub record Lists (z : ℕ) (c l : List ℕ) (g : ℕ) (f : File) : Type 0 where
  pub rest : (s : Phase) → Follows z c l (walk_at g s)
      (positions (rest_at (part_at z c l (file_of z c l g)) f (pos_of z c l g) s))
      (end_of (rest_at (part_at z c l (file_of z c l g)) f (pos_of z c l g) s))
  pub whole : Follows z c l (walk_at g First) (parents_at z c l g) (end_of (walked_at z c l g))
