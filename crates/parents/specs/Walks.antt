-- A file's commit: document 01, "Parent step". The walk over its parents, one step of it, and how many there are.
use Rattle.std.specs.Prelude.{ℕ, List, Result, Err}
use Rattle.words.specs.First.{refuse}
use Rattle.types.specs.Refusals.{refusal, refused_at}
use Rattle.types.specs.declared.refusal.Reason.{Reason}
use Rattle.types.specs.declared.refusal.Refusal.{Refusal}
use Rattle.fit.specs.Fits.{ask_rule, edge_chunk}
use Rattle.commit.specs.Commits.{row_of}
use Rattle.steps.specs.Walks.{next_of, Walked, first_walk, count_of}
use Rattle.file.specs.declared.File.{File}
use Rattle.steps.specs.declared.Phase.{Phase}
use Rattle.steps.specs.declared.Phase.TheVariants.{Exhausted}
use Rattle.steps.specs.declared.Next.{Next}
use Rattle.parents.specs.declared.Step.{Step}

-- the walk of commit i
unfoldable pub walk_of : List ℕ → File → ℕ → Walked
walk_of l f i = first_walk (row_of l f i).first (row_of l f i).second (edge_chunk l f)

-- 50 to 54 have the commit as place
abbrev pub step_by : ℕ → Next → Step
step_by i n = record { answer = refused_at n.met i; next = n.phase }

abbrev pub refused_step : Reason → Step
refused_step e = record { answer = Err (refusal e 0); next = Exhausted }

unfoldable pub step_of : List ℕ → File → ℕ → Phase → Step
step_of l f i s =
    refuse (ask_rule l f f.commits i) refused_step
    (step_by i (next_of (row_of l f i).first (row_of l f i).second (edge_chunk l f) s))

-- how many parents commit i has
abbrev pub not_counted : Reason → Result ℕ Refusal
not_counted e = Err (refusal e 0)

unfoldable pub total_of : List ℕ → File → ℕ → Result ℕ Refusal
total_of l f i =
    refuse (ask_rule l f f.commits i) not_counted
    (refused_at (count_of (row_of l f i).first (row_of l f i).second (edge_chunk l f)) i)
