-- A file's commit: the ways through a step and a count of it, and that what a step answers is fair.
use Rattle.std.proofs.Common.{ℕ, List, ◌≡◌, refl, Result, Ok, Err}
use Rattle.std.specs.Prelude.{Option, Some, None, ⊤}
use Rattle.words.specs.First.{fine, refuse}
use Rattle.words.proofs.Rows.{refuse_other}
use Rattle.types.specs.Refusals.{refused_at}
use Rattle.types.specs.declared.refusal.Reason.{Reason}
use Rattle.types.specs.declared.refusal.Refusal.{Refusal}
use Rattle.fit.specs.Fits.{ask_rule, edge_chunk, Fitted}
use Rattle.fit.proofs.Fitting.{answered}
use Rattle.commit.specs.Commits.{row_of, commit_at, not_commit}
use Rattle.commit.specs.declared.Commit.{Commit}
use Rattle.steps.specs.Walks.{next_of, count_of}
use Rattle.parents.specs.Walks.{step_by, refused_step, step_of, total_of, not_counted}
use Rattle.file.specs.declared.File.{File}
use Rattle.steps.specs.declared.Phase.{Phase}
use Rattle.steps.specs.declared.Phase.TheVariants.{Exhausted}
use Rattle.steps.specs.declared.Parent.{Parent}
use Rattle.steps.specs.declared.Next.{Next}
use Rattle.steps.proofs.Walking.{Fair, next_fair}

module _ (l : List ℕ) (f : File) (i : ℕ) where
  -- a commit that is answered: its question meets no refusal, and its record fits
  module _ {c : Commit} (h : commit_at l f i ≡ Ok c) where
    given : (ask_rule l f f.commits i ≡ fine) × (◌≡◌ {A = Result Commit Refusal} (Ok (row_of l f i)) (Ok c))
    unfolding commit_at
    given = refuse_other (ask_rule l f f.commits i) not_commit _ (λ e z. cc) h

    pub commit_fits : Fitted l f
    commit_fits = (answered l f f.commits i given.0).fits

    pub commit_row : c ≡ row_of l f i
    commit_row = cc (given.1)

    -- its step and the number of its parents
    pub step_plain : (s : Phase) → step_by i (next_of c.first c.second (edge_chunk l f) s) ≡ step_of l f i s
    unfolding step_of refuse
    step_plain s = rw (given.0, commit_row)

    pub total_plain : refused_at (count_of c.first c.second (edge_chunk l f)) i ≡ total_of l f i
    unfolding total_of refuse
    total_plain = rw (given.0, commit_row)

  -- a question that is refused
  module _ {r : Refusal} (h : commit_at l f i ≡ Err r) where
    pub step_misfit : (s : Phase) → record { answer = Err r; next = Exhausted } ≡ step_of l f i s
    unfolding commit_at step_of refuse
    step_misfit s = go (ask_rule l f f.commits i) h
      where
        go : (m : Result ⊤ Reason) → refuse m not_commit (Ok (row_of l f i)) ≡ Err r → record { answer = Err r; next = Exhausted }
            ≡ refuse m refused_step (step_by i (next_of (row_of l f i).first (row_of l f i).second (edge_chunk l f) s))
        go (Ok u) z = cc
        go (Err e) z = cc

    pub total_misfit : Err r ≡ total_of l f i
    unfolding commit_at total_of refuse
    total_misfit = go (ask_rule l f f.commits i) h
      where
        go : (m : Result ⊤ Reason) → refuse m not_commit (Ok (row_of l f i)) ≡ Err r
            → Err r ≡ refuse m not_counted (refused_at (count_of (row_of l f i).first (row_of l f i).second (edge_chunk l f)) i)
        go (Ok u) z = cc
        go (Err e) z = cc

-- what a step of a file's commit answers is fair too: a refusal and the end leave the walk exhausted
unfoldable pub Told : Result (Option Parent) Refusal → Phase → Type 0
Told (Ok (Some q)) s = Unit {0}
Told (Ok None) s = s ≡ Exhausted
Told (Err r) s = s ≡ Exhausted

met_told : (e : Option (List ℕ)) (i n : ℕ) (m : Result (Option Parent) Reason) (s : Phase) → Fair e n m s → Told (refused_at m i) s
unfolding Fair Told
met_told e i n (Ok (Some q)) s h = tt
met_told e i n (Ok None) s h = h
met_told e i n (Err r) s h = h

pub step_told : (l : List ℕ) (f : File) (i : ℕ) (s : Phase) → Told (step_of l f i s).answer (step_of l f i s).next
unfolding step_of refuse Told
step_told l f i s = go (ask_rule l f f.commits i)
  where
    x : Next
    x = next_of (row_of l f i).first (row_of l f i).second (edge_chunk l f) s

    go : (m : Result ⊤ Reason) → Told (refuse m refused_step (step_by i x)).answer (refuse m refused_step (step_by i x)).next
    go (Ok u) =
        met_told (edge_chunk l f) i _ x.met x.phase (next_fair (edge_chunk l f) (row_of l f i).first (row_of l f i).second s)
    go (Err e) = refl
