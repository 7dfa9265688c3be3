-- Questions on a chain: document 01, "Questions". c is the chain's bytes, l the list's, z the size of a record, g a graph position.
use Rattle.std.specs.Prelude.{ℕ, ◌+◌, ◌*◌, List, Result, Ok, Err}
use Rattle.std.specs.Borrow.{Bor}
use Rattle.words.specs.First.{refuse}
use Rattle.types.specs.declared.refusal.Refusal.{Refusal}
use Rattle.fit.specs.Fits.{AskedPart}
use Rattle.file.specs.declared.File.{File}
use Rattle.commit.specs.Commits.{commit_at}
use Rattle.commit.specs.declared.Commit.{Commit}
use Rattle.graph.specs.Chain.{width_in, start_at, part_at, open_at, file_of, pos_of, asked}

-- where id i and the tree of commit i lie in an opened file
unfoldable pub id_in : Result File Refusal → ℕ → ℕ
id_in (Ok f) i = f.oidl + i * f.width
id_in (Err r) i = 0

unfoldable pub tree_in : Result File Refusal → ℕ → ℕ
tree_in (Ok f) i = f.cdat + i * (f.width + 16)
tree_in (Err r) i = 0

-- r is the id at position g, or the tree of its commit, as a part of the chain; empty where the question is refused
abbrev pub IdPart : ℕ → Bor (List ℕ) → List ℕ → ℕ → Bor (List ℕ) → Type 0
IdPart z c l g r =
    AskedPart c (asked z c.now l g)
    (start_at z c.now l (file_of z c.now l g) + id_in (open_at z c.now l (file_of z c.now l g)) (pos_of z c.now l g))
    (width_in (open_at z c.now l (file_of z c.now l g))) r

abbrev pub TreePart : ℕ → Bor (List ℕ) → List ℕ → ℕ → Bor (List ℕ) → Type 0
TreePart z c l g r =
    AskedPart c (asked z c.now l g)
    (start_at z c.now l (file_of z c.now l g) + tree_in (open_at z c.now l (file_of z c.now l g)) (pos_of z c.now l g))
    (width_in (open_at z c.now l (file_of z c.now l g))) r

-- the commit at position g
unfoldable pub commit_in : List ℕ → Result File Refusal → ℕ → Result Commit Refusal
commit_in p (Ok f) i = commit_at p f i
commit_in p (Err r) i = Err r

unfoldable pub commit_of : ℕ → List ℕ → List ℕ → ℕ → Result Commit Refusal
commit_of z c l g =
    refuse (asked z c l g) Err
    (commit_in (part_at z c l (file_of z c l g)) (open_at z c l (file_of z c l g)) (pos_of z c l g))
