-- A file's chunks as parts, and one commit of them.
use Rattle.std.specs.Prelude.{ℕ, ◌+◌, ◌*◌, ◌≤◌, List, true, ◌≡◌, length, Option, Result, Ok, Err, ⊤}
use Rattle.words.specs.First.{refuse}
use Rattle.types.specs.Width.{known}
use Rattle.types.specs.declared.refusal.Reason.{Reason}
use Rattle.types.specs.declared.refusal.Refusal.{Refusal}
use Rattle.fit.specs.Fits.{fan_part, ids_part, rows_part, edge_chunk}
use Rattle.file.specs.declared.File.{File}
use Rattle.commit.specs.Commits.{commit_in, not_commit}
use Rattle.commit.specs.declared.Commit.{Commit}
use Rattle.rules.specs.Rules.{entry_in}
use Rattle.tries.specs.declared.Tried.{Tried}

-- a file's chunks, each as its own part, EDGE where there is one; ids have `width` bytes
pub record Parts : Type 0 where
  pub width : ℕ
  pub fan : List ℕ
  pub ids : List ℕ
  pub rows : List ℕ
  pub edge : Option (List ℕ)

abbrev pub parts_of : List ℕ → File → Parts
parts_of p f = record { width = f.width; fan = fan_part p f; ids = ids_part p f; rows = rows_part p f; edge = edge_chunk p f }

-- the parts hold n commits
pub record Holds (q : Parts) (n : ℕ) : Type 0 where
  pub known : known q.width ≡ true
  pub fan : 1024 ≤ length q.fan
  pub ids : length q.ids ≡ n * q.width
  pub rows : length q.rows ≡ n * (q.width + 16)

-- entry c is refused, or its row is there
unfoldable pub row_in : ℕ → List ℕ → List ℕ → List ℕ → ℕ → Result Commit Refusal
row_in w fan ids rows c = refuse (entry_in w fan ids rows c) not_commit (commit_in w rows c)

-- how a commit went that meets `rule`, else has so many parents and generation g
abbrev pub told : Result ⊤ Reason → ℕ → ℕ → Result Tried Reason
told rule many g = refuse rule Err (Ok (record { parents = many; generation = g }))
