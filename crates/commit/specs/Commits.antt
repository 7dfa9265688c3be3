-- Commits: gitformat-commit-graph's "Commit Data" (CDAT).
use Rattle.std.specs.Prelude.{ℕ, ◌+◌, ◌-◌, ◌*◌, ◌/◌, ◌%◌, ◌^◌, List, not, length, ltb, leb, eqb, Result, Ok, Err, ⊤}
use Rattle.types.specs.Refusals.{refusal}
use Rattle.types.specs.declared.refusal.Reason.{Reason}
use Rattle.types.specs.declared.refusal.Refusal.{Refusal}
use Rattle.words.specs.Big.{be}
use Rattle.words.specs.First.{◌if◌else◌, fine, refuse}
use Rattle.types.specs.Width.{known}
use Rattle.fit.specs.Fits.{ask_rule, rows_part}
use Rattle.file.specs.declared.File.{File}
use Rattle.commit.specs.declared.Commit.{Commit}
use Rattle.commit.specs.declared.ParentEdge.{ParentEdge}
use Rattle.commit.specs.declared.ParentEdge.TheVariants.{None, GraphPosition, ExtraEdgeIndex}

-- a parent word
unfoldable pub edge_of : ℕ → ParentEdge
edge_of x =
    None if eqb x 0x70000000 else
    ExtraEdgeIndex (x - 0x80000000) if leb 0x80000000 x else
    GraphPosition (record { 0 = x })

-- the generation and the time of two date words
abbrev pub generation_of : ℕ → ℕ
generation_of high = high / 4

abbrev pub time_of : ℕ → ℕ → ℕ
time_of high low = high % 4 * 2 ^ 32 + low

-- the fields at a place of the bytes p, behind a row's tree: two parent words and 8 date bytes
unfoldable pub commit_of : List ℕ → ℕ → Commit
commit_of p at =
    record {
      generation = generation_of (be 4 p (at + 8));
      time = time_of (be 4 p (at + 8)) (be 4 p (at + 12));
      first = edge_of (be 4 p at);
      second = edge_of (be 4 p (at + 4));
    }

-- row i of n bytes of CDAT
unfoldable pub row_rule : ℕ → ℕ → ℕ → Result ⊤ Reason
row_rule w n i =
    Err Reason.Position if not (known w) else
    Err Reason.Position if ltb n (i * (w + 16) + (w + 16)) else
    fine

abbrev pub not_commit : Reason → Result Commit Refusal
not_commit e = Err (refusal e 0)

unfoldable pub commit_in : ℕ → List ℕ → ℕ → Result Commit Refusal
commit_in w p i = refuse (row_rule w (length p) i) not_commit (Ok (commit_of p (i * (w + 16) + w)))

-- a commit of a file
abbrev pub row_of : List ℕ → File → ℕ → Commit
row_of l f i = commit_of (rows_part l f) (i * (f.width + 16) + f.width)

unfoldable pub commit_at : List ℕ → File → ℕ → Result Commit Refusal
commit_at l f i = refuse (ask_rule l f f.commits i) not_commit (Ok (row_of l f i))
