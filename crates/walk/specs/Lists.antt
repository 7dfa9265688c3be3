-- The parent list on a chain: the opening, then 40, then the walk's refusals, then 55; 50 to 55 carry the commit's file and its position there.
use Rattle.std.specs.Prelude.{ℕ, List, length, Result, Ok, Err}
use Rattle.words.specs.First.{fine, refuse}
use Rattle.types.specs.declared.refusal.Refusal.{Refusal}
use Rattle.file.specs.declared.File.{File}
use Rattle.steps.specs.Walks.{Walked, ends, positions}
use Rattle.parents.specs.Walks.{walk_of}
use Rattle.parents.specs.Lists.{held_by, list_of as fileList}
use Rattle.graph.specs.Chain.{placed, in_file, part_at, open_at, file_of, pos_of, asked}

-- the walk of a file's commit i; nothing where the file does not open
unfoldable pub walk_in : List ℕ → Result File Refusal → ℕ → Walked
walk_in p (Ok f) i = walk_of p f i
walk_in p (Err r) i = ends fine

unfoldable pub list_by : ℕ → List ℕ → Result File Refusal → ℕ → ℕ → Result ℕ Refusal
list_by k p (Ok f) i m = in_file k (fileList p f i m)
list_by k p (Err r) i m = Err (placed k r)

module _ (z : ℕ) (c l : List ℕ) (g : ℕ) where
  -- the walk of position g, and its parents
  unfoldable pub walked_at : Walked
  walked_at = walk_in (part_at z c l (file_of z c l g)) (open_at z c l (file_of z c l g)) (pos_of z c l g)

  abbrev pub parents_at : List ℕ
  parents_at = positions walked_at

  -- the answer for a list of m entries, and what the list xs holds after it
  unfoldable pub list_of : ℕ → Result ℕ Refusal
  list_of m =
      refuse (asked z c l g) Err
      (list_by (file_of z c l g) (part_at z c l (file_of z c l g)) (open_at z c l (file_of z c l g)) (pos_of z c l g) m)

  unfoldable pub held_of : List ℕ → List ℕ
  held_of xs = held_by (list_of (length xs)) parents_at xs
