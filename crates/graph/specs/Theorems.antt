-- What it comes to where a position stands.
use Rattle.std.specs.Prelude.{ℕ, ◌+◌, ◌≤◌, ◌<◌, List, ◌≡◌, length, Ok}
use Rattle.std.specs.Borrow.{Bor}
use Rattle.words.specs.Part.{PartOf}
use Rattle.list.specs.List.{records_of, length_at}
use Rattle.file.specs.declared.File.{File}
use Rattle.words.specs.First.{fine}
use Rattle.graph.specs.Chain.{start_at, part_at, open_at, count_at, first_at, commits_in, file_of, pos_of, asked}
use Rattle.graph.specs.declared.locate.Spot.{Spot}

-- each position of a chain stands in exactly one file, which is open, at exactly one place there; and each place of a file has a position
pub record Stands (z : ℕ) (c l : List ℕ) : Type 0 where
  pub file : (g : ℕ) → g < commits_in z c l → file_of z c l g < records_of z l
  pub pos : (g : ℕ) → g < commits_in z c l → pos_of z c l g < count_at z c l (file_of z c l g)
  pub sum : (g : ℕ) → g < commits_in z c l → first_at z c l (file_of z c l g) + pos_of z c l g ≡ g
  pub opens : (g : ℕ) → g < commits_in z c l → (f : File) × (open_at z c l (file_of z c l g) ≡ Ok f) × (pos_of z c l g < f.commits)
  pub inside : (k i : ℕ) → k < records_of z l → i < count_at z c l k → first_at z c l k + i < commits_in z c l
  pub file_back : (k i : ℕ) → k < records_of z l → i < count_at z c l k → file_of z c l (first_at z c l k + i) ≡ k
  pub pos_back : (k i : ℕ) → k < records_of z l → i < count_at z c l k → pos_of z c l (first_at z c l k + i) ≡ i
  pub only : (k i m j : ℕ) → k < records_of z l → i < count_at z c l k → m < records_of z l → j < count_at z c l m
      → first_at z c l k + i ≡ first_at z c l m + j → (k ≡ m) × (i ≡ j)

-- what a located position has: its question is not refused, the spot's file is its file, which lies in the chain and opens as the spot's record, and has it
pub record Spotted (z : ℕ) (c l : List ℕ) (g : ℕ) (r : Spot) : Type 0 where
  pub asks : asked z c l g ≡ fine
  pub file : file_of z c l g ≡ r.file
  pub pos : pos_of z c l g ≡ r.pos.0
  pub sum : first_at z c l r.file + r.pos.0 ≡ g
  pub below : r.file < records_of z l
  pub start : start_at z c l r.file ≡ r.start
  pub size : length_at z l r.file ≡ r.size
  pub room : r.start + r.size ≤ length c
  pub opens : open_at z c l r.file ≡ Ok r.inner
  pub high : r.pos.0 < r.inner.commits

-- s is a spot's file, as a part of the chain
pub record FileOf (z : ℕ) (c : Bor (List ℕ)) (l : List ℕ) (r : Spot) (s : Bor (List ℕ)) : Type 0 where
  pub bytes : s.now ≡ part_at z c.now l r.file
  pub place : PartOf c r.start r.size s
