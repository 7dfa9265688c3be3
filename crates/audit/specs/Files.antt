-- What a chain's files store, for verification, and what their commits add up to. No refusal is here.
-- c is the chain's bytes, l the list's, z the size of a record; i and j are files, k a commit's position in its file, g a graph position.
use Rattle.std.specs.Prelude.{ℕ, ◌*◌, List, length, Result, Ok, Err, ⊤}
use Rattle.words.specs.Big.{be}
use Rattle.fit.specs.Fits.{fan_part, ids_part, rows_part, base_part}
use Rattle.types.specs.declared.refusal.Refusal.{Refusal}
use Rattle.file.specs.declared.File.{File}
use Rattle.ancestry.specs.Counts.{key_of}
use Rattle.commit.specs.Commits.{row_of}
use Rattle.words.specs.First.{fine}
use Rattle.types.specs.declared.refusal.Reason.{Reason}
use Rattle.rules.specs.Rules.{trailer_of, entry_rule}
use Rattle.graph.specs.Chain.{width_in, part_at, open_at, file_of, pos_of}
use Rattle.walk.specs.Lists.{parents_at}

-- ── one file of bytes p; nothing where it does not open ──

-- how many base ids it says it has, and base id j, as a number
unfoldable pub bases_in : Result File Refusal → ℕ
bases_in (Ok f) = f.bases
bases_in (Err r) = 0

unfoldable pub base_in : List ℕ → Result File Refusal → ℕ → ℕ
base_in p (Ok f) j = be f.width (base_part p f) (j * f.width)
base_in p (Err r) j = 0

-- the generation of commit k, and what 64 to 67 say of it
unfoldable pub gen_in : List ℕ → Result File Refusal → ℕ → ℕ
gen_in p (Ok f) k = (row_of p f k).generation
gen_in p (Err r) k = 0

unfoldable pub entry_at : List ℕ → Result File Refusal → ℕ → Result ⊤ Reason
entry_at p (Ok f) k = entry_rule f.width (fan_part p f) (ids_part p f) (rows_part p f) k
entry_at p (Err r) k = fine

-- ── the chain ──

module _ (z : ℕ) (c l : List ℕ) where
  -- the trailer of file i
  unfoldable pub trailer_at : ℕ → ℕ
  trailer_at i = trailer_of (width_in (open_at z c l i)) (part_at z c l i)

  -- the generation at a position
  unfoldable pub gen_at : ℕ → ℕ
  gen_at g = gen_in (part_at z c l (file_of z c l g)) (open_at z c l (file_of z c l g)) (pos_of z c l g)

  -- which of the 66 counts the commit at a position is in
  unfoldable pub key_at : ℕ → ℕ
  key_at g = key_of (length (parents_at z c l g))
