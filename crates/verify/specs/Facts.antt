-- What acceptance says, by name: an accepted chain is one where each of these facts holds, and no other is refused.
use Rattle.std.specs.Prelude.{ℕ, ◌+◌, ◌*◌, ◌<◌, ◌≡◌, length, get_or, Result, Ok, Err}
use mathlib.Core.List.{List, Memᴰ}
use Rattle.std.proofs.Math.Option.{Option, none, some}
use Rattle.words.specs.Big.{be}
use Rattle.words.specs.First.{fine}
use Rattle.types.specs.declared.refusal.Refusal.{Refusal}
use Rattle.words.specs.Sums.{before}
use Rattle.ancestry.specs.Graph.{right_gen, Agrees}
use Rattle.ancestry.specs.Counts.{count_up}
use Rattle.list.specs.List.{records_of}
use Rattle.fit.specs.Fits.{fan_part, ids_part, rows_part, base_part}
use Rattle.file.specs.declared.File.{File}
use Rattle.commit.specs.Commits.{row_of}
use Rattle.steps.specs.Walks.{positions, end_of}
use Rattle.parents.specs.Walks.{walk_of}
use Rattle.rules.specs.Facts.{Summed, Named, Entry}
use Rattle.graph.specs.Chain.{part_at, open_at, first_at, commits_in, opened}
use Rattle.ask.specs.Lookups.{lookup_of}
use Rattle.ask.specs.Theorems.{Exact}
use Rattle.walk.specs.Lists.{parents_at}
use Rattle.audit.specs.Files.{trailer_at, gen_at, key_at}
use Rattle.audit.specs.declared.Length.{Length}
use Rattle.audit.specs.declared.Length.TheVariants.{Steps, Cyclic}
use Rattle.audit.specs.declared.Summary.{Summary}
use Rattle.audit.specs.declared.Verification.{Verification}

-- commit k of a file of bytes p with the record f; the chain has `limit` commits up to the file's end, and gen is the generation at a position
pub record SoundCommit (gen : ℕ → ℕ) (limit : ℕ) (p : List ℕ) (f : File) (k : ℕ) : Type 0 where
  -- 64 to 67: its id, its place in the fan and its tree
  pub entry : Entry f.width (fan_part p f) (ids_part p f) (rows_part p f) k
  -- 50 to 54: its walk ends without refusal; 68: each parent is a commit of this file or of one before
  pub ended : end_of (walk_of p f k) ≡ fine
  pub inside : (g : ℕ) → Memᴰ g (positions (walk_of p f k)) → g < limit
  -- 69: its generation is right
  pub right : (row_of p f k).generation ≡ right_gen gen (positions (walk_of p f k))

-- file i of a chain, of bytes p and with the record f
pub record SoundFile (z : ℕ) (c l : List ℕ) (i : ℕ) (p : List ℕ) (f : File) : Type 0 where
  -- 60, 61: it has a base for each file before it, and that is the file's trailer
  pub bases : f.bases ≡ i
  pub base : (j : ℕ) → j < i → be f.width (base_part p f) (j * f.width) ≡ trailer_at z c l j
  -- 62, 63: its trailer is the SHA-1 of all bytes before it, and its name claims nothing else
  pub sum : Summed f.width p
  pub name : Named f.width z l i p
  pub commit : (k : ℕ) → k < f.commits → SoundCommit (gen_at z c l) (first_at z c l (i + 1)) p f k

pub record Sound (z : ℕ) (c l : List ℕ) : Type 0 where
  -- 1 to 32: the list and every file open
  pub opens : opened z c l ≡ fine
  pub file : (i : ℕ) → i < records_of z l → (f : File) → open_at z c l i ≡ Ok f → SoundFile z c l i (part_at z c l i) f

-- ── what an answer claims ──

-- the length of an answer, or none
unfoldable pub length_in : Length → Option ℕ
length_in (Steps n) = some n
length_in Cyclic = none

-- the counts add up to the commits, and count j is the number of commits of key j
pub record Counted (z : ℕ) (c l : List ℕ) (counts : List ℕ) : Type 0 where
  pub size : length counts ≡ 66
  pub each : (j : ℕ) → j < 66 → get_or counts j 0 ≡ count_up (key_at z c l) (commits_in z c l) j
  pub sum : before (λ j. get_or counts j 0) 66 ≡ commits_in z c l

-- demands 2 and 3 of an accepted chain
pub record Claimed (z : ℕ) (c l : List ℕ) (n : ℕ) (d : Length) (t : List ℕ) : Type 0 where
  pub sound : Sound z c l
  pub commits : n ≡ commits_in z c l
  pub counts : Counted z c l t
  -- demand 2: an id is found exactly if some file stores it, at its lowest position
  pub found : (x : List ℕ) → ((i : ℕ) → get_or x i 0 < 256) → length x ≡ 20 → Exact z c l x (lookup_of z c l x)
  -- demand 3
  pub agrees : Agrees (commits_in z c l) (parents_at z c l) (length_in d)

unfoldable pub ClaimsBy : ℕ → List ℕ → List ℕ → Result Summary Refusal → List ℕ → Type 0
ClaimsBy z c l (Ok s) counts = Claimed z c l s.commits s.length counts
ClaimsBy z c l (Err r) counts = Sound z c l → ⊥

-- an accepted chain is sound, and the answer is true of it; a refused one is not sound
abbrev pub Claims : ℕ → List ℕ → List ℕ → Verification → Type 0
Claims z c l v = ClaimsBy z c l v.verdict v.counts
