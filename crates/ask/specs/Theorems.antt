-- What the answers on a chain come to: the id at a position, and what a lookup finds.
use Rattle.std.specs.Prelude.{ℕ, ◌≤◌, ◌<◌, List, [], ◌≡◌, length, Result, Ok, Err, None}
use Rattle.std.specs.Borrow.{Bor}
use Rattle.list.specs.List.{records_of}
use Rattle.types.specs.declared.refusal.Refusal.{Refusal}
use Rattle.file.specs.declared.File.{File}
use Rattle.access.specs.Lookup.{stored, Ordered}
use Rattle.graph.specs.Chain.{part_at, open_at, commits_in, file_of, pos_of, opened, asked}
use Rattle.words.specs.First.{fine}
use Rattle.ask.specs.Lookups.{Found, place, lookup_of}
use Rattle.ask.specs.Questions.{IdPart}

-- the id at position g: what its file stores at its place there
unfoldable pub stored_in : List ℕ → Result File Refusal → ℕ → List ℕ
stored_in p (Ok f) i = stored p f i
stored_in p (Err r) i = []

unfoldable pub id_of : ℕ → List ℕ → List ℕ → ℕ → List ℕ
id_of z c l g = stored_in (part_at z c l (file_of z c l g)) (open_at z c l (file_of z c l g)) (pos_of z c l g)

-- what `id_at` hands out at a position that is not refused is the id there
abbrev pub ReadsId : ℕ → Bor (List ℕ) → List ℕ → ℕ → Bor (List ℕ) → Type 0
ReadsId z c l g r = asked z c.now l g ≡ fine → IdPart z c l g r → r.now ≡ id_of z c.now l g

-- a chain that opens, with the ids of each file in order
pub record Sorted (z : ℕ) (c l : List ℕ) : Type 0 where
  pub opens : opened z c l ≡ fine
  pub ordered : (k : ℕ) → k < records_of z l → (f : File) → open_at z c l k ≡ Ok f → Ordered (part_at z c l k) f

-- r is what a lookup of x should answer: it finds x exactly if some file stores it, at the lowest position that does
pub record Exact (z : ℕ) (c l x : List ℕ) (r : Found) : Type 0 where
  pub inside : (h : ℕ) → r ≡ place h → h < commits_in z c l
  pub sound : (h : ℕ) → r ≡ place h → id_of z c l h ≡ x
  pub lowest : (h : ℕ) → r ≡ place h → (g : ℕ) → g < h → id_of z c l g ≡ x → ⊥
  pub whole : (g : ℕ) → g < commits_in z c l → id_of z c l g ≡ x → (h : ℕ) × (r ≡ place h) × (h ≤ g)
  pub absent : r ≡ Ok None → (g : ℕ) → g < commits_in z c l → id_of z c l g ≡ x → ⊥
  pub none : ((g : ℕ) → g < commits_in z c l → id_of z c l g ≡ x → ⊥) → r ≡ Ok None

-- of a chain whose files are in order, asked for an id of 20 bytes
unfoldable pub Right : ℕ → List ℕ → List ℕ → List ℕ → Found → Type 0
Right z c l x r = Sorted z c l → length x ≡ 20 → Exact z c l x r

-- a lookup of the id at position g finds the lowest position that stores it
pub record Agrees (z : ℕ) (c l : List ℕ) (g : ℕ) : Type 0 where
  pub at : ℕ
  pub found : lookup_of z c l (id_of z c l g) ≡ place at
  pub same : id_of z c l at ≡ id_of z c l g
  pub below : at ≤ g
  pub lowest : (j : ℕ) → j < at → id_of z c l j ≡ id_of z c l g → ⊥
