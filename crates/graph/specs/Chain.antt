-- The chain: document 01, "The chain". c is the chain's bytes, l the list's, and a record has z bytes. Files are functions of their index.
use Rattle.std.specs.Prelude.{ℕ, zero, suc, ◌+◌, ◌≤◌, List, ◌≡◌, length, take, drop, leb, Result, Ok, Err, ⊤}
use Rattle.words.specs.First.{◌if◌else◌, ◌or◌, fine, refuse}
use Rattle.types.specs.Refusals.{refusal, refused_at}
use Rattle.types.specs.declared.refusal.Reason.TheVariants as Reason
use Rattle.types.specs.declared.refusal.Refusal.{Refusal}
use Rattle.words.specs.Sums.{before, which_of, within_of}
use Rattle.list.specs.List.{records_of, length_at, list_rule, list_place}
use Rattle.file.specs.Table.{opening}
use Rattle.file.specs.declared.File.{File}

-- the refusal of file k, in place of one file's
abbrev pub placed : ℕ → Refusal → Refusal
placed k r = record { reason = r.reason; file = k; place = r.place }

-- an answer of file k
unfoldable pub in_file : {A : Type 0} → ℕ → Result A Refusal → Result A Refusal
in_file k (Ok x) = Ok x
in_file k (Err r) = Err (placed k r)

-- how many commits one file has, once it is opened, and how wide its ids are; nothing where it is refused
unfoldable pub commits_of : Result File Refusal → ℕ
commits_of (Ok f) = f.commits
commits_of (Err r) = 0

unfoldable pub width_in : Result File Refusal → ℕ
width_in (Ok f) = f.width
width_in (Err r) = 0

module _ (z : ℕ) (c l : List ℕ) where
  -- where file k starts, its own bytes, and its opening
  abbrev pub start_at : ℕ → ℕ
  start_at k = before (length_at z l) k

  unfoldable pub part_at : ℕ → List ℕ
  part_at k = take (length_at z l k) (drop (start_at k) c)

  unfoldable pub open_at : ℕ → Result File Refusal
  open_at k = opening (part_at k)

  -- its commits; its first position is the sum of them over the files before it
  unfoldable pub count_at : ℕ → ℕ
  count_at k = commits_of (open_at k)

  abbrev pub first_at : ℕ → ℕ
  first_at k = before count_at k

  abbrev pub commits_in : ℕ
  commits_in = first_at (records_of z l)

  -- the file of a position, and the position in it
  abbrev pub file_of : ℕ → ℕ
  file_of g = which_of count_at (records_of z l) g

  abbrev pub pos_of : ℕ → ℕ
  pos_of g = within_of count_at (records_of z l) g

  -- each file's opening in order, from file k on; fine where all open
  unfoldable pub open_or : Result File Refusal → ℕ → Result ⊤ Refusal → Result ⊤ Refusal
  open_or (Ok f) k rest = rest
  open_or (Err r) k rest = Err (placed k r)

  unfoldable pub open_from : ℕ → ℕ → Result ⊤ Refusal
  open_from k zero = fine
  open_from k (suc left) = open_or (open_at k) k (open_from (k + 1) left)

  -- opening a chain: 1, 30, 31, 32, then each file's opening
  unfoldable pub opened : Result ⊤ Refusal
  opened = refused_at (list_rule z (length c) l) (list_place z (length c) l) or open_from 0 (records_of z l)

  -- a question on a position: then 40
  unfoldable pub asked : ℕ → Result ⊤ Refusal
  asked g = opened or (Err (refusal Reason.Position 0) if leb commits_in g else fine)

-- what opening a chain answers
unfoldable pub opening_of : ℕ → List ℕ → List ℕ → Result ℕ Refusal
opening_of z c l = refuse (opened z c l) Err (Ok (commits_in z c l))

-- a list that is not refused: n records, whose files lie in the chain
pub record Listed (z : ℕ) (c l : List ℕ) (n : ℕ) : Type 0 where
  pub few : n ≤ 256
  pub files : before (length_at z l) n ≡ length c
  pub most : length c ≤ 1073741824
