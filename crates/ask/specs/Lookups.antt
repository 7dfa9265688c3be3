-- Lookup in a chain: each file's own lookup in order; the oldest copy counts. 41 for an id that is not 20 bytes.
use Rattle.std.specs.Prelude.{ℕ, zero, suc, ◌+◌, List, not, ◌≡◌, eqb, length, Result, Ok, Err, Option, Some, None, MatchResult}
use Rattle.words.specs.First.{◌if◌else◌, fine, refuse}
use Rattle.types.specs.Refusals.{refusal}
use Rattle.types.specs.declared.refusal.Reason.TheVariants as Reason
use Rattle.types.specs.declared.graph.Position.{Position}
use Rattle.list.specs.List.{records_of}
use Rattle.types.specs.declared.refusal.Refusal.{Refusal}
use Rattle.file.specs.declared.File.{File}
use Rattle.access.specs.Lookup.{lookup_of as lookupIn, Found as FileFound, absent as not_in_file}
use Rattle.graph.specs.Chain.{part_at, open_at, first_at, open_from, opened}

-- what file k finds; nothing where it does not open
unfoldable pub find_in : List ℕ → Result File Refusal → List ℕ → FileFound
find_in p (Ok f) x = lookupIn p f x
find_in p (Err r) x = not_in_file

-- an answer: the position that stores the id, or none, or a refusal
abbrev pub Found : Type 0
Found = Result (Option Position) Refusal

abbrev pub place : ℕ → Found
place g = Ok (Some (record { 0 = g }))

abbrev pub absent : Found
absent = Ok None

-- the answer of a file whose first position is base, else what the files after it say
unfoldable pub shift : ℕ → FileFound → Found → Found
shift base (Ok (Some p)) rest = place (base + p.0)
shift base (Ok None) rest = rest
shift base (Err r) rest = rest

module _ (z : ℕ) (c l x : List ℕ) where
  abbrev pub find_at : ℕ → FileFound
  find_at k = find_in (part_at z c l k) (open_at z c l k) x

  -- the files from k on
  unfoldable pub look_from : ℕ → ℕ → Found
  look_from k zero = absent
  look_from k (suc left) = shift (first_at z c l k) (find_at k) (look_from (k + 1) left)

unfoldable pub lookup_of : ℕ → List ℕ → List ℕ → List ℕ → Found
lookup_of z c l x =
    refuse (opened z c l) Err
    (Err (refusal Reason.IdWidth 0) if not (eqb (length x) 20) else
    look_from z c l x 0 (records_of z l))

-- ── what the private pass gives ──

unfoldable pub note_file : ℕ → FileFound → Option Position
note_file sum (Ok (Some p)) = Some (record { 0 = sum + p.0 })
note_file sum (Ok None) = None
note_file sum (Err r) = None

unfoldable pub noted_of : Option Position → ℕ → FileFound → Option Position
noted_of (Some g) sum y = Some g
noted_of None sum y = note_file sum y

-- a pass over n files, which all open, and what was seen
pub record Searched (z : ℕ) (c l : List ℕ) (n : ℕ) (x : List ℕ) (hit : Option Position) : Type 0 where
  pub opens : open_from z c l 0 n ≡ fine
  pub answer : look_from z c l x 0 n ≡ Ok hit

abbrev pub Looked : ℕ → List ℕ → List ℕ → ℕ → List ℕ → Found → Type 0
Looked z c l n x r = MatchResult r (Searched z c l n x) (λ e. open_from z c l 0 n ≡ Err e)
