-- The chunk index: gitformat-chunk, and gitformat-commit-graph's "Chunk LOOKUP". A table's rows stand in document 01's order.
use Rattle.std.specs.Prelude.{ℕ, ◌+◌, ◌-◌, ◌*◌, ◌≤◌, ◌<◌, List, Bool, false, not, ◌≡◌, length, get_or, ltb, leb, eqb}
use Rattle.std.specs.Prelude.{Option, Some, None, MatchOption, is_none, Result, Ok, Err, ⊤, is_err}
use Rattle.words.specs.Big.{be}
use Rattle.words.specs.First.{◌if◌else◌, first, fine, refuse}
use Rattle.types.specs.Refusals.{refusal}
use Rattle.types.specs.declared.refusal.Reason.{Reason}
use Rattle.types.specs.declared.refusal.Refusal.{Refusal}
use Rattle.chunk.specs.declared.Span.{Span}
use Rattle.chunk.specs.declared.Entry.{Entry}

-- the chunk count C
abbrev pub chunks : List ℕ → ℕ
chunks l = get_or l 6 0

-- an entry: its id and its offset
abbrev pub id_at : List ℕ → ℕ → ℕ
id_at l i = be 4 l (8 + 12 * i)

abbrev pub off_at : List ℕ → ℕ → ℕ
off_at l i = be 8 l (12 + 12 * i)

unfoldable pub is_at : List ℕ → ℕ → ℕ → Bool
is_at l x i = eqb (id_at l i) x

-- where a search among n was to stop, at k: there, or nowhere where that is its end
abbrev pub Found : ℕ → ℕ → Option ℕ → Type 0
Found n k r = MatchOption r (n ≤ k) (λ i. (i ≡ k) × (i < n))

-- the id of entry i stands in an earlier entry
unfoldable pub seen : List ℕ → ℕ → Bool
seen l i = ltb (first (is_at l (id_at l i)) 0 i) i

-- a chunk from a to e, in a file of n bytes whose index ends at low
unfoldable pub range_rule : ℕ → ℕ → ℕ → ℕ → Result ⊤ Reason
range_rule n low a e =
    Err Reason.IndexOffset if ltb a low else
    Err Reason.IndexOffset if ltb n a else
    Err Reason.IndexOffset if ltb e a else
    Err Reason.IndexOffset if ltb n e else
    fine

-- an entry before the last
unfoldable pub entry_rule : List ℕ → ℕ → Result ⊤ Reason
entry_rule l i =
    Err Reason.IndexId if eqb (id_at l i) 0 else
    Err Reason.IndexRepeated if seen l i else
    range_rule (length l) (20 + 12 * chunks l) (off_at l i) (off_at l (i + 1))

unfoldable pub bad : List ℕ → ℕ → Bool
bad l i = is_err (entry_rule l i)

-- the first entry before the last that is refused, or the last
unfoldable pub bad_entry : List ℕ → ℕ
bad_entry l = first (bad l) 0 (chunks l)

-- the whole index: entries before the last in turn, then the last id
unfoldable pub index_rule : List ℕ → Result ⊤ Reason
index_rule l =
    Err Reason.IndexCut if ltb (length l) (20 + 12 * chunks l) else
    entry_rule l (bad_entry l) if ltb (bad_entry l) (chunks l) else
    Err Reason.IndexId if not (eqb (id_at l (chunks l)) 0) else
    fine

unfoldable pub index_place : List ℕ → ℕ
index_place l =
    0 if ltb (length l) (20 + 12 * chunks l) else
    bad_entry l

-- the whole index checked: its refusal, or how many entries it has, the last left out
unfoldable pub checked_of : List ℕ → Result ℕ Refusal
checked_of l = refuse (index_rule l) (λ e. Err (refusal e (index_place l))) (Ok (chunks l))

-- the chunk of entry e, and the chunk with the id x: it runs to the next entry's offset
unfoldable pub chunk_at : List ℕ → ℕ → Option Span
chunk_at l e = Some (record { start = off_at l e; end = off_at l (e + 1) })

unfoldable pub chunk_of : List ℕ → ℕ → Option Span
chunk_of l x =
    None if leb (chunks l) (first (is_at l x) 0 (chunks l)) else
    chunk_at l (first (is_at l x) 0 (chunks l))

-- where a chunk starts, and how many bytes it has; 0 where it is absent
abbrev pub start_of : Option Span → ℕ
start_of (Some p) = p.start
start_of None = 0

abbrev pub size_of : Option Span → ℕ
size_of (Some p) = p.end - p.start
size_of None = 0

-- entry k before the last: its id and its chunk; the index's own refusals come first, then whether there is such an entry
unfoldable pub entry_of : List ℕ → ℕ → Entry
entry_of l k = record { id = id_at l k; span = record { start = off_at l k; end = off_at l (k + 1) } }

abbrev pub not_listed : ℕ → Reason → Result (Option Entry) Refusal
not_listed place e = Err (refusal e place)

unfoldable pub nth_of : List ℕ → ℕ → Result (Option Entry) Refusal
nth_of l k = refuse (index_rule l) (not_listed (index_place l)) (Ok (None if leb (chunks l) k else Some (entry_of l k)))

-- what a sound index gives: each chunk lies between the index and the file's end, and the last of them where the trailer begins
pub record Indexed (l : List ℕ) : Type 0 where
  pub room : 20 + 12 * chunks l ≤ length l
  pub low : (i : ℕ) → i < chunks l → 20 + 12 * chunks l ≤ off_at l i
  pub order : (i : ℕ) → i < chunks l → off_at l i ≤ off_at l (i + 1)
  pub within : (i : ℕ) → i < chunks l → off_at l (i + 1) ≤ length l

-- a chunk within n bytes, and, where it is not absent, not before low
pub record Lies (n low : ℕ) (c : Option Span) : Type 0 where
  pub above : is_none c ≡ false → low ≤ start_of c
  pub inside : start_of c + size_of c ≤ n
