-- Where things stand in a file's bytes: l is those bytes, f the file's record, i the position of a commit in it.
use Rattle.std.specs.Prelude.{ℕ, ◌+◌, ◌-◌, ◌*◌, ◌%◌, ◌≤◌, List, ◌≡◌, length, ltb, Option, Some, None, Result, Ok, Err, ⊤, is_ok}
use Rattle.types.specs.Refusals.{refusal}
use Rattle.types.specs.declared.refusal.Reason.{Reason}
use Rattle.types.specs.declared.refusal.Refusal.{Refusal}
use Rattle.words.specs.Big.{be}
use Rattle.words.specs.First.{◌if◌else◌, fine, refuse}
use Rattle.chunk.specs.Index.{start_of}
use Rattle.chunk.specs.declared.Span.{Span}
use Rattle.fit.specs.Fits.{ask_rule, fan_part, ids_part, rows_part}
use Rattle.file.specs.declared.File.{File}
use Rattle.commit.specs.Commits.{row_of}
use Rattle.commit.specs.declared.ParentEdge.{ParentEdge}
use Rattle.commit.specs.declared.ParentEdge.TheVariants.{None as Nothing, GraphPosition, ExtraEdgeIndex}
use Rattle.parents.specs.Walks.{step_of}
use Rattle.steps.specs.declared.Parent.{Parent as Ancestor}
use Rattle.steps.specs.declared.Phase.{Phase}
use Rattle.steps.specs.declared.Phase.TheVariants.{First, Second, Edge, Exhausted}
use Rattle.rules.specs.Rules.{sum_rule, entry_rule}
use Rattle.marks.specs.declared.Checked.{Checked}
use Rattle.marks.specs.declared.Checked.TheVariants.{Right, Wrong}

-- where the bytes stand that answer a question, where any do, or a refusal
abbrev pub Mark : Type 0
Mark = Result (Option Span) Refusal

-- n bytes from a place on
abbrev pub run : ℕ → ℕ → Span
run at n = record { start = at; end = at + n }

-- CDAT: o bytes behind the tree of commit i; two parent words at 0 and 4, the date at 8. EDGE: word k
abbrev pub field_at : File → ℕ → ℕ → ℕ
field_at f i o = f.cdat + (i * (f.width + 16) + (f.width + o))

abbrev pub edge_at : File → ℕ → ℕ
edge_at f k = start_of f.edge + 4 * k

-- ── a parent ──

-- the word that a step reads from second, by what the second parent word says, and from each phase; 0 where it reads none
unfoldable pub second_at : File → ℕ → ParentEdge → ℕ
second_at f i Nothing = 0
second_at f i (GraphPosition p) = field_at f i 4
second_at f i (ExtraEdgeIndex k) = edge_at f k

unfoldable pub place_of : List ℕ → File → ℕ → Phase → ℕ
place_of l f i First = field_at f i 0
place_of l f i Second = second_at f i (row_of l f i).second
place_of l f i (Edge k) = edge_at f k
place_of l f i Exhausted = 0

-- a step's answer, with the place of a parent for the parent
unfoldable pub mark_by : Result (Option Ancestor) Refusal → ℕ → ℕ → Mark
mark_by (Ok (Some q)) at n = Ok (Some (run at n))
mark_by (Ok None) at n = Ok None
mark_by (Err r) at n = Err r

unfoldable pub word_of : List ℕ → File → ℕ → Phase → Mark
word_of l f i s = mark_by (step_of l f i s).answer (place_of l f i s) 4

-- the step answers a parent
abbrev pub Meets : List ℕ → File → ℕ → Phase → Type 0
Meets l f i s = (q : Ancestor) × ((step_of l f i s).answer ≡ Ok (Some q))

-- four bytes of the file, and the step answers the word there without its top bit
pub record Reads (l : List ℕ) (f : File) (i : ℕ) (s : Phase) (p : Span) : Type 0 where
  pub four : p.end ≡ p.start + 4
  pub inside : p.end ≤ length l
  pub parent : (step_of l f i s).answer ≡ Ok (Some (record { position = record { 0 = be 4 l p.start % 0x80000000 } }))

unfoldable pub Read : List ℕ → File → ℕ → Phase → Mark → Type 0
Read l f i s m = (p : Span) → m ≡ Ok (Some p) → Reads l f i s p

-- ── a date: generation and time, 8 bytes ──

abbrev pub not_marked : Reason → Mark
not_marked e = Err (refusal e 0)

unfoldable pub date_of : List ℕ → File → ℕ → Mark
date_of l f i = refuse (ask_rule l f f.commits i) not_marked (Ok (Some (run (field_at f i 8) 8)))

-- ── an entry: 40 with place 0, then 64 to 67 with the commit as place ──

abbrev pub not_fine : ℕ → Reason → Result ⊤ Refusal
not_fine place e = Err (refusal e place)

unfoldable pub entry_of : List ℕ → File → ℕ → Result ⊤ Refusal
entry_of l f i =
    refuse (ask_rule l f f.commits i) (not_fine 0)
    (refuse (entry_rule f.width (fan_part l f) (ids_part l f) (rows_part l f) i) (not_fine i)
    fine)

-- ── the trailer: the last 20 bytes, of any bytes whose number is a file's ──

unfoldable pub size_rule : List ℕ → Result ⊤ Reason
size_rule l =
    Err Reason.TooLarge if ltb 1073741824 (length l) else
    Err Reason.TooSmall if ltb (length l) 1100 else
    fine

abbrev pub not_checked : Reason → Result Checked Refusal
not_checked e = Err (refusal e 0)

abbrev pub trailer_at : List ℕ → Span
trailer_at l = record { start = length l - 20; end = length l }

-- right exactly if 62 does not apply
unfoldable pub check_of : List ℕ → Result Checked Refusal
check_of l =
    refuse (size_rule l) not_checked
    (Ok (Right (trailer_at l) if is_ok (sum_rule 20 l) else Wrong (trailer_at l)))
