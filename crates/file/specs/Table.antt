-- Opening one file: document 01's table of refusals, 1 to 22 (6 to 9 are in crate chunk). Each table has the paper's rows in the paper's
-- order. The fields are gitformat-commit-graph's: HEADER, OIDF, OIDL, CDAT, EDGE, BASE, TRAILER. w is the width of an id.
use Rattle.std.specs.Prelude.{ℕ, ◌+◌, ◌-◌, ◌*◌, ◌/◌, ◌%◌, List, Bool, true, not, ◌&&◌, length, get_or, take, drop, ltb, eqb}
use Rattle.std.specs.Prelude.{Option, is_none, Result, Ok, Err, ⊤}
use Rattle.words.specs.Big.{be}
use Rattle.words.specs.First.{◌if◌else◌, fine, refuse, first}
use Rattle.types.specs.Refusals.{refusal}
use Rattle.types.specs.declared.refusal.Reason.{Reason}
use Rattle.types.specs.declared.refusal.Refusal.{Refusal}
use Rattle.chunk.specs.Index.{chunks, off_at, chunk_of, start_of, size_of, index_rule, index_place}
use Rattle.chunk.specs.declared.Span.{Span}
use Rattle.file.specs.declared.File.{File}
use Rattle.file.specs.declared.rules.Index.{Index}

-- the base count B, and the width of an id: 20 for hash version 1
abbrev pub bases : List ℕ → ℕ
bases l = get_or l 7 0

unfoldable pub width : List ℕ → ℕ
width l = 20

unfoldable pub header : List ℕ → Result ⊤ Reason
header l =
    Err Reason.TooLarge if ltb 1073741824 (length l) else
    Err Reason.TooSmall if ltb (length l) 1100 else
    Err Reason.Signature if not (eqb (be 4 l 0) 0x43475048) else
    Err Reason.Version if not (eqb (get_or l 4 0) 1) else
    Err Reason.HashVersion if not (eqb (get_or l 5 0) 1) else
    fine

-- the chunks that opening asks for: BASE, CDAT, OIDF, OIDL, EDGE
unfoldable pub index_of : List ℕ → Index
index_of l =
    record {
      base = chunk_of l 0x42415345;
      cdat = chunk_of l 0x43444154;
      oidf = chunk_of l 0x4f494446;
      oidl = chunk_of l 0x4f49444c;
      edge = chunk_of l 0x45444745;
    }

-- a chunk's own bytes
abbrev pub part_of : List ℕ → Option Span → List ℕ
part_of l c = take (size_of c) (drop (start_of c) l)

unfoldable pub base_rules : ℕ → ℕ → Option Span → Result ⊤ Reason
base_rules w b c =
    fine if is_none c else
    Err Reason.BaseSize if not (eqb (size_of c % w) 0) else
    Err Reason.BaseCount if not (eqb (size_of c / w) b) else
    fine

unfoldable pub chunk_rules : ℕ → ℕ → ℕ → Index → Result ⊤ Reason
chunk_rules w b rest x =
    Err Reason.CdatMissing if is_none x.cdat else
    Err Reason.CdatSize if not (eqb (size_of x.cdat % (w + 16)) 0) else
    Err Reason.OidfMissing if is_none x.oidf else
    Err Reason.OidfSize if not (eqb (size_of x.oidf) 1024) else
    Err Reason.OidlMissing if is_none x.oidl else
    Err Reason.OidlSize if not (eqb (size_of x.oidl % w) 0) else
    Err Reason.TrailerSize if not (eqb rest w) else
    Err Reason.BaseMissing if (is_none x.base) && (ltb 0 b) else
    fine

-- fan entry i of the OIDF chunk's bytes p is above the next; the first such entry, or 255; the same where 20 is tried, else 255
unfoldable pub falls : List ℕ → ℕ → Bool
falls p i = ltb (be 4 p (4 * (i + 1))) (be 4 p (4 * i))

unfoldable pub peak : List ℕ → ℕ
peak p = first (falls p) 0 255

unfoldable pub peak_by : Bool → List ℕ → ℕ
peak_by t p = peak p if t else 255

-- N, the last fan entry
abbrev pub last : List ℕ → ℕ
last p = be 4 p 1020

unfoldable pub count_rules : ℕ → ℕ → Index → Result ⊤ Reason
count_rules w n x =
    Err Reason.OidlCount if not (eqb (size_of x.oidl / w) n) else
    Err Reason.CdatCount if not (eqb (size_of x.cdat / (w + 16)) n) else
    fine

unfoldable pub file_of : ℕ → ℕ → Index → ℕ → File
file_of w b x n =
    record {
      commits = n;
      bases = b;
      width = w;
      oidf = start_of x.oidf;
      oidl = start_of x.oidl;
      cdat = start_of x.cdat;
      edge = x.edge;
      base = start_of x.base;
    }

-- a refusal at a place
unfoldable pub not_open : ℕ → Reason → Result File Refusal
not_open place e = Err (refusal e place)

unfoldable pub fanned : Bool → ℕ → ℕ → Index → List ℕ → Result File Refusal
fanned t w b x p =
    refuse (Err Reason.FanFalls if ltb (peak_by t p) 255 else fine) (not_open (peak_by t p + 1))
    (refuse (count_rules w (last p) x) (not_open 0)
    (Ok (file_of w b x (last p))))

unfoldable pub chunked : Bool → ℕ → ℕ → List ℕ → Index → Result File Refusal
chunked t w b l x =
    refuse (base_rules w b x.base) (not_open 0)
    (refuse (chunk_rules w b (length l - off_at l (chunks l)) x) (not_open 0)
    (fanned t w b x (part_of l x.oidf)))

-- opening with 20 tried or not, and opening
unfoldable pub opening_by : Bool → List ℕ → Result File Refusal
opening_by t l =
    refuse (header l) (not_open 0)
    (refuse (index_rule l) (not_open (index_place l))
    (chunked t (width l) (bases l) l (index_of l)))

abbrev pub opening : List ℕ → Result File Refusal
opening l = opening_by true l
