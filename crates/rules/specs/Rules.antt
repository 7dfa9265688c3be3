-- The rules that a file and each of its commits must meet: document 01, refusals 62 to 67.
use Rattle.std.specs.Prelude.{ℕ, ◌+◌, ◌-◌, ◌*◌, List, not, ◌&&◌, length, get_or, take, ltb, leb, eqb, Result, Err, ⊤}
use Rattle.words.specs.Big.{be, number}
use Rattle.words.specs.First.{◌if◌else◌, ◌or◌, fine}
use Rattle.types.specs.declared.refusal.Reason.{Reason}
use Rattle.digest.specs.Fips.{sha1_of}
use Rattle.types.specs.Width.{known}
use Rattle.list.specs.List.{records_of, kind_at, claim_at}
use Rattle.access.specs.Lookup.{key_of, lower, upper}

-- ── the file, of bytes p and ids of w bytes ──

-- its trailer, as a number
abbrev pub trailer_of : ℕ → List ℕ → ℕ
trailer_of w p = be w p (length p - w)

-- 62: it is the SHA-1 of all bytes before it
unfoldable pub sum_rule : ℕ → List ℕ → Result ⊤ Reason
sum_rule w p = Err Reason.Checksum if not (eqb (number (sha1_of (take (length p - w) p))) (trailer_of w p)) else fine

-- 63: record k of the list l has kind 2, or claims another hash
unfoldable pub name_rule : ℕ → ℕ → List ℕ → ℕ → List ℕ → Result ⊤ Reason
name_rule w z l k p =
    Err Reason.Name if eqb (kind_at z l k) 2 else
    Err Reason.Name if (eqb (kind_at z l k) 1) && (not (eqb (claim_at z l k) (trailer_of w p))) else
    fine

-- ── entry c of its chunks OIDF, OIDL and CDAT ──

-- 64: the id is not zero; 65: it is above the one before
unfoldable pub id_rule : ℕ → List ℕ → ℕ → Result ⊤ Reason
id_rule w ids c =
    Err Reason.IdZero if eqb (key_of w ids c) 0 else
    Err Reason.IdOrder if (ltb 0 c) && (leb (key_of w ids c) (key_of w ids (c - 1))) else
    fine

-- 66: the fan bucket of first byte b has position c
unfoldable pub bucket_rule : List ℕ → ℕ → ℕ → Result ⊤ Reason
bucket_rule fan b c =
    Err Reason.IdBucket if ltb c (lower fan b) else
    Err Reason.IdBucket if leb (upper fan b) c else
    fine

-- 67: the tree is not zero
unfoldable pub tree_rule : ℕ → List ℕ → ℕ → Result ⊤ Reason
tree_rule w rows c = Err Reason.TreeZero if eqb (be w rows (c * (w + 16))) 0 else fine

unfoldable pub entry_rule : ℕ → List ℕ → List ℕ → List ℕ → ℕ → Result ⊤ Reason
entry_rule w fan ids rows c = id_rule w ids c or bucket_rule fan (get_or ids (c * w) 0) c or tree_rule w rows c

-- ── on bytes that may be too short, or a record that is not in the list: 40 ──

unfoldable pub trailing : ℕ → List ℕ → Result ⊤ Reason → Result ⊤ Reason
trailing w p rest =
    Err Reason.Position if not (known w) else
    Err Reason.Position if ltb (length p) w else
    rest

unfoldable pub sum_in : ℕ → List ℕ → Result ⊤ Reason
sum_in w p = trailing w p (sum_rule w p)

unfoldable pub name_in : ℕ → ℕ → List ℕ → ℕ → List ℕ → Result ⊤ Reason
name_in w z l k p =
    Err Reason.Position if leb (records_of z l) k else
    trailing w p (name_rule w z l k p)

unfoldable pub entry_in : ℕ → List ℕ → List ℕ → List ℕ → ℕ → Result ⊤ Reason
entry_in w fan ids rows c =
    Err Reason.Position if not (known w) else
    Err Reason.Position if ltb (length fan) 1024 else
    Err Reason.Position if ltb (length ids) (c * w + w) else
    Err Reason.Position if ltb (length rows) (c * (w + 16) + (w + 16)) else
    entry_rule w fan ids rows c
