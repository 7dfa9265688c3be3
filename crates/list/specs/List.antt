-- The list of a chain's files: document 01, "The chain", refusals 1 and 30 to 32. A record has z bytes.
use Rattle.std.specs.Prelude.{ℕ, ◌+◌, ◌*◌, ◌/◌, ◌%◌, List, Bool, not, ◌&&◌, length, ltb, eqb, Result, Err, ⊤, is_err}
use Rattle.words.specs.Big.{be}
use Rattle.words.specs.First.{◌if◌else◌, ◌or◌, fine, first}
use Rattle.types.specs.Refusals.{number_in}
use Rattle.types.specs.declared.refusal.Reason.{Reason}
use Rattle.words.specs.Sums.{before}

-- how many records, and what record k says: the file's length, the kind of its name, the hash that it claims, four spare bytes
abbrev pub records_of : ℕ → List ℕ → ℕ
records_of z l = length l / z

abbrev pub length_at : ℕ → List ℕ → ℕ → ℕ
length_at z l k = be 4 l (k * z)

abbrev pub kind_at : ℕ → List ℕ → ℕ → ℕ
kind_at z l k = be 4 l (k * z + 4)

abbrev pub claim_at : ℕ → List ℕ → ℕ → ℕ
claim_at z l k = be 20 l (k * z + 8)

abbrev pub spare_at : ℕ → List ℕ → ℕ → ℕ
spare_at z l k = be 4 l (k * z + 28)

-- record k
unfoldable pub record_rule : ℕ → List ℕ → ℕ → Result ⊤ Reason
record_rule z l k =
    Err Reason.ListRecord if ltb 2 (kind_at z l k) else
    Err Reason.ListRecord if (not (eqb (kind_at z l k) 1)) && (not (eqb (claim_at z l k) 0)) else
    Err Reason.ListRecord if ltb 0 (spare_at z l k) else
    fine

unfoldable pub flawed : ℕ → List ℕ → ℕ → Bool
flawed z l k = is_err (record_rule z l k)

-- the list's size, where the chain has n bytes
unfoldable pub size_rule : ℕ → ℕ → List ℕ → Result ⊤ Reason
size_rule z n l =
    Err Reason.TooLarge if ltb 1073741824 n else
    Err Reason.ListSize if eqb (length l) 0 else
    Err Reason.ListSize if not (eqb (length l % z) 0) else
    Err Reason.ListSize if ltb 256 (records_of z l) else
    fine

-- the first record that breaks the layout; then the lengths add up to the chain's size
unfoldable pub bad_record : ℕ → List ℕ → ℕ
bad_record z l = first (flawed z l) 0 (records_of z l)

unfoldable pub list_rule : ℕ → ℕ → List ℕ → Result ⊤ Reason
list_rule z n l =
    size_rule z n l or
    (Err Reason.ListRecord if ltb (bad_record z l) (records_of z l) else
    Err Reason.ListSum if not (eqb (before (length_at z l) (records_of z l)) n) else
    fine)

-- the place of 31 is the record
unfoldable pub list_place : ℕ → ℕ → List ℕ → ℕ
list_place z n l = bad_record z l if eqb (number_in (list_rule z n l)) 31 else 0
