-- What the tests of the list say of numbers that were read, and what its rules give where they refuse nothing.
use Rattle.std.proofs.Common.{ℕ, ◌+◌, ◌-◌, ◌*◌, ◌≤◌, ◌<◌, List, false, ◌≡◌, arith, mul-le-mul, eqb, length, Bor, Ok, Err}
use Rattle.types.specs.Refusals.{refusal, refused_at, number_in}
use Rattle.types.specs.declared.refusal.Reason.{Reason}
use Rattle.words.specs.Big.{number}
use Rattle.words.specs.First.{◌if◌else◌, ◌or◌, fine, first}
use Rattle.words.specs.Part.{RecordsOf}
use Rattle.words.specs.Sums.{before}
use Rattle.words.proofs.Parts.{run_in, part_number}
use Rattle.words.proofs.Searches.{first_stop, first_step, first_ends}
use Rattle.list.specs.List.{records_of, length_at, claim_at, record_rule, flawed, size_rule, bad_record, list_rule, list_place}

-- a product of two numbers of 32 bits
pub square : (k z : ℕ) → k < 4294967296 → z < 4294967296 → k * z ≤ 18446744065119617025
square k z h g = mul-le-mul {n₁ = k} {m₁ = z} {n₂ = 4294967295} {m₂ = 4294967295} (omega arith) (omega arith)

-- the hash bytes of a record as a number
pub claim_number : {s r : Bor (List ℕ)} (z k : ℕ) → k * z + 28 ≤ length s.now → RecordsOf s (k * z + 8) 20 1 r
    → number r.now ≡ claim_at z s.now k
claim_number {s} {r} z k h p = part_number (run_in s r (k * z + 8) 20 (omega arith) p) (omega arith)

-- what a size that is not refused gives
pub size_fine : (z n : ℕ) (l : List ℕ) → size_rule z n l ≡ fine → (n ≤ 1073741824) × (records_of z l ≤ 256)
unfolding size_rule ◌if◌else◌
size_fine z n l e = grind arith

-- a record is refused by 31 alone
record_other : (z : ℕ) (l : List ℕ) (k : ℕ) {e : Reason} → record_rule z l k ≡ Err e → e ≡ Reason.ListRecord
unfolding record_rule ◌if◌else◌
record_other z l k p = grind arith

-- a size is refused by another number than 31
size_other : (z n : ℕ) (l : List ℕ) → eqb (number_in (size_rule z n l)) 31 ≡ false
unfolding size_rule ◌if◌else◌
size_other z n l = grind arith

module _ (z n : ℕ) (l : List ℕ) where
  pub list_size : {e : Reason} → size_rule z n l ≡ Err e → Err (refusal e 0) ≡ refused_at (list_rule z n l) (list_place z n l)
  unfolding list_rule list_place ◌or◌ ◌if◌else◌
  list_size {e} p = grind (arith, size_other)

  module _ (p : size_rule z n l ≡ fine) where
    -- no record before k breaks the layout, and record k does
    pub list_record : (k : ℕ) {e : Reason} → k < records_of z l → first (flawed z l) 0 (records_of z l) ≡ first (flawed z l) k (records_of z l - k)
        → record_rule z l k ≡ Err e → Err (refusal e k) ≡ refused_at (list_rule z n l) (list_place z n l)
    unfolding list_rule list_place bad_record flawed ◌or◌ ◌if◌else◌
    list_record k h q r = grind (arith, first_stop, record_other)

    module _ (q : records_of z l ≤ bad_record z l) where
      pub list_sum : (before (length_at z l) (records_of z l) ≡ n → ⊥)
          → Err (refusal Reason.ListSum 0) ≡ refused_at (list_rule z n l) (list_place z n l)
      unfolding list_rule list_place ◌or◌ ◌if◌else◌
      list_sum h = grind arith

      pub list_fine : before (length_at z l) (records_of z l) ≡ n → Ok tt ≡ refused_at (list_rule z n l) (list_place z n l)
      unfolding list_rule list_place ◌or◌ ◌if◌else◌
      list_fine h = grind arith

-- what a list that is not refused gives: the chain's size, the number of records, and that the lengths add up
pub list_sound : (z n : ℕ) (l : List ℕ) → list_rule z n l ≡ fine
    → (n ≤ 1073741824) × (records_of z l ≤ 256) × (before (length_at z l) (records_of z l) ≡ n)
unfolding list_rule ◌or◌ ◌if◌else◌
list_sound z n l e = grind (arith, size_fine)

-- how a check goes through the list's rules
pub ruleset checking = (size_fine, list_size, list_record, list_sum, list_fine, first_step, first_ends)
