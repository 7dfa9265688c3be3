-- What it means that a slice is a part of another one.
use Rattle.std.specs.Prelude.{ℕ, ◌+◌, ◌*◌, Bool, List, ◌≡◌, leb, length, take, drop}
use Rattle.std.specs.Borrow.{Bor}
use Rattle.words.specs.First.{◌if◌else◌}

-- count records of w bytes from at on lie within n bytes
abbrev pub fits : ℕ → ℕ → ℕ → ℕ → Bool
fits n at count w = leb (at + count * w) n

-- r is the part of s of n bytes from k on: in the same block of memory, k bytes after s's own start, and it holds those bytes
pub record PartOf (s : Bor (List ℕ)) (k n : ℕ) (r : Bor (List ℕ)) : Type 0 where
  pub block : r.ref_ptr.0 ≡ s.ref_ptr.0
  pub start : r.ref_ptr.1 ≡ s.ref_ptr.1 + k
  pub bytes : r.now ≡ take n (drop k s.now)

-- r is those records of s, or the empty part at its start where they do not lie in s
abbrev pub RecordsOf : Bor (List ℕ) → ℕ → ℕ → ℕ → Bor (List ℕ) → Type 0
RecordsOf s at count w r =
    PartOf s (at if fits (length s.now) at count w else 0) (count * w if fits (length s.now) at count w else 0) r
