-- What a file and an entry that no rule refuses are: the facts behind refusals 62 to 67.
use Rattle.std.specs.Prelude.{ℕ, ◌+◌, ◌-◌, ◌*◌, ◌≤◌, ◌<◌, List, ◌≡◌, length, get_or, take}
use Rattle.words.specs.Big.{be, number}
use Rattle.digest.specs.Fips.{sha1_of}
use Rattle.list.specs.List.{kind_at, claim_at}
use Rattle.access.specs.Lookup.{key_of, lower, upper}
use Rattle.rules.specs.Rules.{trailer_of}

-- 62: the trailer of the bytes p is the SHA-1 of all bytes before it
abbrev pub Summed : ℕ → List ℕ → Type 0
Summed w p = number (sha1_of (take (length p - w) p)) ≡ trailer_of w p

-- 63: what record k of the list l says of the file's name
pub record Named (w z : ℕ) (l : List ℕ) (k : ℕ) (p : List ℕ) : Type 0 where
  pub kind : kind_at z l k ≡ 2 → ⊥
  pub claim : kind_at z l k ≡ 1 → claim_at z l k ≡ trailer_of w p

-- 64 to 67: the id is not zero and above the one before, its fan bucket has its position, the tree is not zero
pub record Entry (w : ℕ) (fan ids rows : List ℕ) (c : ℕ) : Type 0 where
  pub id : key_of w ids c ≡ 0 → ⊥
  pub above : 0 < c → key_of w ids (c - 1) < key_of w ids c
  pub low : lower fan (get_or ids (c * w) 0) ≤ c
  pub high : c < upper fan (get_or ids (c * w) 0)
  pub tree : be w rows (c * (w + 16)) ≡ 0 → ⊥
