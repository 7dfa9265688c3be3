-- A file's name: gitformat-commit-graph and the design of split chains name a file graph-{hash}.graph; document 01, "The chain".
use Rattle.std.specs.Prelude.{ℕ, zero, suc, ◌+◌, ◌-◌, ◌*◌, List, [], ◌∷◌, ◌++◌, not, nat_eq, codes, length, get_or, take, drop, ltb, eqb}
use Rattle.std.specs.Prelude.{Option, None, Some, is_some, unwrap_or, if◌then◌else◌}
use Rattle.std.specs.List.{starts_with, ends_with, list_all}
use Rattle.name.specs.declared.Name.{Name}
use Rattle.name.specs.declared.Name.TheVariants.{Other, Claims, Hashless}

-- the value of a hex digit of either case
abbrev pub digit_of : ℕ → Option ℕ
digit_of b =
    if ltb b 0x30 then None else
    if ltb b 0x3a then Some (b - 0x30) else
    if ltb b 0x41 then None else
    if ltb b 0x47 then Some (b - 55) else
    if ltb b 0x61 then None else
    if ltb b 0x67 then Some (b - 87) else
    None

-- byte n of the hash that digits d make two by two, and the first n bytes
abbrev pub hash_byte : List ℕ → ℕ → ℕ
hash_byte d n = 16 * unwrap_or (digit_of (get_or d (2 * n) 0)) 0 + unwrap_or (digit_of (get_or d (2 * n + 1) 0)) 0

unfoldable pub hash_of : List ℕ → ℕ → List ℕ
hash_of d zero = []
hash_of d (suc n) = hash_of d n ++ (hash_byte d n ∷ [])

-- the hash that 40 bytes make, if all of them are digits
abbrev pub claim_of : List ℕ → Option (List ℕ)
claim_of d = if list_all (λ b. is_some (digit_of b)) d then Some (hash_of d 20) else None

-- what a name says: whether it has the shape, and what the middle claims
abbrev pub claims : Option (List ℕ) → Name
claims (Some h) = Claims h
claims None = Hashless

abbrev pub name_of : List ℕ → Name
name_of l =
    if not (starts_with nat_eq l (codes "graph-")) then Other else
    if not (ends_with nat_eq l (codes ".graph")) then Other else
    if not (eqb (length l) 52) then Hashless else
    claims (claim_of (take 40 (drop 6 l)))
