-- The statistics of the commits below n: how many have each count of parents, and the lowest generation.
use Rattle.std.specs.Prelude.{ℕ, zero, suc, ◌+◌, min, List, [], ◌∷◌, leb, eqb}
use Rattle.words.specs.First.{◌if◌else◌}

-- "commits with 0 to 64 parents, and with more than 64": which of the 66 counts a commit with n parents is in
unfoldable pub key_of : ℕ → ℕ
key_of n = n if leb n 64 else 65

-- how many of f 0 .. f (n - 1) are j
unfoldable pub count_up : (ℕ → ℕ) → ℕ → ℕ → ℕ
count_up f zero j = 0
count_up f (suc n) j = count_up f n j + (1 if eqb (f n) j else 0)

-- the numbers g 0 .. g (m - 1)
unfoldable pub table : (ℕ → ℕ) → ℕ → List ℕ
table g zero = []
table g (suc m) = g 0 ∷ table (λ i. g (suc i)) m

-- "a table of 66 counts": of the commits below n, where commit c is in count `key c`
abbrev pub counts_of : (ℕ → ℕ) → ℕ → List ℕ
counts_of key n = table (count_up key n) 66

-- "lowest generation", of the commits below n; 0 for none
unfoldable pub lowest_below : (ℕ → ℕ) → ℕ → ℕ
lowest_below gen zero = 0
lowest_below gen (suc zero) = gen 0
lowest_below gen (suc (suc n)) = min (lowest_below gen (suc n)) (gen (suc n))
