-- Things that lie end to end: how much comes before each.
use Rattle.std.specs.Prelude.{ℕ, zero, suc, ◌+◌, ◌-◌, Bool, ltb}
use Rattle.words.specs.First.{first}

-- the sum of what comes before k
unfoldable pub before : (ℕ → ℕ) → ℕ → ℕ
before count zero = 0
before count (suc k) = before count k + count k

-- position g stands in k or earlier; which of n it stands in, and its position there
unfoldable pub up_to : (ℕ → ℕ) → ℕ → ℕ → Bool
up_to count g k = ltb g (before count (k + 1))

unfoldable pub which_of : (ℕ → ℕ) → ℕ → ℕ → ℕ
which_of count n g = first (up_to count g) 0 n

unfoldable pub within_of : (ℕ → ℕ) → ℕ → ℕ → ℕ
within_of count n g = g - before count (which_of count n g)
