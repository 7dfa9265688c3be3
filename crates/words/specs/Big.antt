-- Big-endian numbers in a list of bytes.
use Rattle.std.specs.Prelude.{ℕ, zero, suc, ◌+◌, ◌*◌, ◌/◌, ◌%◌, ◌^◌, ◌<◌, List, [], ◌∷◌, length, get_or}

-- the number that the n bytes at i make, the first the highest; a byte past the end counts as 0
unfoldable pub be : ℕ → List ℕ → ℕ → ℕ
be zero l i = 0
be (suc n) l i = be n l i * 256 + get_or l (i + n) 0

-- the number that a whole run makes: an id is this number
abbrev pub number : List ℕ → ℕ
number l = be (length l) l 0

-- the n lowest bytes of a number, the highest of them first
unfoldable pub bytes_of : ℕ → ℕ → List ℕ
bytes_of zero x = []
bytes_of (suc n) x = x / 256 ^ n % 256 ∷ bytes_of n x

-- what a list of bytes is
abbrev pub Bytes : List ℕ → Type 0
Bytes l = (i : ℕ) → get_or l i 0 < 256
