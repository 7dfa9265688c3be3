-- What stands behind a message, and the bytes of words: FIPS 180-4, sections 5.1.1 and 3.1.
use Rattle.std.specs.Prelude.{ℕ, ◌+◌, ◌*◌, ◌%◌, Bool, List, [], ◌∷◌, ◌++◌, replicate, ◌==◌}
use Rattle.words.specs.Big.{bytes_of}
use Rattle.words.specs.First.{first}

-- 5.1.1: behind a message of n bytes stand a one bit and seven zero bits, the fewest zero bytes that leave eight bytes of a block
-- (448 modulo 512 bits), and the length in bits as a number of 64 bits
unfoldable pub fills : ℕ → ℕ → Bool
fills n z = (n + 1 + z) % 64 == 56

unfoldable pub padding : ℕ → List ℕ
padding n = (0x80 ∷ replicate (first (fills n) 0 64) 0) ++ bytes_of 8 (8 * n)

-- 3.1: the bytes of words of 32 bits, the highest first
unfoldable pub bytes : List ℕ → List ℕ
bytes [] = []
bytes (w ∷ ws) = bytes_of 4 w ++ bytes ws
