-- SHA-1 as FIPS 180-4 defines it: the first five words. What one block does is in the crate `block`, the digest in the crate `digest`.
use Rattle.std.specs.Prelude.{ℕ, List, [], ◌∷◌}

-- 5.3.1: the first five words
unfoldable pub initial : List ℕ
initial = 0x67452301 ∷ 0xefcdab89 ∷ 0x98badcfe ∷ 0x10325476 ∷ 0xc3d2e1f0 ∷ []
