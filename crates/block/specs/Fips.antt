-- What SHA-1 does with one block, as FIPS 180-4 defines it. A word is a number below 2 ^ 32, and each definition names its section.
use Rattle.std.specs.Prelude.{ℕ, zero, suc, ◌+◌, ◌-◌, ◌*◌, ◌/◌, ◌%◌, ◌^◌, List, [], ◌∷◌, ◌++◌, bit_and, bit_or, bit_xor, nat_lt, slice_index}
use Rattle.words.specs.Big.{be}
use Rattle.words.specs.First.{◌if◌else◌}

-- 2.2.2, 3.2: addition modulo 2 ^ 32, the complement, and the rotation of x left by n bits, which is (x << n) | (x >> 32 - n)
abbrev pub plus : ℕ → ℕ → ℕ
plus x y = (x + y) % 2 ^ 32

abbrev pub complement : ℕ → ℕ
complement x = 2 ^ 32 - 1 - x

abbrev pub rotl : ℕ → ℕ → ℕ
rotl n x = bit_or (x * 2 ^ n % 2 ^ 32) (x / 2 ^ (32 - n))

-- 4.1.1: the functions of the rounds
abbrev pub ch : ℕ → ℕ → ℕ → ℕ
ch x y z = bit_xor (bit_and x y) (bit_and (complement x) z)

abbrev pub parity : ℕ → ℕ → ℕ → ℕ
parity x y z = bit_xor (bit_xor x y) z

abbrev pub maj : ℕ → ℕ → ℕ → ℕ
maj x y z = bit_xor (bit_xor (bit_and x y) (bit_and x z)) (bit_and y z)

unfoldable pub f : ℕ → ℕ → ℕ → ℕ → ℕ
f t x y z =
    ch x y z if nat_lt t 20 else
    parity x y z if nat_lt t 40 else
    maj x y z if nat_lt t 60 else
    parity x y z

-- 4.2.1: the constants
unfoldable pub k : ℕ → ℕ
k t =
    0x5a827999 if nat_lt t 20 else
    0x6ed9eba1 if nat_lt t 40 else
    0x8f1bbcdc if nat_lt t 60 else
    0xca62c1d6

-- 6.1.2, step 1: word t of the schedule of the block m, from the t words before it; then the first t words
unfoldable pub next : List ℕ → List ℕ → ℕ → ℕ
next m ws t =
    be 4 m (4 * t) if nat_lt t 16 else
    rotl 1 (bit_xor (bit_xor (bit_xor (slice_index ws (t - 3)) (slice_index ws (t - 8))) (slice_index ws (t - 14))) (slice_index ws (t - 16)))

unfoldable pub schedule : List ℕ → ℕ → List ℕ
schedule m zero = []
schedule m (suc t) = schedule m t ++ (next m (schedule m t) t ∷ [])

-- 6.1.2, step 3: a round, on the words a b c d e; then the first t rounds, steps 2 and 3
unfoldable pub round : ℕ → ℕ → List ℕ → List ℕ
round t w s =
    plus (plus (plus (plus (rotl 5 (slice_index s 0)) (f t (slice_index s 1) (slice_index s 2) (slice_index s 3))) (slice_index s 4)) (k t)) w
    ∷ slice_index s 0 ∷ rotl 30 (slice_index s 1) ∷ slice_index s 2 ∷ slice_index s 3 ∷ []

unfoldable pub rounds : List ℕ → List ℕ → ℕ → List ℕ
rounds ws h zero = h
rounds ws h (suc t) = round t (slice_index ws t) (rounds ws h t)

-- 6.1.2, step 4: the sums
unfoldable pub sums : List ℕ → List ℕ → List ℕ
sums s h =
    plus (slice_index s 0) (slice_index h 0) ∷ plus (slice_index s 1) (slice_index h 1) ∷ plus (slice_index s 2) (slice_index h 2)
    ∷ plus (slice_index s 3) (slice_index h 3) ∷ plus (slice_index s 4) (slice_index h 4) ∷ []

-- 6.1.2: the five words after a block
unfoldable pub compress : List ℕ → List ℕ → List ℕ
compress h m = sums (rounds (schedule m 80) h 80) h
