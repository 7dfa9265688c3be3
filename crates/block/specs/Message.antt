-- The blocks of 64 bytes of a message, over the step that one block makes: FIPS 180-4, section 5.2.1 and the outer loop of 6.1.2.
use Rattle.std.specs.Prelude.{ℕ, zero, suc, ◌*◌, ◌/◌, List, length, take, drop}

-- 5.2.1: block i of a message
unfoldable pub block : List ℕ → ℕ → List ℕ
block m i = take 64 (drop (64 * i) m)

-- 6.1.2: the words after the first n blocks, and after all whole blocks
unfoldable pub after : (List ℕ → List ℕ → List ℕ) → List ℕ → List ℕ → ℕ → List ℕ
after step h m zero = h
after step h m (suc n) = step (after step h m n) (block m n)

unfoldable pub after_all : (List ℕ → List ℕ → List ℕ) → List ℕ → List ℕ → List ℕ
after_all step h m = after step h m (length m / 64)
