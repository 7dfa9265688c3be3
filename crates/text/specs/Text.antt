-- Text in a buffer: a number's decimal digits, and a text written at a place of the buffer, if it fits there.
use Rattle.std.specs.Prelude.{ℕ, zero, suc, ◌+◌, ◌/◌, ◌%◌, Bool, List, [], ◌∷◌, ◌++◌, leb, ltb, length, take, drop}
use Rattle.words.specs.First.{◌if◌else◌}

-- the digits of n, the highest first, each as its ASCII code, in at most k + 1 digits; n + 1 are always enough
unfoldable pub digits : ℕ → ℕ → List ℕ
digits zero n = (48 + n) ∷ []
digits (suc k) n = (48 + n) ∷ [] if ltb n 10 else digits k (n / 10) ++ ((48 + n % 10) ∷ [])

-- n in decimal: below 10 one digit, else n / 10 in decimal and the digit n % 10 (the laws dec_small and dec_more)
unfoldable pub dec : ℕ → List ℕ
dec n = digits n n

-- the text s, from at on, lies within m bytes
abbrev pub fits : ℕ → ℕ → List ℕ → Bool
fits m at s = leb (at + length s) m

-- what the buffer out holds after s was written at the place at: out as it was where s does not fit
unfoldable pub written : List ℕ → ℕ → List ℕ → List ℕ
written out at s = take at out ++ s ++ drop (at + length s) out if fits (length out) at s else out

-- the place behind s in a buffer of m bytes: at itself where s does not fit
unfoldable pub after : ℕ → ℕ → List ℕ → ℕ
after m at s = at + length s if fits m at s else at
