-- Laws of numbers in decimal: the two equations of dec, its length, how to compute it, and examples.
use Rattle.std.proofs.Common.{ℕ, zero, suc, ◌+◌, ◌/◌, ◌%◌, ◌^◌, ◌≤◌, ◌<◌, [], ◌∷◌, ◌++◌, ◌≡◌, refl, ⊎_elim, arith, lt-ltb, le-ltb, length}
use Rattle.std.proofs.Common.{length-append}
use Rattle.words.specs.First.{◌if◌else◌}
use Rattle.std.proofs.lemmas.Bool.{cases_lt}
use Rattle.text.specs.Text.{digits, dec}

-- more digits than are needed change nothing
enough : (k j n : ℕ) → n < 10 ^ suc k → n < 10 ^ suc j → digits k n ≡ digits j n
unfolding digits ◌if◌else◌
enough zero zero n h g = refl
enough zero (suc j) n h g = rw (lt-ltb n 10 (omega arith))
enough (suc k) zero n h g = rw (lt-ltb n 10 (omega arith))
enough (suc k) (suc j) n h g =
    ⊎_elim
    (λ (e : n < 10). rw (lt-ltb n 10 e))
    (λ (e : 10 ≤ n). rw (enough k j (n / 10) (omega arith) (omega arith)))
    (cases_lt n 10)

below : (n : ℕ) → n < 10 ^ suc n
below zero = omega arith
below (suc n) = omega (arith, below n)

-- a number below 10 is one digit
pub dec_small : (n : ℕ) → n < 10 → dec n ≡ (48 + n) ∷ []
unfolding dec digits ◌if◌else◌
dec_small zero h = refl
dec_small (suc n) h = rw (lt-ltb (suc n) 10 h)

-- any other is a tenth of it and then the last digit
pub dec_more : (n : ℕ) → 10 ≤ n → dec n ≡ dec (n / 10) ++ ((48 + n % 10) ∷ [])
unfolding dec digits ◌if◌else◌
dec_more zero h = absurd (omega arith)
dec_more (suc n) h = rw (le-ltb (suc n) 10 h, enough n (suc n / 10) (suc n / 10) (omega (arith, below (suc n))) (below (suc n / 10)))

-- where the digits that are enough are known, dec computes
pub dec_in : (k n : ℕ) → n < 10 ^ suc k → dec n ≡ digits k n
unfolding dec
dec_in k n h = enough n k n (below n) h

digits_length : (k n : ℕ) → length (digits k n) ≤ suc k
unfolding digits ◌if◌else◌
digits_length zero n = omega arith
digits_length (suc k) n =
    ⊎_elim
    (λ (e : n < 10). rw (lt-ltb n 10 e) (omega arith))
    (λ (e : 10 ≤ n). rw (le-ltb n 10 e) (simp length-append (omega (arith, digits_length k (n / 10)))))
    (cases_lt n 10)

pub dec_length : (n : ℕ) → n < 18446744073709551616 → length (dec n) ≤ 20
dec_length n h = rw (dec_in 19 n (omega arith)) (digits_length 19 n)

pub dec_length_32 : (n : ℕ) → n < 4294967296 → length (dec n) ≤ 10
dec_length_32 n h = rw (dec_in 9 n (omega arith)) (digits_length 9 n)

pub dec_some : (n : ℕ) → 0 < length (dec n)
dec_some n =
    ⊎_elim
    (λ (e : n < 10). rw (dec_small n e) (omega arith))
    (λ (e : 10 ≤ n). rw (dec_more n e) (simp length-append (omega arith)))
    (cases_lt n 10)

-- "0", "7", "10", "1073741823"
dec_0 : dec 0 ≡ 48 ∷ []
unfolding dec digits
dec_0 = refl

dec_7 : dec 7 ≡ 55 ∷ []
unfolding dec digits ◌if◌else◌
dec_7 = refl

dec_10 : dec 10 ≡ 49 ∷ 48 ∷ []
unfolding dec digits ◌if◌else◌
dec_10 = refl

dec_cap : dec 1073741823 ≡ 49 ∷ 48 ∷ 55 ∷ 51 ∷ 55 ∷ 52 ∷ 49 ∷ 56 ∷ 50 ∷ 51 ∷ []
unfolding digits ◌if◌else◌
dec_cap = dec_in 9 1073741823 (omega arith)
