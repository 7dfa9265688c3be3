-- Laws of sums, and of positions in things that lie end to end: each position below the sum stands in exactly one, and back.
use Rattle.std.proofs.Common.{ℕ, zero, suc, ◌+◌, ◌*◌, ◌≤◌, ◌<◌, ◌≡◌, refl, ⊎_elim, arith, eq-or-lt_of_le, le_refl, suc-mul, add-one, lt-ltb, le-ltb}
use Rattle.std.proofs.Common.{ltb-true, ltb-false}
use Rattle.words.specs.First.{first}
use Rattle.words.specs.Sums.{before, up_to, which_of, within_of}
use Rattle.std.proofs.lemmas.Bool.{cases_lt}
use Rattle.words.proofs.Searches.{first_hit, first_before, first_is}

module _ (count : ℕ → ℕ) where
  pub before_next : (k : ℕ) → before count (k + 1) ≡ before count k + count k
  unfolding before
  before_next k = rw add-one

  pub before_le : (k m : ℕ) → k ≤ m → before count k ≤ before count m
  unfolding before
  before_le k zero h = let e : k ≡ 0 = omega arith in rw e (le_refl _)
  before_le k (suc m) h =
      ⊎_elim (λ (e : k ≡ suc m). rw e (le_refl _)) (λ (g : k < suc m). omega (arith, before_le k m (omega arith))) (eq-or-lt_of_le h)

  -- one before another ends before the other begins
  pub before_lt : (k m : ℕ) → k < m → before count k + count k ≤ before count m
  before_lt k m h = omega (arith, before_next k, before_le (k + 1) m (omega arith))

  -- each summand is bounded: so is the sum
  pub before_bound : (most : ℕ) → ((k : ℕ) → count k ≤ most) → (n : ℕ) → before count n ≤ n * most
  unfolding before
  before_bound most h zero = omega arith
  before_bound most h (suc n) = omega (arith, before_bound most h n, h n, suc-mul n most)

  -- a position below the sum stands in one of n: not past its end, nor before its start
  module _ (n g : ℕ) (h : g < before count n) where
    pub which_below : which_of count n g < n
    unfolding which_of up_to before
    which_below =
        ⊎_elim
        (λ (z : first (up_to count g) 0 n < n). z)
        (λ (z : n ≤ first (up_to count g) 0 n). absurd (none n h z (le_refl n)))
        (cases_lt _ n)
      where
        none : (m : ℕ) → g < before count m → m ≤ first (up_to count g) 0 n → m ≤ n → ⊥
        none zero a z y = omega arith
        none (suc m) a z y =
            let e : before count (m + 1) ≡ before count (suc m) = rw add-one in
            omega (arith, ltb-false g (before count (m + 1)) (first_before (up_to count g) 0 n m (omega arith) (omega arith)))

    pub which_start : before count (which_of count n g) ≤ g
    unfolding which_of up_to before
    which_start = go _ refl
      where
        go : (k : ℕ) → first (up_to count g) 0 n ≡ k → before count k ≤ g
        go zero e = omega arith
        go (suc m) e =
            let d : before count (m + 1) ≡ before count (suc m) = rw add-one in
            omega (arith, ltb-false g (before count (m + 1)) (first_before (up_to count g) 0 n m (omega arith) (omega arith)))

    pub which_end : g < before count (which_of count n g) + count (which_of count n g)
    unfolding which_of up_to
    which_end =
        let k : ℕ = first (up_to count g) 0 n in
        let b : k < n = which_below in
        omega (arith, before_next k, ltb-true g (before count (k + 1)) (first_hit (up_to count g) 0 n (omega arith)))

    pub within_below : within_of count n g < count (which_of count n g)
    unfolding within_of
    within_below = omega (arith, which_start, which_end)

    pub within_sum : before count (which_of count n g) + within_of count n g ≡ g
    unfolding within_of
    within_sum = omega (arith, which_start)

  -- and back: place i of thing k is in k, at i
  module _ (n k i : ℕ) (b : k < n) (h : i < count k) where
    pub which_back : which_of count n (before count k + i) ≡ k
    unfolding which_of up_to
    which_back =
        first_is _ n k b
        (lt-ltb (before count k + i) (before count (k + 1)) (omega (arith, before_next k)))
        (λ j g. le-ltb (before count k + i) (before count (j + 1)) (omega (arith, before_le (j + 1) k (omega arith))))

    pub within_back : within_of count n (before count k + i) ≡ i
    unfolding within_of
    within_back = rw which_back (omega arith)
