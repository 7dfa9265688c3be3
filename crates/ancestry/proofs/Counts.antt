-- Laws of the statistics: one commit more, what each says of every commit, and that the counts add up.
use Rattle.std.proofs.Common.{ℕ, zero, suc, ◌+◌, ◌-◌, ◌≤◌, ◌<◌, min, max, ◌≡◌, refl, sym, ap, ◌∙◌, subst, ◌⊎◌, inl, inr, ⊎_elim, List, arith}
use Rattle.std.proofs.Common.{eq-or-lt_of_le, le_of_suc-le-suc, eqb, length, get_or, set, replicate, length-set, ext_get_or, get_or-set_same}
use Rattle.std.proofs.Common.{get_or-set_other, le-leb, eq-eqb, ne_eqb}
use native.Mathlib.Decide.{ℕ_discrete}
use lib.ListN.{get_or-replicate}
use borrow.Author.Tests.{lt-leb}
use Rattle.words.specs.First.{◌if◌else◌}
use Rattle.words.specs.Sums.{before}
use Rattle.words.proofs.Numbers.{le_or_lt}
use Rattle.ancestry.specs.Graph.{highest_below}
use Rattle.ancestry.specs.Counts.{key_of, count_up, table, counts_of, lowest_below}

-- what holds below n, and of n, holds below n + 1
below : (P : ℕ → Type 0) (n : ℕ) → ((k : ℕ) → k < n → P k) → P n → (k : ℕ) → k < suc n → P k
below P n f p k h = ⊎_elim (λ (e : k ≡ n). subst P (sym e) p) (f k) (eq-or-lt_of_le (le_of_suc-le-suc h))

-- ── highest and lowest ──

module _ (f : ℕ → ℕ) where
  pub highest_next : (n : ℕ) → highest_below f (suc n) ≡ max (highest_below f n) (f n)
  unfolding highest_below
  highest_next n = refl

  pub lowest_first : lowest_below f 1 ≡ f 0
  unfolding lowest_below
  lowest_first = refl

  pub lowest_next : (n : ℕ) → 0 < n → lowest_below f (suc n) ≡ min (lowest_below f n) (f n)
  unfolding lowest_below
  lowest_next zero h = absurd (omega arith)
  lowest_next (suc n) h = refl

  pub highest_above : (n k : ℕ) → k < n → f k ≤ highest_below f n
  unfolding highest_below
  highest_above zero k h = absurd (omega arith)
  highest_above (suc n) k h = below (λ k. f k ≤ highest_below f (suc n)) n (λ k l. omega (arith, highest_above n k l)) (omega arith) k h

  pub lowest_under : (n k : ℕ) → k < n → lowest_below f n ≤ f k
  unfolding lowest_below
  lowest_under zero k h = absurd (omega arith)
  lowest_under (suc zero) k h = below (λ k. f 0 ≤ f k) 0 (λ k l. absurd (omega arith)) (omega arith) k h
  lowest_under (suc (suc n)) k h =
      below (λ k. lowest_below f (suc (suc n)) ≤ f k) (suc n) (λ k l. omega (arith, lowest_under (suc n) k l)) (omega arith) k h

  -- a running value that is the new number or stays is one of the numbers
  reached : (s : ℕ → ℕ) → s 1 ≡ f 0 → ((n : ℕ) → 0 < n → (s (suc n) ≡ f n) ⊎ (s (suc n) ≡ s n))
      → (n : ℕ) → 0 < n → (k : ℕ) × (k < n) × (f k ≡ s n)
  reached s first next zero h = absurd (omega arith)
  reached s first next (suc zero) h = (0, omega arith, sym first)
  reached s first next (suc (suc n)) h =
      let (k, l, e) = reached s first next (suc n) (omega arith) in
      ⊎_elim
      (λ (q : s (suc (suc n)) ≡ f (suc n)). (suc n, omega arith, sym q))
      (λ (q : s (suc (suc n)) ≡ s (suc n)). (k, omega arith, e ∙ sym q))
      (next (suc n) (omega arith))

  pub highest_at : (n : ℕ) → 0 < n → (k : ℕ) × (k < n) × (f k ≡ highest_below f n)
  unfolding highest_below
  highest_at =
      reached (highest_below f) (omega arith)
      (λ n h. ⊎_elim (λ (l : highest_below f n ≤ f n). inl (omega arith)) (λ (l : f n < highest_below f n). inr (omega arith))
      (le_or_lt (highest_below f n) (f n)))

  -- a highest above 0 has a commit
  pub highest_top : (n : ℕ) → 0 < highest_below f n → (k : ℕ) × (k < n) × (f k ≡ highest_below f n)
  unfolding highest_below
  highest_top zero h = absurd (omega arith)
  highest_top (suc n) h = highest_at (suc n) (omega arith)

  pub lowest_at : (n : ℕ) → 0 < n → (k : ℕ) × (k < n) × (f k ≡ lowest_below f n)
  lowest_at = reached (lowest_below f) lowest_first (λ n h.
      ⊎_elim
      (λ (l : f n ≤ lowest_below f n). inl (omega (arith, lowest_next n h)))
      (λ (l : lowest_below f n < f n). inr (omega (arith, lowest_next n h)))
      (le_or_lt (f n) (lowest_below f n)))

-- ── functions that agree below n ──

module _ (f g : ℕ → ℕ) where
  pub highest_same : (n : ℕ) → ((k : ℕ) → k < n → f k ≡ g k) → highest_below f n ≡ highest_below g n
  unfolding highest_below
  highest_same zero e = refl
  highest_same (suc n) e = rw (highest_same n (λ k l. e k (omega arith)), e n (omega arith))

  pub lowest_same : (n : ℕ) → ((k : ℕ) → k < n → f k ≡ g k) → lowest_below f n ≡ lowest_below g n
  unfolding lowest_below
  lowest_same zero e = refl
  lowest_same (suc zero) e = e 0 (omega arith)
  lowest_same (suc (suc n)) e = rw (lowest_same (suc n) (λ k l. e k (omega arith)), e (suc n) (omega arith))

  pub count_same : (j n : ℕ) → ((k : ℕ) → k < n → f k ≡ g k) → count_up f n j ≡ count_up g n j
  unfolding count_up
  count_same j zero e = refl
  count_same j (suc n) e = rw (count_same j n (λ k l. e k (omega arith)), e n (omega arith))

  before_same : (n : ℕ) → ((k : ℕ) → k < n → f k ≡ g k) → before f n ≡ before g n
  unfolding before
  before_same zero e = refl
  before_same (suc n) e = rw (before_same n (λ k l. e k (omega arith)), e n (omega arith))

-- ── one count ──

pub key_below : (n : ℕ) → key_of n < 66
unfolding key_of ◌if◌else◌
key_below n = ⊎_elim (λ (h : n ≤ 64). rw (le-leb n 64 h) (omega arith)) (λ (h : 64 < n). rw (lt-leb n 64 h) (omega arith)) (le_or_lt n 64)

-- a is b, or is below b: it is below b + 1
pub one_if : (a b : ℕ) → (1 if eqb a b else 0) + min 1 (b - a) ≡ min 1 (suc b - a)
unfolding ◌if◌else◌
one_if a b = go (ℕ_discrete a b)
  where
    go : Dec (a ≡ b) → (1 if eqb a b else 0) + min 1 (b - a) ≡ min 1 (suc b - a)
    go (yes e) = rw (eq-eqb a b e) (omega arith)
    go (no e) = rw (ne_eqb a b e) (omega arith)

module _ (f : ℕ → ℕ) where
  pub count_le : (n j : ℕ) → count_up f n j ≤ n
  unfolding count_up
  count_le zero j = omega arith
  count_le (suc n) j = omega (arith, count_le n j, one_if (f n) j)

  -- the counts below m, and one number more: it is in one of them, if it is below m
  sum_next : (n m : ℕ) → before (count_up f (suc n)) m ≡ before (count_up f n) m + min 1 (m - f n)
  unfolding before count_up
  sum_next n zero = omega arith
  sum_next n (suc m) = omega (arith, sum_next n m, one_if (f n) m)

  sum_none : (m : ℕ) → before (count_up f 0) m ≡ 0
  unfolding before count_up
  sum_none zero = refl
  sum_none (suc m) = omega (arith, sum_none m)

  -- n numbers below m: the counts of each number below m add up to n
  pub sum_counts : (m n : ℕ) → ((k : ℕ) → k < n → f k < m) → before (count_up f n) m ≡ n
  sum_counts m zero h = sum_none m
  sum_counts m (suc n) h = omega (arith, sum_next n m, sum_counts m n (λ k l. h k (omega arith)), h n (omega arith))

-- ── the table ──

pub table_length : (g : ℕ → ℕ) (m : ℕ) → length (table g m) ≡ m
unfolding table
table_length g zero = refl
table_length g (suc m) = ap suc (table_length (λ i. g (suc i)) m)

pub table_at : (g : ℕ → ℕ) (m j : ℕ) → j < m → get_or (table g m) j 0 ≡ g j
unfolding table
table_at g zero j h = absurd (omega arith)
table_at g (suc m) zero h = refl
table_at g (suc m) (suc j) h = table_at (λ i. g (suc i)) m j (omega arith)

-- a list of m numbers that are g's is g's table
pub table_is : (g : ℕ → ℕ) {m : ℕ} (l : List ℕ) → length l ≡ m → ((j : ℕ) → j < m → get_or l j 0 ≡ g j) → table g m ≡ l
table_is g {m} l e h =
    ext_get_or 0 (table g m) l (table_length g m ∙ sym e)
    (λ j b. let k : j < m = omega (arith, table_length g m) in table_at g m j k ∙ sym (h j k))

-- two functions that differ at k only: their tables differ by a store
pub table_set : (g h : ℕ → ℕ) (m k : ℕ) → k < m → ((j : ℕ) → (j ≡ k → ⊥) → h j ≡ g j) → table h m ≡ set (table g m) k (h k)
table_set g h m k b e =
    table_is h _ (length-set (table g m) k (h k) ∙ table_length g m) (λ j l. go j l (ℕ_discrete j k))
  where
    go : (j : ℕ) → j < m → Dec (j ≡ k) → get_or (set (table g m) k (h k)) j 0 ≡ h j
    go j l (yes q) = rw (q, get_or-set_same (table g m) k (h k) 0 (omega (arith, table_length g m)))
    go j l (no q) = rw (get_or-set_other (table g m) k j (h k) 0 q, table_at g m j l, e j q)

-- ── the 66 counts ──

module _ (key : ℕ → ℕ) where
  pub counts_length : (n : ℕ) → length (counts_of key n) ≡ 66
  counts_length n = table_length (count_up key n) 66

  pub counts_at : (n j : ℕ) → j < 66 → get_or (counts_of key n) j 0 ≡ count_up key n j
  counts_at n = table_at (count_up key n) 66

  -- "zero repeated 66 times"
  pub counts_none : counts_of key 0 ≡ replicate 66 0
  unfolding count_up
  counts_none = table_is (count_up key 0) (replicate 66 0) refl (λ j h. get_or-replicate 66 j 0 0 h)

  -- one commit more
  pub counts_next : (n : ℕ) → key n < 66 → counts_of key (suc n) ≡ set (counts_of key n) (key n) (get_or (counts_of key n) (key n) 0 + 1)
  unfolding count_up
  counts_next n h =
      table_set (count_up key n) (count_up key (suc n)) 66 (key n) h (λ j e. omega (arith, one_if (key n) j))
      ∙ ap (set (counts_of key n) (key n)) (omega (arith, counts_at n (key n) h, one_if (key n) (key n)))

  pub counts_le : (n j : ℕ) → j < 66 → get_or (counts_of key n) j 0 ≤ n
  counts_le n j h = omega (arith, counts_at n j h, count_le key n j)

  -- "the 66 counts (which add up to the commits)"
  pub counts_sum : (n : ℕ) → ((k : ℕ) → k < n → key k < 66) → before (λ j. get_or (counts_of key n) j 0) 66 ≡ n
  counts_sum n h = before_same (λ j. get_or (counts_of key n) j 0) (count_up key n) 66 (counts_at n) ∙ sum_counts key 66 n h

pub counts_same : (f g : ℕ → ℕ) (n : ℕ) → ((k : ℕ) → k < n → f k ≡ g k) → counts_of f n ≡ counts_of g n
counts_same f g n e =
    table_is (count_up f n) (counts_of g n) (counts_length g n) (λ j h. counts_at g n j h ∙ sym (count_same f g j n e))
