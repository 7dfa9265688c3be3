-- More than m numbers below m: one of them comes twice. For the counts of each add up.
use Rattle.std.proofs.Common.{ℕ, zero, suc, ◌≤◌, ◌<◌, ◌≡◌, sym, ◌∙◌, ⊎_elim, arith}
use native.Mathlib.Decide.{ℕ_discrete}
use Rattle.words.specs.Sums.{before}
use Rattle.words.proofs.Numbers.{le_or_lt}
use Rattle.ancestry.specs.Counts.{count_up}
use Rattle.ancestry.proofs.Counts.{one_if, sum_counts}

-- a sum of m numbers that is above m has one above 1
crowd : (g : ℕ → ℕ) (m : ℕ) → m < before g m → (j : ℕ) × (1 < g j)
unfolding before
crowd g zero h = absurd (omega arith)
crowd g (suc m) h = ⊎_elim (λ (l : g m ≤ 1). crowd g m (omega arith)) (λ (l : 1 < g m). (m, l)) (le_or_lt (g m) 1)

-- where j is counted more than b times, it stands at a place with b or more before it
place : (f : ℕ → ℕ) (j b n : ℕ) → b < count_up f n j → (i : ℕ) × (i < n) × (f i ≡ j) × (b ≤ count_up f i j)
unfolding count_up
place f j b zero h = absurd (omega arith)
place f j b (suc n) h = go (ℕ_discrete (f n) j) (place f j b n)
  where
    go : Dec (f n ≡ j) → (b < count_up f n j → (i : ℕ) × (i < n) × (f i ≡ j) × (b ≤ count_up f i j))
        → (i : ℕ) × (i < suc n) × (f i ≡ j) × (b ≤ count_up f i j)
    go (yes e) r = (n, omega arith, e, omega (arith, one_if (f n) j))
    go (no e) r = let (i, l, q, c) = r (omega (arith, one_if (f n) j)) in (i, omega arith, q, c)

pub twice : (f : ℕ → ℕ) (m n : ℕ) → ((k : ℕ) → k < n → f k < m) → m < n → (i j : ℕ) × (i < j) × (j < n) × (f j ≡ f i)
twice f m n h l =
    let (x, c) = crowd (count_up f n) m (omega (arith, sum_counts f m n h)) in
    let (j, b, p, d) = place f x 1 n c in
    let (i, a, q, _) = place f x 0 j d in
    (i, j, a, b, p ∙ sym q)
