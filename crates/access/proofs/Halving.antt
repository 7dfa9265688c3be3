-- Laws of search by halving: one for each way, an induction, and what it finds. Nothing later sees how many turns it may take.
use Rattle.std.proofs.Common.{ℕ, zero, suc, ◌+◌, ◌-◌, ◌*◌, ◌/◌, ◌≤◌, ◌<◌, List, ◌≡◌, refl, sym, ap, ◌∙◌, ⊎_elim, arith, le_refl, le-leb, Err}
use borrow.Author.Tests.{lt-leb}
use Rattle.words.specs.First.{◌if◌else◌}
use Rattle.types.specs.declared.refusal.Refusal.{Refusal}
use Rattle.types.specs.declared.file.Position.{Position}
use Rattle.words.specs.Big.{be}
use Rattle.words.proofs.Numbers.{le_or_lt, by_order}
use Rattle.std.specs.declared.cmp.Ordering.{Ordering}
use Rattle.std.specs.declared.cmp.Ordering.TheVariants.{Less, Equal, Greater}
use Rattle.std.specs.Ordering.{nat_cmp}
use Rattle.std.specs.Cmp.{nat_cmp_is, ranked}
use Rattle.access.specs.Lookup.{Found, found, absent, turn, mid, turns, halving, lower}

pub found_same : (m i : ℕ) → found m ≡ found i → m ≡ i
found_same m i e = let z : ◌≡◌ {A = Position} (record { 0 = m }) (record { 0 = i }) = cc in ap (λ (p : Position). p.0) z

module _ (key : ℕ → ℕ) (x : ℕ) where
  -- more turns change nothing
  enough : (k m lo hi : ℕ) → hi - lo ≤ k → hi - lo ≤ m → turns key x k lo hi ≡ turns key x m lo hi
  unfolding turns ◌if◌else◌
  enough zero zero lo hi h g = refl
  enough zero (suc m) lo hi h g = let e : hi ≤ lo = omega arith in rw (le-leb hi lo e)
  enough (suc k) zero lo hi h g = let e : hi ≤ lo = omega arith in rw (le-leb hi lo e)
  enough (suc k) (suc m) lo hi h g =
      ⊎_elim
      (λ (e : hi ≤ lo). rw (le-leb hi lo e))
      (λ (e : lo < hi).
      rw (enough k m lo (mid lo hi) (omega arith) (omega arith), enough k m (mid lo hi + 1) hi (omega arith) (omega arith)))
      (le_or_lt hi lo)

  -- one turn
  opens : (lo hi : ℕ) → lo < hi
      → halving key x lo hi
      ≡ turn (nat_cmp x (key (mid lo hi))) (halving key x lo (mid lo hi)) (found (mid lo hi)) (halving key x (mid lo hi + 1) hi)
  unfolding halving turns ◌if◌else◌
  opens lo hi h =
      let n : hi - lo ≡ suc (hi - lo - 1) = omega arith in
      rw (
        n,
        lt-leb hi lo h,
        enough (hi - lo - 1) (mid lo hi - lo) lo (mid lo hi) (omega arith) (omega arith),
        enough (hi - lo - 1) (hi - (mid lo hi + 1)) (mid lo hi + 1) hi (omega arith) (omega arith),
      )

  pub halving_none : {lo hi : ℕ} → hi ≤ lo → halving key x lo hi ≡ absent
  unfolding halving turns
  halving_none {lo} {hi} h = let n : hi - lo ≡ 0 = omega arith in rw n

  -- m is the middle
  module _ {lo hi m : ℕ} (h : lo < hi) (e : m ≡ mid lo hi) where
    pub halving_less : x < key m → halving key x lo hi ≡ halving key x lo m
    unfolding turn
    halving_less g = rw e (opens lo hi h ∙ rw (← nat_cmp_is x (key (mid lo hi)) Less (rw e at g)))

    pub halving_equal : x ≡ key m → halving key x lo hi ≡ found m
    unfolding turn
    halving_equal g = rw e (opens lo hi h ∙ rw (← nat_cmp_is x (key (mid lo hi)) Equal (rw e at g)))

    pub halving_greater : key m < x → halving key x lo hi ≡ halving key x (m + 1) hi
    unfolding turn
    halving_greater g = rw e (opens lo hi h ∙ rw (← nat_cmp_is x (key (mid lo hi)) Greater (rw e at g)))

  -- what holds of each turn holds of the whole
  module _ (P : ℕ → ℕ → Found → Type 0)
      (none : (lo hi : ℕ) → hi ≤ lo → P lo hi absent)
      (less : (lo hi m : ℕ) (r : Found) → lo ≤ m → m < hi → x < key m → P lo m r → P lo hi r)
      (equal : (lo hi m : ℕ) → lo ≤ m → m < hi → x ≡ key m → P lo hi (found m))
      (greater : (lo hi m : ℕ) (r : Found) → lo ≤ m → m < hi → key m < x → P (m + 1) hi r → P lo hi r) where
    by_turns : (n lo hi : ℕ) → hi - lo ≤ n → P lo hi (halving key x lo hi)
    by_turns zero lo hi h = let g : hi ≤ lo = omega arith in rw (halving_none g) (none lo hi g)
    by_turns (suc n) lo hi h =
        ⊎_elim (λ (g : hi ≤ lo). rw (halving_none g) (none lo hi g))
        (λ (g : lo < hi). by_order x (key (mid lo hi))
        (λ k. rw (halving_less g refl k)
        (less lo hi (mid lo hi) _ (omega arith) (omega arith) k (by_turns n lo (mid lo hi) (omega arith))))
        (λ k. rw (halving_equal g refl k) (equal lo hi (mid lo hi) (omega arith) (omega arith) k))
        (λ k. rw (halving_greater g refl k)
        (greater lo hi (mid lo hi) _ (omega arith) (omega arith) k (by_turns n (mid lo hi + 1) hi (omega arith)))))
        (le_or_lt hi lo)

    pub halving_ind : (lo hi : ℕ) → P lo hi (halving key x lo hi)
    halving_ind lo hi = by_turns (hi - lo) lo hi (le_refl _)

  -- what is found is there, on any numbers
  pub halving_sound : (lo hi i : ℕ) → halving key x lo hi ≡ found i → (lo ≤ i) × (i < hi) × (x ≡ key i)
  halving_sound lo hi =
      halving_ind
      (λ lo hi r. (i : ℕ) → r ≡ found i → (lo ≤ i) × (i < hi) × (x ≡ key i))
      (λ lo hi h i e. cc)
      (λ lo hi m r a b k ih i e. let q = ih i e in (q.0, omega arith, q.2))
      (λ lo hi m a b k i e. let z : m ≡ i = found_same m i e in (omega arith, omega arith, rw (← z) k))
      (λ lo hi m r a b k ih i e. let q = ih i e in (omega arith, q.1, q.2))
      lo hi

  -- it never refuses
  pub halving_answers : (lo hi : ℕ) (q : Refusal) → halving key x lo hi ≡ Err q → ⊥
  halving_answers lo hi =
      halving_ind
      (λ lo hi r. (q : Refusal) → r ≡ Err q → ⊥)
      (λ lo hi h q e. cc)
      (λ lo hi m r a b k ih q e. ih q e)
      (λ lo hi m a b k q e. cc)
      (λ lo hi m r a b k ih q e. ih q e)
      lo hi

  -- what is there is found, where the numbers rise
  module _ (n : ℕ) (up : (i j : ℕ) → i < j → j < n → key i < key j) where
    -- of two places below n, the one with the smaller number comes first
    before : (m i : ℕ) → m < n → i < n → key i < key m → i < m
    before m i a b k =
        by_order i m (λ h. h)
        (λ h. let z : key i ≡ key m = ap key h in absurd (omega arith))
        (λ h. let z = up m i h b in absurd (omega arith))

    only : (m i : ℕ) → m < n → i < n → key m ≡ key i → m ≡ i
    only m i a b k =
        by_order m i
        (λ h. let z = up m i h b in absurd (omega arith))
        (λ h. h)
        (λ h. let z = up i m h a in absurd (omega arith))

    pub halving_whole : (lo hi i : ℕ) → hi ≤ n → lo ≤ i → i < hi → x ≡ key i → halving key x lo hi ≡ found i
    halving_whole lo hi =
        halving_ind
        (λ lo hi r. (i : ℕ) → hi ≤ n → lo ≤ i → i < hi → x ≡ key i → r ≡ found i)
        (λ lo hi h i t p q e. absurd (omega arith))
        (λ lo hi m r a b k ih i t p q e. ih i (omega arith) p (before m i (omega arith) (omega arith) (omega arith)) e)
        (λ lo hi m a b k i t p q e. ap found (only m i (omega arith) (omega arith) (omega arith)))
        (λ lo hi m r a b k ih i t p q e. ih i t (let z = before i m (omega arith) (omega arith) (omega arith) in omega arith) q e)
        lo hi

-- a turn of the loop: what is left answers as the whole does; r is how x stands to the middle
module _ (key : ℕ → ℕ) (x : ℕ) {lo hi m : ℕ} {all : Found} {r : Ordering} (e : all ≡ halving key x lo hi) (h : lo < hi)
    (d : m ≡ lo + (hi - lo) / 2) (o : r ≡ nat_cmp x (key m)) where
  middle : m ≡ mid lo hi
  middle = omega arith

  pub turn_less : r ≡ Less → all ≡ halving key x lo m
  turn_less t = e ∙ halving_less key x h middle (ranked _ _ Less (sym t ∙ o))

  pub turn_equal : r ≡ Equal → all ≡ found m
  turn_equal t = e ∙ halving_equal key x h middle (ranked _ _ Equal (sym t ∙ o))

  pub turn_greater : r ≡ Greater → all ≡ halving key x (m + 1) hi
  turn_greater t = e ∙ halving_greater key x h middle (ranked _ _ Greater (sym t ∙ o))

pub ruleset halves = (halving_none, turn_less, turn_equal, turn_greater)

-- the fan entry before, of the first bucket and of another
pub lower_zero : (p : List ℕ) {b : ℕ} → b ≡ 0 → 0 ≡ lower p b
unfolding lower
lower_zero p e = rw e

pub lower_is : (p : List ℕ) (b : ℕ) → (b ≡ 0 → ⊥) → be 4 p (4 * (b - 1)) ≡ lower p b
unfolding lower
lower_is p zero h = absurd (h refl)
lower_is p (suc b) h = let e : suc b - 1 ≡ b = omega arith in rw e
