-- How a loop that counts up finds the first number at which a test holds, and what the answer says.
use Rattle.std.proofs.Common.{ℕ, zero, suc, ◌+◌, ◌-◌, ◌≤◌, ◌<◌, Bool, true, false, ◌≡◌, refl, sym, ◌∙◌, ⊎_elim, arith, eq-or-lt_of_le, ltb, lt-ltb}
use Rattle.std.proofs.Common.{le-ltb}
use native.Mathlib.Nat.{sub-zero}
use Rattle.words.proofs.Numbers.{by_order}
use Rattle.words.proofs.Rows.{eqb_via, neb_via}
use Rattle.words.specs.First.{◌if◌else◌, first}

-- the loop stands at i, and what is left of the search answers as the whole does
module _ (p : ℕ → Bool) (n : ℕ) where
  left_one : (i : ℕ) → i < n → n - i ≡ suc (n - (i + 1))
  left_one i h = omega arith

  pub first_begins : first p 0 n ≡ first p 0 (n - 0)
  first_begins = rw sub-zero

  pub first_stop : (i : ℕ) → first p 0 n ≡ first p i (n - i) → i < n → p i ≡ true → i ≡ first p 0 n
  unfolding first ◌if◌else◌
  first_stop i e h t = sym (e ∙ rw (left_one i h, t))

  pub first_step : (i : ℕ) → first p 0 n ≡ first p i (n - i) → i < n → p i ≡ false → first p 0 n ≡ first p (i + 1) (n - (i + 1))
  unfolding first ◌if◌else◌
  first_step i e h t = e ∙ rw (left_one i h, t)

  pub first_ends : (i : ℕ) → first p 0 n ≡ first p i (n - i) → n ≤ i → i ≡ first p 0 n
  unfolding first
  first_ends i e h = let z : n - i ≡ 0 = omega arith in sym (e ∙ rw z)

-- a test of b, by a number r that was read
pub above_yes : (a b r : ℕ) → r ≡ b → a < r → ltb a b ≡ true
above_yes a b r e h = lt-ltb a b (omega arith)

pub above_no : (a b r : ℕ) → r ≡ b → r ≤ a → ltb a b ≡ false
above_no a b r e h = le-ltb a b (omega arith)

pub ruleset searching = (first_begins, first_stop, first_step, first_ends, above_yes, above_no, eqb_via, neb_via)

-- what the answer says
module _ (p : ℕ → Bool) where
  row_le : (b : Bool) (x y m : ℕ) → x ≤ m → y ≤ m → (x if b else y) ≤ m
  unfolding ◌if◌else◌
  row_le true x y m h g = h
  row_le false x y m h g = g

  pub first_le : (i k : ℕ) → first p i k ≤ i + k
  unfolding first
  first_le i zero = omega arith
  first_le i (suc k) = row_le (p i) i (first p (i + 1) k) (i + suc k) (omega arith) (omega (arith, first_le (i + 1) k))

  hit_go : (b : Bool) (i k : ℕ) → p i ≡ b → (first p (i + 1) k < i + 1 + k → p (first p (i + 1) k) ≡ true)
      → (i if b else first p (i + 1) k) < i + suc k → p (i if b else first p (i + 1) k) ≡ true
  unfolding ◌if◌else◌
  hit_go true i k e ih h = e
  hit_go false i k e ih h = ih (omega arith)

  -- where the search stops short, the test holds
  pub first_hit : (i k : ℕ) → first p i k < i + k → p (first p i k) ≡ true
  unfolding first
  first_hit i zero h = absurd (omega arith)
  first_hit i (suc k) h = hit_go (p i) i k refl (first_hit (i + 1) k) h

  before_go : (b : Bool) (i k j : ℕ) → p i ≡ b → (i + 1 ≤ j → j < first p (i + 1) k → p j ≡ false)
      → i ≤ j → j < (i if b else first p (i + 1) k) → p j ≡ false
  unfolding ◌if◌else◌
  before_go true i k j e ih g h = absurd (omega arith)
  before_go false i k j e ih g h = ⊎_elim (λ q. rw (← q) e) (λ q. ih (omega arith) h) (eq-or-lt_of_le g)

  -- before that it does not
  pub first_before : (i k j : ℕ) → i ≤ j → j < first p i k → p j ≡ false
  unfolding first
  first_before i zero j g h = absurd (omega arith)
  first_before i (suc k) j g h = before_go (p i) i k j refl (first_before (i + 1) k j) g h

  -- where the search does not stop short, the test holds at none
  pub first_none : (i k : ℕ) → i + k ≤ first p i k → (j : ℕ) → i ≤ j → j < i + k → p j ≡ false
  first_none i k h j g l = first_before i k j g (omega arith)

  -- the answer is known by where it stands
  pub first_is : (n k : ℕ) → k < n → p k ≡ true → ((j : ℕ) → j < k → p j ≡ false) → first p 0 n ≡ k
  first_is n k h t f =
      by_order (first p 0 n) k
      (λ l. clash (first p 0 n) (first_hit 0 n (omega arith)) (f _ l))
      (λ e. e)
      (λ g. clash k t (first_before 0 n k (omega arith) g))
    where
      clash : (i : ℕ) → p i ≡ true → p i ≡ false → first p 0 n ≡ k
      clash i a b = let z : ◌≡◌ {A = Bool} true false = sym a ∙ b in let y : ◌≡◌ {A = ℕ} 0 1 = cc in absurd (omega arith)
