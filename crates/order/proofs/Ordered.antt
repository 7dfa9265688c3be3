-- Laws of order: of two numbers, and of the numbers that two runs of bytes make.
use Rattle.std.proofs.Common.{ℕ, zero, suc, ◌+◌, ◌-◌, ◌*◌, ◌^◌, ◌≤◌, ◌<◌, min, List, [], ◌∷◌, ◌≡◌, refl, sym, ap, ap₂, ◌∙◌, ⊎_elim, arith, add-one, zero-add}
use Rattle.std.proofs.Common.{eq-or-lt_of_le, le_of_suc-le-suc, eqb, length, get_or, take, drop, length-take, length-drop, ne_eqb}
use native.Mathlib.Nat.{one-le-pow}
use lib.Arith.{digits_lt}
use Rattle.words.specs.Big.{be, number, Bytes}
use Rattle.std.specs.declared.cmp.Ordering.TheVariants.{Less, Equal, Greater}
use Rattle.std.specs.declared.cmp.Ordering.{Ordering}
use Rattle.std.specs.Ordering.{nat_cmp, ordering_then, MatchOrdering}
use Rattle.std.specs.Cmp.Lexicographic.{slice_cmp}
use Rattle.std.specs.List.{list_all}
use Rattle.std.specs.Cmp.{nat_cmp_is, ranked}
use Rattle.std.proofs.lemmas.Bool.{cases_lt}
use Rattle.words.proofs.Numbers.{be_split, be_past, be_some, be_below, number_cons, bytes_part}
use Rattle.words.proofs.Parts.{number_part}

-- two runs of bytes, at i in a and at j in b
module _ (a b : List ℕ) (i j : ℕ) where
  pub one_more : (k : ℕ) → be k a i ≡ be k b j → get_or a (i + k) 0 ≡ get_or b (j + k) 0 → be (k + 1) a i ≡ be (k + 1) b j
  unfolding be
  one_more k e g = let z : be (suc k) a i ≡ be (suc k) b j = omega (arith, e, g) in rw (add-one k) z

  -- equal bytes make equal numbers
  pub same_number : (w : ℕ) → ((k : ℕ) → k < w → get_or a (i + k) 0 ≡ get_or b (j + k) 0) → be w a i ≡ be w b j
  unfolding be
  same_number zero h = refl
  same_number (suc w) h = omega (arith, same_number w (λ k g. h k (omega arith)), h w (omega arith))

  module _ (ba : Bytes a) (bb : Bytes b) where
    pub less_more : (w k : ℕ) → k ≤ w → be k a i < be k b j → be w a i < be w b j
    unfolding be
    less_more zero k h g = let e : k ≡ 0 = omega arith in rw e at g
    less_more (suc w) k h g =
        ⊎_elim
        (λ e. rw e at g)
        (λ q. omega (arith, less_more w k (omega arith) g, ba (i + w), bb (j + w)))
        (eq-or-lt_of_le h)

    -- the first bytes that differ decide
    pub less_at : (w k : ℕ) → k < w → be k a i ≡ be k b j → get_or a (i + k) 0 < get_or b (j + k) 0 → be w a i < be w b j
    unfolding be
    less_at w k h e g = less_more w (suc k) h (omega arith)

    -- equal numbers are made of equal bytes
    pub same_bytes : (w : ℕ) → be w a i ≡ be w b j → (k : ℕ) → k < w → get_or a (i + k) 0 ≡ get_or b (j + k) 0
    unfolding be
    same_bytes zero e k h = absurd (omega arith)
    same_bytes (suc w) e k h =
        ⊎_elim
        (λ q. rw q (omega (arith, ba (i + w), bb (j + w))))
        (λ q. same_bytes w (omega (arith, ba (i + w), bb (j + w))) k q)
        (eq-or-lt_of_le (le_of_suc-le-suc h))

-- ── bytes that come one after another, as a number ──

-- all of them are 0 exactly if the number is
pub all_zero : (l : List ℕ) → list_all (λ b. eqb b 0) l ≡ eqb (number l) 0
unfolding be
all_zero [] = refl
all_zero (zero ∷ l) = all_zero l ∙ ap (λ (n : ℕ). eqb n 0) (omega (arith, number_cons 0 l))
all_zero (suc x ∷ l) =
    rw (ne_eqb (suc x) 0 (λ e. omega arith))
    (sym (ne_eqb (number (suc x ∷ l)) 0 (λ e. omega (arith, be_some (suc (length l)) (suc x ∷ l) 0 0 (omega arith) (omega arith)))))

-- two numbers in parts: the higher parts decide, and where they are equal the lower ones do
pub by_parts : (a b : ℕ) {c d p : ℕ} → c < p → d < p → nat_cmp (a * p + c) (b * p + d) ≡ ordering_then (nat_cmp a b) (nat_cmp c d)
by_parts a b {c} {d} {p} h k = sym (nat_cmp_is _ _ _ (go (nat_cmp a b) (nat_cmp c d) (ranked a b _ refl) (ranked c d _ refl)))
  where
    go : (r t : Ordering) → MatchOrdering r (a < b) (a ≡ b) (b < a) → MatchOrdering t (c < d) (c ≡ d) (d < c)
        → MatchOrdering (ordering_then r t) (a * p + c < b * p + d) (a * p + c ≡ b * p + d) (b * p + d < a * p + c)
    go Less t g i = omega (arith, digits_lt g h)
    go Equal Less g i = rw g (omega arith)
    go Equal Equal g i = rw (g, i) refl
    go Equal Greater g i = rw g (omega arith)
    go Greater t g i = omega (arith, digits_lt g k)

-- bytes compare as the numbers that they make
pub by_numbers : (a b : List ℕ) → length a ≡ length b → Bytes a → Bytes b → slice_cmp nat_cmp a b ≡ nat_cmp (number a) (number b)
unfolding be
by_numbers [] [] e p q = refl
by_numbers (x ∷ a) (y ∷ b) e p q =
    let l : length a ≡ length b = omega arith in
    let c : number a < 256 ^ length b = rw (← l) (be_below a (λ i. p (suc i)) (length a) 0) in
    let d : number b < 256 ^ length b = be_below b (λ i. q (suc i)) (length b) 0 in
    ap (ordering_then (nat_cmp x y)) (by_numbers a b l (λ i. p (suc i)) (λ i. q (suc i)))
    ∙ sym (by_parts x y c d)
    ∙ ap₂ nat_cmp (rw (← l) (sym (number_cons x a))) (sym (number_cons y b))
by_numbers [] (y ∷ b) e p q = absurd (omega arith)
by_numbers (x ∷ a) [] e p q = absurd (omega arith)

-- x against what s has from `at` on: the first n bytes against as many, and then the rest of x against nothing
module _ (x s r : List ℕ) (at n : ℕ) (d : r ≡ drop at s) (e : n ≡ min (length x) (length r)) where
  long : length r ≡ length s - at
  long = ap length d ∙ length-drop at s

  all : n + (length x - n) ≡ length x
  all = omega arith

  nothing : be (length x - n) s (at + n) ≡ 0
  unfolding be
  nothing =
      ⊎_elim
      (λ (g : at + n < length s). let z : length x - n ≡ 0 = omega (arith, long) in ap (λ (j : ℕ). be j s (at + n)) z)
      (λ (g : length s ≤ at + n). be_past (length x - n) s (at + n) g)
      (cases_lt (at + n) (length s))

  of_x : be n x 0 * 256 ^ (length x - n) + be (length x - n) x n ≡ number x
  of_x = ap (λ (k : ℕ). be n x 0 * 256 ^ (length x - n) + be (length x - n) x k) (sym (zero-add n)) ∙ sym (be_split n (length x - n) x 0)
      ∙ ap (λ (k : ℕ). be k x 0) all

  of_s : be n s at * 256 ^ (length x - n) + 0 ≡ be (length x) s at
  of_s = ap (λ (k : ℕ). be n s at * 256 ^ (length x - n) + k) (sym nothing) ∙ sym (be_split n (length x - n) s at) ∙ ap (λ (k : ℕ). be k s at) all

  -- where the first n bytes are the same, the rest of x decides
  pub compared_rest : Bytes x → be n x 0 ≡ be n s at → nat_cmp (number (take (length x - n) (drop n x))) 0 ≡ nat_cmp (number x) (be (length x) s at)
  compared_rest p g =
      let m = length x - n in
      let even : nat_cmp (be n x 0) (be n s at) ≡ Equal = sym (nat_cmp_is _ _ Equal g) in
      let parts = by_parts (be n x 0) (be n s at) (be_below x p m n) (one-le-pow m 256 (omega arith)) in
      ap (λ (k : ℕ). nat_cmp k 0) (number_part n m x (omega arith))
      ∙ sym (parts ∙ ap (λ (o : Ordering). ordering_then o (nat_cmp (be m x n) 0)) even)
      ∙ ap₂ nat_cmp of_x of_s

  pub compared : Bytes x → Bytes s
      → ordering_then (slice_cmp nat_cmp (take n x) (take n r)) (nat_cmp (number (take (length x - n) (drop n x))) 0)
      ≡ nat_cmp (number x) (be (length x) s at)
  compared p q =
      rw (
        d,
        by_numbers (take n x) (take n (drop at s)) (simp (length-take, length-drop) (omega (arith, long))) (bytes_part x 0 n p) (bytes_part s at n q),
        number_part 0 n x (omega arith),
        number_part at n s (omega (arith, long)),
        number_part n (length x - n) x (omega arith),
      ) (sym (by_parts (be n x 0) (be n s at) (be_below x p (length x - n) n) (one-le-pow (length x - n) 256 (omega arith))) ∙ ap₂ nat_cmp of_x of_s)

-- x against the run of as many bytes at `at` of s, of which the first n lie in s: the first k are the same
pub record Comparing (x s : List ℕ) (at n k : ℕ) : Type 0 where
  pub few : k ≤ n
  pub reach : n ≡ min (length x) (length s - at)
  pub same : be k x 0 ≡ be k s at

module _ {x s : List ℕ} {at n k : ℕ} (p : Comparing x s at n k) where
  pub compare_less : Bytes x → Bytes s → k < n → get_or x k 0 < get_or s (at + k) 0 → Less ≡ nat_cmp (number x) (be (length x) s at)
  compare_less bx bs h g = nat_cmp_is _ _ Less (less_at x s 0 at bx bs (length x) k (omega arith) p.same (rw zero-add g))

  pub compare_greater : Bytes x → Bytes s → k < n → get_or s (at + k) 0 < get_or x k 0 → Greater ≡ nat_cmp (number x) (be (length x) s at)
  compare_greater bx bs h g = nat_cmp_is _ _ Greater (less_at s x at 0 bs bx (length x) k (omega arith) (sym p.same) (rw zero-add g))

  pub compare_on : k < n → get_or x k 0 ≤ get_or s (at + k) 0 → get_or s (at + k) 0 ≤ get_or x k 0 → Comparing x s at n (k + 1)
  compare_on l h g = record { few = omega arith; reach = p.reach; same = one_more x s 0 at k p.same (rw zero-add (omega arith)) }

  -- all n are the same: what is left of x stands against nothing
  pub compare_rest : k ≡ n → Bytes x → nat_cmp (number (take (length x - n) (drop n x))) 0 ≡ nat_cmp (number x) (be (length x) s at)
  compare_rest h bx = compared_rest x s (drop at s) at n refl (p.reach ∙ ap (min (length x)) (sym (length-drop at s))) bx (rw h at p.same)
