-- Laws of big-endian numbers, each over the width.
use Rattle.std.proofs.Common.{ℕ, zero, suc, ◌+◌, ◌*◌, ◌/◌, ◌%◌, ◌^◌, ◌≤◌, ◌<◌, List, ◌∷◌, ◌≡◌, refl, sym, ap, ap₂, ◌∙◌, add-zero, add-one, add-suc, suc-add}
use Rattle.std.proofs.Common.{add_assoc, mul-one, mul_assoc, eq-or-lt_of_le, le_of_suc-le-suc, pow-suc, mod-lt, ◌⊎◌, inl, inr, ⊎_elim, arith, length}
use Rattle.std.proofs.Common.{get_or, take, drop, length-take, get_or-take, get_or-drop}
use native.Mathlib.Nat.{pow-zero, pow-succ', one-le-pow}
use Rattle.std.proofs.lemmas.Bool.{cases_lt, cases_order}
use lib.Arith.{digits_lt, digits_div, digits_mod, mod-mul}
use lib.ListN.{get_or-eq_default}
use Rattle.words.specs.Big.{be, number, bytes_of, Bytes}

-- two numbers in order: std's `cases_lt` the other way round
pub le_or_lt : (a b : ℕ) → (a ≤ b) ⊎ (b < a)
le_or_lt a b = ⊎_elim inr inl (cases_lt b a)

-- one number against another
pub by_order : {X : Type 0} (a b : ℕ) → (a < b → X) → (a ≡ b → X) → (b < a → X) → X
by_order a b below same above = ⊎_elim same (⊎_elim below above) (cases_order a b)

-- one byte more
pub be_next : (l : List ℕ) (i n : ℕ) → be (n + 1) l i ≡ be n l i * 256 + get_or l (i + n) 0
unfolding be
be_next l i n = rw add-one

-- past the end there is nothing to read
pub be_past : (n : ℕ) (l : List ℕ) (i : ℕ) → length l ≤ i → be n l i ≡ 0
unfolding be
be_past zero l i h = refl
be_past (suc n) l i h = omega (arith, be_past n l i h, get_or-eq_default l 0 {n = i + n} (omega arith))

-- n bytes and then m
pub be_split : (n m : ℕ) (l : List ℕ) (i : ℕ) → be (n + m) l i ≡ be n l i * 256 ^ m + be m l (i + n)
unfolding be
be_split n zero l i = rw (add-zero n, pow-zero, mul-one) (omega arith)
be_split n (suc m) l i =
    let s : be n l i * 256 ^ suc m ≡ be n l i * 256 ^ m * 256 = ap (λ (k : ℕ). be n l i * k) (pow-suc 256 m)
    ∙ sym (mul_assoc (be n l i) (256 ^ m) 256) in
    let g : get_or l (i + (n + m)) 0 ≡ get_or l (i + n + m) 0 = rw add_assoc in
    rw add-suc (omega (arith, be_split n m l i))

-- the first byte is the highest
be_cons : (n x : ℕ) (l : List ℕ) (i : ℕ) → be n (x ∷ l) (suc i) ≡ be n l i
unfolding be
be_cons zero x l i = refl
be_cons (suc n) x l i = rw suc-add (omega (arith, be_cons n x l i))

pub number_cons : (x : ℕ) (l : List ℕ) → number (x ∷ l) ≡ x * 256 ^ length l + number l
unfolding be
number_cons x l =
    let n : suc (length l) ≡ 1 + length l = omega arith in
    ap (λ (k : ℕ). be k (x ∷ l) 0) n ∙ be_split 1 (length l) (x ∷ l) 0 ∙ omega (arith, be_cons (length l) x l 0)

-- w bytes make a number below 256 ^ w
pub be_below : (l : List ℕ) → Bytes l → (w i : ℕ) → be w l i < 256 ^ w
unfolding be
be_below l b zero i = omega arith
be_below l b (suc w) i = rw pow-suc (digits_lt (be_below l b w i) (b (i + w)))

-- a number in a part is a number in the whole, further on
pub be_part : (w : ℕ) (l : List ℕ) (k n i : ℕ) → i + w ≤ n → be w (take n (drop k l)) i ≡ be w l (k + i)
unfolding be
be_part zero l k n i h = refl
be_part (suc w) l k n i h =
    let g : get_or (take n (drop k l)) (i + w) 0 ≡ get_or l (k + i + w) 0 =
    get_or-take n (drop k l) (i + w) 0 (omega arith) ∙ get_or-drop k l (i + w) 0 ∙ ap (λ (j : ℕ). get_or l j 0) (sym (add_assoc k i w)) in
    omega (arith, be_part w l k n i (omega arith))

-- a byte above 0 makes a number above 0
pub be_some : (w : ℕ) (l : List ℕ) (i k : ℕ) → k < w → 0 < get_or l (i + k) 0 → 0 < be w l i
unfolding be
be_some zero l i k h g = absurd (omega arith)
be_some (suc w) l i k h g =
    ⊎_elim
    (λ (e : k ≡ w). let f : 0 < get_or l (i + w) 0 = rw e at g in omega arith)
    (λ (q : k < w). omega (arith, be_some w l i k q g))
    (eq-or-lt_of_le (le_of_suc-le-suc h))

-- and a number that is 0 has no such byte
pub be_zero : (w : ℕ) (l : List ℕ) (i : ℕ) → be w l i ≡ 0 → (k : ℕ) → k < w → get_or l (i + k) 0 ≡ 0
be_zero w l i e k h =
    ⊎_elim (λ (z : get_or l (i + k) 0 ≤ 0). omega arith) (λ (z : 0 < get_or l (i + k) 0). absurd (omega (arith, be_some w l i k h z)))
    (le_or_lt _ 0)

-- bytes of a part are bytes
pub bytes_part : (l : List ℕ) (k n : ℕ) → Bytes l → Bytes (take n (drop k l))
bytes_part l k n b i =
    ⊎_elim
    (λ (h : i < n). rw (get_or-take n (drop k l) i 0 h, get_or-drop k l i 0) (b (k + i)))
    (λ (h : n ≤ i). rw (get_or-eq_default (take n (drop k l)) 0 {n = i} (simp length-take (omega arith))) (omega arith))
    (cases_lt i n)

-- the n lowest bytes go by the remainder by 256 ^ n
pub bytes_same : (n x y : ℕ) → x % 256 ^ n ≡ y % 256 ^ n → bytes_of n x ≡ bytes_of n y
unfolding bytes_of
bytes_same zero x y e = refl
bytes_same (suc n) x y e =
    let p : 0 < 256 ^ n = one-le-pow n 256 (omega arith) in
    let m : 256 ^ suc n ≡ 256 * 256 ^ n = pow-succ' 256 n in
    let d : x / 256 ^ n % 256 * 256 ^ n + x % 256 ^ n ≡ y / 256 ^ n % 256 * 256 ^ n + y % 256 ^ n =
    sym (mod-mul x (omega arith) p) ∙ ap (λ (k : ℕ). x % k) (sym m) ∙ e ∙ ap (λ (k : ℕ). y % k) m ∙ mod-mul y (omega arith) p in
    ap₂ ◌∷◌
    (sym (digits_div _ (mod-lt x p)) ∙ ap (λ (k : ℕ). k / 256 ^ n) d ∙ digits_div _ (mod-lt y p))
    (bytes_same n x y (sym (digits_mod _ (mod-lt x p)) ∙ ap (λ (k : ℕ). k % 256 ^ n) d ∙ digits_mod _ (mod-lt y p)))
