-- The hex digits of a name.
use Rattle.std.proofs.Common.{◌≡◌, refl, sym, ap, ap₂, ◌∙◌, ℕ, ◌+◌, ◌*◌, ◌<◌, List, Bool, true, false, ◌&&◌, Some, None, is_some, length, get_or, take, drop}
use Rattle.std.proofs.Common.{arith, eqb-true, length-take, length-drop, get_or-take, get_or-drop, if◌then◌else◌}
use borrow.Author.Tests.{not-false}
use Rattle.std.specs.List.{list_all}
use Rattle.std.proofs.lemmas.List.Folds.{list_all_more, list_all_at}
use Rattle.name.specs.Names.{digit_of, hash_byte, claims, name_of}
use Rattle.name.specs.declared.Name.{Name}
use Rattle.name.specs.declared.Name.TheVariants.{Other, Claims, Hashless}

-- a name that claims a hash has 52 bytes, and 40 digits in the middle
past : (b : Bool) (a rest : Name) {h : List ℕ} → (a ≡ Claims h → ⊥) → (if b then a else rest) ≡ Claims h → (b ≡ false) × (rest ≡ Claims h)
past true a rest n e = absurd (n e)
past false a rest n e = (refl, e)

other_not : {h : List ℕ} → Other ≡ Claims h → ⊥
other_not e = cc

hashless_not : {h : List ℕ} → Hashless ≡ Claims h → ⊥
hashless_not e = cc

claimed : (b : Bool) (d : List ℕ) {h : List ℕ} → claims (if b then Some d else None) ≡ Claims h → b ≡ true
claimed true d e = refl
claimed false d e = absurd (hashless_not e)

digits_in : (l : List ℕ) → length l ≡ 52 → list_all (λ b. is_some (digit_of b)) (take 40 (drop 6 l)) ≡ true
    → (i : ℕ) → i < 40 → is_some (digit_of (get_or l (6 + i) 0)) ≡ true
digits_in l n e i g = go (is_some (digit_of (get_or l (6 + i) 0))) refl
  where
    go : (t : Bool) → is_some (digit_of (get_or l (6 + i) 0)) ≡ t → t ≡ true
    go true q = refl
    go false q =
        let at : get_or (take 40 (drop 6 l)) i 0 ≡ get_or l (6 + i) 0 = get_or-take 40 (drop 6 l) i 0 g ∙ get_or-drop 6 l i 0 in
        let k : i < length (take 40 (drop 6 l)) = simp (length-take, length-drop) (omega arith) in
        let z = list_all_at (λ b. is_some (digit_of b)) (take 40 (drop 6 l)) i 0 k (rw at q) in
        absurd (cc)

pub hexed : (l : List ℕ) {h : List ℕ} → name_of l ≡ Claims h
    → (length l ≡ 52) × ((i : ℕ) → i < 40 → is_some (digit_of (get_or l (6 + i) 0)) ≡ true)
hexed l e =
    let p1 = past _ _ _ other_not e in
    let p2 = past _ _ _ other_not p1.1 in
    let p3 = past _ _ _ hashless_not p2.1 in
    let n : length l ≡ 52 = eqb-true _ _ (not-false _ p3.0) in
    (n, digits_in l n (claimed _ _ p3.1))

-- two digits more of a hash: a and b are the values of digits 2 i and 2 i + 1
module _ (d : List ℕ) (i : ℕ) {a b : ℕ} (p : Some a ≡ digit_of (get_or d (2 * i) 0)) (q : Some b ≡ digit_of (get_or d (2 * i + 1) 0)) where
  pub digits_more : 2 * i + 1 < length d → list_all (λ b. is_some (digit_of b)) (take (2 * i) d) ≡ true
      → list_all (λ b. is_some (digit_of b)) (take (2 * (i + 1)) d) ≡ true
  digits_more h k =
      let e : 2 * (i + 1) ≡ 2 * i + 1 + 1 = omega arith in
      rw e (list_all_more (λ b. is_some (digit_of b)) d (2 * i + 1) 0 h
      ∙ ap₂ ◌&&◌ (list_all_more (λ b. is_some (digit_of b)) d (2 * i) 0 (omega arith) ∙ ap₂ ◌&&◌ k (ap is_some (sym p))) (ap is_some (sym q)))

  pub byte_made : hash_byte d i ≡ 16 * a + b
  byte_made = rw (← p, ← q) refl
