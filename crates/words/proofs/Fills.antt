-- A list that is filled from the front, one element a turn, towards a definition that grows the same way.
use Rattle.std.proofs.Common.{◌≡◌, sym, ap, ◌∙◌, ℕ, suc, ◌+◌, ◌≤◌, ◌<◌, List, [], ◌∷◌, ◌++◌, add-one, arith, length, take, set, take-suc-set}
use Rattle.std.proofs.Common.{take_all}

module _ (g : ℕ → List ℕ) (l : List ℕ) (t : ℕ) where
  -- a store of the next element makes the first t elements the first t + 1
  pub grown : (v : ℕ) → t < length l → take t l ≡ g t → g (suc t) ≡ g t ++ (v ∷ []) → take (t + 1) (set l t v) ≡ g (t + 1)
  grown v h e n = rw (add-one, take-suc-set) (ap (λ (x : List ℕ). x ++ (v ∷ [])) e ∙ sym n)

  -- a list whose first t elements are right, for t its whole length
  pub whole : {n : ℕ} → n ≤ t → t ≤ n → length l ≡ n → take t l ≡ g t → l ≡ g n
  whole {n} a b e p =
      let q : t ≡ n = omega arith in
      sym (take_all t l (omega arith)) ∙ p ∙ ap g q
