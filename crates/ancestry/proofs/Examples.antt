-- The claims are not empty: a root, its child and a merge of both have length 2; a commit that is its own parent, at the cap, has none.
use Rattle.std.proofs.Common.{ℕ, zero, suc, ◌<◌, ◌≡◌, refl, ⊎_elim, List, [], ◌∷◌, arith}
use mathlib.Core.List.Memᴰ
use mathlib.Core.List.{Memᴰ}
use mathlib.Core.Option.{none, some}
use Rattle.ancestry.specs.Graph.{Numbered, Agrees, highest_in, highest_below, right_gen, cap, length_of}
use Rattle.ancestry.proofs.Graph.{agrees}

abbrev merge : ℕ → List ℕ
merge zero = []
merge (suc zero) = 0 ∷ []
merge (suc (suc c)) = 1 ∷ 0 ∷ []

merge_length : length_of (highest_below suc 3) ≡ some 2
unfolding length_of highest_below
merge_length = refl

merge_numbered : Numbered 3 merge suc
unfolding highest_in
merge_numbered = record { few = omega arith; inside = inside; right = right }
  where
    inside : (c p : ℕ) → c < 3 → Memᴰ p (merge c) → p < 3
    inside zero p h m = absurd (Memᴰ.not-nil m)
    inside (suc zero) p h m = omega (arith, Memᴰ.eq_of_singleton m)
    inside (suc (suc c)) p h m =
        ⊎_elim (λ (e : p ≡ 1). omega arith) (λ t. omega (arith, Memᴰ.eq_of_singleton t)) (Memᴰ.cases_cons m)

    right : (c : ℕ) → c < 3 → suc c ≡ right_gen suc (merge c)
    right zero h = refl
    right (suc zero) h = refl
    right (suc (suc c)) h = omega arith

pub merge_agrees : Agrees 3 merge (some 2)
merge_agrees = rw merge_length at (agrees 3 merge suc merge_numbered)

abbrev self : ℕ → List ℕ
self c = 0 ∷ []

self_length : length_of (highest_below (λ c. cap) 1) ≡ none
unfolding length_of highest_below
self_length = refl

self_numbered : Numbered 1 self (λ c. cap)
unfolding highest_in
self_numbered = record { few = omega arith; inside = λ c p h m. omega (arith, Memᴰ.eq_of_singleton m); right = λ c h. refl }

pub self_agrees : Agrees 1 self none
self_agrees = rw self_length at (agrees 1 self (λ c. cap) self_numbered)
