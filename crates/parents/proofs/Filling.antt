-- The parent list: a list that is written from the front as a walk is followed, and the ways through the answer.
use Rattle.std.proofs.Common.{ℕ, zero, suc, ◌+◌, ◌≤◌, ◌<◌, List, [], ◌∷◌, ◌++◌, append-nil, ◌≡◌, refl, sym, ap, ◌∙◌, arith, add-one, length, get_or}
use Rattle.std.proofs.Common.{set, take, drop, length-set, take-append-drop, drop_of_length-le, take_all, lt-ltb, le-ltb, Result, Ok, Err}
use Rattle.std.proofs.lemmas.List.{set-get_or}
use Rattle.std.specs.Prelude.{⊤}
use Rattle.words.specs.First.{◌if◌else◌}
use Rattle.types.specs.Refusals.{refusal}
use Rattle.types.specs.declared.refusal.Reason.{Reason}
use Rattle.types.specs.declared.refusal.Refusal.{Refusal}
use Rattle.file.specs.declared.File.{File}
use Rattle.steps.specs.Walks.{Walked, ends, parent, positions}
use Rattle.parents.specs.Walks.{walk_of, total_of}
use Rattle.parents.specs.Lists.{overlay, fit_total, list_of, held_by, held_of}

-- one entry more
over_set : (ps xs : List ℕ) (n p : ℕ) → n < length xs
    → take n xs ++ overlay (p ∷ ps) (drop n xs) ≡ take (suc n) (set xs n p) ++ overlay ps (drop (suc n) (set xs n p))
unfolding overlay
over_set ps [] n p h = absurd (omega arith)
over_set ps (x ∷ xs) zero p h = refl
over_set ps (x ∷ xs) (suc n) p h = ap (λ (r : List ℕ). x ∷ r) (over_set ps xs n p (omega arith))

over_none : (ps : List ℕ) → overlay ps [] ≡ []
unfolding overlay
over_none [] = refl
over_none (p ∷ ps) = refl

-- out holds the first n entries of what is to be written; what is left, w, over the rest of out gives the whole
pub record Filling (whole : List ℕ) (w : Walked) (n : ℕ) (out : List ℕ) : Type 0 where
  pub few : n ≤ length out
  pub rest : take n out ++ overlay (positions w) (drop n out) ≡ whole

module _ (xs : List ℕ) (w : Walked) where
  pub fill_begins : Filling (overlay (positions w) xs) w 0 xs
  fill_begins = record { few = omega arith; rest = refl }

module _ {whole : List ℕ} {w : Walked} {n : ℕ} {out : List ℕ} (f : Filling whole w n out) where
  pub fill_next : {p : ℕ} {v : Walked} → w ≡ parent p v → n < length out → Filling whole v (n + 1) (set out n p)
  unfolding positions
  fill_next {p} {v} e h =
      let g : take n out ++ overlay (p ∷ positions v) (drop n out) ≡ whole = rw e at f.rest in
      record { few = rw (length-set out n p) (omega arith); rest = rw add-one (sym (over_set (positions v) out n p h) ∙ g) }

  -- the entry that is lent stays as it was
  pub fill_stops : {r : Result ⊤ Reason} → w ≡ ends r → set out n (get_or out n 0) ≡ whole
  unfolding positions overlay
  fill_stops e =
      let g : take n out ++ drop n out ≡ whole = rw e at f.rest in
      set-get_or out n 0 ∙ sym (take-append-drop n out) ∙ g

  pub fill_full : length out ≤ n → out ≡ whole
  fill_full h =
      let g : take n out ++ overlay (positions w) [] ≡ whole = rw (drop_of_length-le out h) at f.rest in
      sym (rw (over_none (positions w)) (append-nil _) ∙ take_all n out h) ∙ g

-- the ways through the answer and through what the list holds
module _ (l : List ℕ) (f : File) (i : ℕ) (xs : List ℕ) where
  pub list_short : {r : Refusal} → Err r ≡ total_of l f i → (Err r ≡ list_of l f i (length xs)) × (xs ≡ held_of l f i xs)
  unfolding list_of held_of held_by fit_total
  list_short e = (rw (← e), rw (← e))

  module _ {n : ℕ} (e : Ok n ≡ total_of l f i) where
    pub list_full : length xs < n → (Err (refusal Reason.ListFull i) ≡ list_of l f i (length xs)) × (xs ≡ held_of l f i xs)
    unfolding list_of held_of held_by fit_total ◌if◌else◌
    list_full h = (rw (← e, lt-ltb (length xs) n h), rw (← e, lt-ltb (length xs) n h))

    pub list_whole : n ≤ length xs → {out : List ℕ} → out ≡ overlay (positions (walk_of l f i)) xs
        → (Ok n ≡ list_of l f i (length xs)) × (out ≡ held_of l f i xs)
    unfolding list_of held_of held_by fit_total ◌if◌else◌
    list_whole h d = (rw (← e, le-ltb (length xs) n h), d ∙ rw (← e, le-ltb (length xs) n h))
