-- What each answer says tells its cases and their values apart: a way back for each image.
use Rattle.std.proofs.Common.{ℕ, List, [], ◌∷◌, ◌≡◌, refl, ap, get_or, drop, take, Result, Ok, Err}
use Rattle.types.specs.Said.{Said}
use Rattle.types.specs.declared.refusal.Refusal.{Refusal}
use Rattle.types.proofs.Saying.{Back, refusal_of, refusal_back}
use Rattle.traverse.specs.Said.{verdict_said, traversal_said}
use Rattle.traverse.specs.declared.Summary.{Summary}
use Rattle.traverse.specs.declared.Traversal.{Traversal}

abbrev verdict_from : Refusal → List ℕ → Result Summary Refusal
verdict_from r [] = Err r
verdict_from r (n ∷ vs) = Ok (record { commits = n; highest = get_or vs 0 0; lowest = get_or vs 1 0; most = get_or vs 2 0 })

abbrev verdict_of : Said → Result Summary Refusal
verdict_of s = verdict_from (refusal_of s) s.values

verdict_again : (a : Result Summary Refusal) → verdict_of (verdict_said a) ≡ a
unfolding verdict_said
verdict_again (Ok m) = refl
verdict_again (Err r) = ap Err (refusal_back r)

pub verdict_back : Back verdict_said
verdict_back = record { of = verdict_of; back = verdict_again }

abbrev traversal_from : Refusal → ℕ → List ℕ → Traversal
traversal_from r k vs = record { verdict = verdict_from r (take k vs); counts = drop k vs }

abbrev traversal_of : Said → Traversal
traversal_of s = traversal_from (refusal_of s) (get_or s.values 0 0) (drop 1 s.values)

traversal_again : (a : Traversal) → traversal_of (traversal_said a) ≡ a
unfolding verdict_said
traversal_again a = go a.verdict
  where
    go : (v : Result Summary Refusal) → traversal_of (traversal_said (record { verdict = v; counts = a.counts }))
        ≡ record { verdict = v; counts = a.counts }
    go (Ok m) = refl
    go (Err r) = ap (λ (q : Refusal). record { verdict = Err q; counts = a.counts }) (refusal_back r)

pub traversal_back : Back traversal_said
traversal_back = record { of = traversal_of; back = traversal_again }
