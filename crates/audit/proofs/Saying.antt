-- What each answer says tells its cases and their values apart: a way back for each image.
use Rattle.std.proofs.Common.{ℕ, zero, suc, List, [], ◌∷◌, ◌≡◌, refl, ap, get_or, drop, take, Result, Ok, Err}
use Rattle.types.specs.Said.{Said}
use Rattle.types.specs.declared.refusal.Refusal.{Refusal}
use Rattle.types.proofs.Saying.{Back, refusal_of, refusal_back}
use Rattle.audit.specs.Said.{cyclic_of, steps_of, length_said, verdict_said, verification_said}
use Rattle.audit.specs.declared.Length.{Length}
use Rattle.audit.specs.declared.Length.TheVariants.{Steps, Cyclic}
use Rattle.audit.specs.declared.Summary.{Summary}
use Rattle.audit.specs.declared.Verification.{Verification}

abbrev length_from : ℕ → ℕ → Length
length_from zero n = Steps n
length_from (suc k) n = Cyclic

abbrev length_of_lem : Said → Length
length_of_lem s = length_from (get_or s.values 0 0) (get_or s.values 1 0)

length_again : (a : Length) → length_from (cyclic_of a) (steps_of a) ≡ a
length_again (Steps n) = refl
length_again Cyclic = refl

pub length_back : Back length_said
length_back = record { of = length_of_lem; back = length_again }

abbrev verdict_from : Refusal → List ℕ → Result Summary Refusal
verdict_from r [] = Err r
verdict_from r (n ∷ vs) = Ok (record { commits = n; length = length_from (get_or vs 0 0) (get_or vs 1 0) })

abbrev verdict_of : Said → Result Summary Refusal
verdict_of s = verdict_from (refusal_of s) s.values

verdict_again : (a : Result Summary Refusal) → verdict_of (verdict_said a) ≡ a
unfolding verdict_said
verdict_again (Ok s) = ap (λ (x : Length). Ok (record { commits = s.commits; length = x })) (length_again s.length)
verdict_again (Err r) = ap Err (refusal_back r)

pub verdict_back : Back verdict_said
verdict_back = record { of = verdict_of; back = verdict_again }

abbrev verification_from : Refusal → ℕ → List ℕ → Verification
verification_from r k vs = record { verdict = verdict_from r (take k vs); counts = drop k vs }

abbrev verification_of : Said → Verification
verification_of s = verification_from (refusal_of s) (get_or s.values 0 0) (drop 1 s.values)

verification_again : (a : Verification) → verification_of (verification_said a) ≡ a
unfolding verdict_said
verification_again a = go a.verdict
  where
    go : (v : Result Summary Refusal)
        → verification_of (verification_said (record { verdict = v; counts = a.counts })) ≡ record { verdict = v; counts = a.counts }
    go (Ok s) =
        ap (λ (x : Length). record { verdict = Ok (record { commits = s.commits; length = x }); counts = a.counts }) (length_again s.length)
    go (Err r) = ap (λ (x : Refusal). record { verdict = Err x; counts = a.counts }) (refusal_back r)

pub verification_back : Back verification_said
verification_back = record { of = verification_of; back = verification_again }
