-- What each answer says tells its cases and their values apart: a way back for each image.
use Rattle.std.proofs.Common.{ℕ, zero, suc, List, [], ◌∷◌, ◌≡◌, refl, ap, get_or, Result, Ok, Err}
use Rattle.std.specs.Prelude.{Some, None, ⊤}
use Rattle.types.specs.Said.{Said}
use Rattle.types.specs.declared.refusal.Refusal.{Refusal}
use Rattle.types.proofs.Saying.{Back, refusal_of, refusal_back}
use Rattle.access.specs.Lookup.{Found}
use Rattle.access.specs.Said.{asking_said, found_said}

abbrev asking_from : Refusal → List ℕ → Result ⊤ Refusal
asking_from r [] = Err r
asking_from r (n ∷ vs) = Ok tt

abbrev asking_of : Said → Result ⊤ Refusal
asking_of s = asking_from (refusal_of s) s.values

asking_again : (a : Result ⊤ Refusal) → asking_of (asking_said a) ≡ a
unfolding asking_said
asking_again (Ok u) = refl
asking_again (Err r) = ap Err (refusal_back r)

pub asking_back : Back asking_said
asking_back = record { of = asking_of; back = asking_again }

abbrev found_from : Refusal → List ℕ → Found
found_from r [] = Err r
found_from r (zero ∷ vs) = Ok None
found_from r (suc n ∷ vs) = Ok (Some (record { 0 = get_or vs 0 0 }))

abbrev found_of : Said → Found
found_of s = found_from (refusal_of s) s.values

found_again : (a : Found) → found_of (found_said a) ≡ a
unfolding found_said
found_again (Ok (Some p)) = refl
found_again (Ok None) = refl
found_again (Err r) = ap Err (refusal_back r)

pub found_back : Back found_said
found_back = record { of = found_of; back = found_again }
