-- What each answer says tells its cases and their values apart: a way back for each image.
use Rattle.std.proofs.Common.{ℕ, List, [], ◌∷◌, ◌≡◌, refl, ap, get_or, drop, Result, Ok, Err}
use Rattle.types.specs.Said.{Said}
use Rattle.types.specs.declared.refusal.Refusal.{Refusal}
use Rattle.types.proofs.Saying.{Back, refusal_of, refusal_back}
use Rattle.graph.specs.Said.{opening_said, located_said}
use Rattle.graph.specs.declared.locate.Spot.{Spot}
use Rattle.file.specs.declared.File.{File}
use Rattle.file.proofs.Saying.{record_from, record_again}

abbrev opening_from : Refusal → List ℕ → Result ℕ Refusal
opening_from r [] = Err r
opening_from r (n ∷ vs) = Ok n

abbrev opening_of_lem : Said → Result ℕ Refusal
opening_of_lem s = opening_from (refusal_of s) s.values

opening_again : (a : Result ℕ Refusal) → opening_of_lem (opening_said a) ≡ a
unfolding opening_said
opening_again (Ok n) = refl
opening_again (Err r) = ap Err (refusal_back r)

pub opening_back : Back opening_said
opening_back = record { of = opening_of_lem; back = opening_again }

abbrev located_from : Refusal → List ℕ → Result Spot Refusal
located_from r [] = Err r
located_from r (k ∷ vs) =
    Ok (record { file = k; start = get_or vs 0 0; size = get_or vs 1 0; pos = record { 0 = get_or vs 2 0 }; inner = record_from (get_or vs 3 0) (drop 4 vs) })

abbrev located_of : Said → Result Spot Refusal
located_of s = located_from (refusal_of s) s.values

located_again : (a : Result Spot Refusal) → located_of (located_said a) ≡ a
unfolding located_said
located_again (Ok s) =
    ap (λ (f : File). Ok (record { file = s.file; start = s.start; size = s.size; pos = s.pos; inner = f })) (record_again s.inner)
located_again (Err r) = ap Err (refusal_back r)

pub located_back : Back located_said
located_back = record { of = located_of; back = located_again }
