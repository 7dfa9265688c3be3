-- What each answer says tells its cases and their values apart: a way back for each image.
use Rattle.std.proofs.Common.{ℕ, zero, suc, List, [], ◌∷◌, ◌≡◌, refl, ap, ap₂, get_or, drop, Result, Ok, Err}
use Rattle.std.specs.Prelude.{Option, Some, None}
use Rattle.words.specs.First.{◌if◌else◌}
use Rattle.types.specs.Said.{Said}
use Rattle.types.specs.declared.refusal.Reason.{Reason}
use Rattle.types.proofs.Saying.{Back, reason_of, reason_back}
use Rattle.steps.specs.Said.{extra_said, phase_kind, phase_edge, phase_said, phase_of, met_said, next_said, counted_said}
use Rattle.steps.specs.declared.ExtraEdge.{ExtraEdge}
use Rattle.steps.specs.declared.ExtraEdge.TheVariants.{Internal, Last}
use Rattle.steps.specs.declared.Phase.{Phase}
use Rattle.steps.specs.declared.Phase.TheVariants.{First, Second, Edge, Exhausted}
use Rattle.steps.specs.declared.Parent.{Parent}
use Rattle.steps.specs.declared.Next.{Next}

abbrev extra_from : ℕ → ℕ → ExtraEdge
extra_from zero x = Internal (record { 0 = x })
extra_from (suc n) x = Last (record { 0 = x })

abbrev extra_of_lem : Said → ExtraEdge
extra_of_lem s = extra_from (get_or s.values 0 0) (get_or s.values 1 0)

extra_again : (a : ExtraEdge) → extra_of_lem (extra_said a) ≡ a
unfolding extra_said
extra_again (Internal p) = refl
extra_again (Last p) = refl

pub extra_back : Back extra_said
extra_back = record { of = extra_of_lem; back = extra_again }

abbrev phase_of_lem : Said → Phase
phase_of_lem s = phase_of (get_or s.values 0 0) (get_or s.values 1 0)

pub phase_again : (a : Phase) → phase_of (phase_kind a) (phase_edge a) ≡ a
unfolding phase_of ◌if◌else◌
phase_again First = refl
phase_again Second = refl
phase_again (Edge k) = refl
phase_again Exhausted = refl

pub phase_back : Back phase_said
phase_back = record { of = phase_of_lem; back = phase_again }

abbrev met_from : ℕ → List ℕ → Result (Option Parent) Reason
met_from n [] = Err (reason_of n)
met_from n (zero ∷ vs) = Ok None
met_from n (suc t ∷ vs) = Ok (Some (record { position = record { 0 = get_or vs 0 0 } }))

abbrev met_of_lem : Said → Result (Option Parent) Reason
met_of_lem s = met_from s.number s.values

met_again : (a : Result (Option Parent) Reason) → met_of_lem (met_said a) ≡ a
unfolding met_said
met_again (Ok (Some q)) = refl
met_again (Ok None) = refl
met_again (Err e) = ap Err (reason_back e)

pub met_back : Back met_said
met_back = record { of = met_of_lem; back = met_again }

abbrev next_of : Said → Next
next_of s =
    record { met = met_from s.number (drop 2 s.values); phase = phase_of (get_or s.values 0 0) (get_or s.values 1 0) }

next_again : (a : Next) → next_of (next_said a) ≡ a
unfolding next_said
next_again a =
    ap₂ (λ (m : Result (Option Parent) Reason) (p : Phase). record { met = m; phase = p }) (met_again a.met) (phase_again a.phase)

pub next_back : Back next_said
next_back = record { of = next_of; back = next_again }

abbrev counted_from : ℕ → List ℕ → Result ℕ Reason
counted_from n [] = Err (reason_of n)
counted_from n (k ∷ vs) = Ok k

abbrev counted_of : Said → Result ℕ Reason
counted_of s = counted_from s.number s.values

counted_again : (a : Result ℕ Reason) → counted_of (counted_said a) ≡ a
unfolding counted_said
counted_again (Ok n) = refl
counted_again (Err e) = ap Err (reason_back e)

pub counted_back : Back counted_said
counted_back = record { of = counted_of; back = counted_again }
