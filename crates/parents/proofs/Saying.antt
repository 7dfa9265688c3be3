-- What each answer says tells its cases and their values apart: a way back for each image.
use Rattle.std.proofs.Common.{ℕ, zero, suc, List, [], ◌∷◌, ◌≡◌, refl, ap, ap₂, get_or, drop, Result, Ok, Err}
use Rattle.std.specs.Prelude.{Option, Some, None}
use Rattle.types.specs.Said.{Said}
use Rattle.types.specs.declared.refusal.Refusal.{Refusal}
use Rattle.types.proofs.Saying.{Back, refusal_of, refusal_back}
use Rattle.parents.specs.Said.{answer_said, step_said, total_said}
use Rattle.parents.specs.declared.Step.{Step}
use Rattle.steps.specs.declared.Parent.{Parent}
use Rattle.steps.specs.declared.Phase.{Phase}
use Rattle.steps.specs.Said.{phase_of}
use Rattle.steps.proofs.Saying.{phase_again}

abbrev pub answer_from : Refusal → List ℕ → Result (Option Parent) Refusal
answer_from r [] = Err r
answer_from r (zero ∷ vs) = Ok None
answer_from r (suc t ∷ vs) = Ok (Some (record { position = record { 0 = get_or vs 0 0 } }))

abbrev answer_of_lem : Said → Result (Option Parent) Refusal
answer_of_lem s = answer_from (refusal_of s) s.values

pub answer_again : (a : Result (Option Parent) Refusal) → answer_of_lem (answer_said a) ≡ a
unfolding answer_said
answer_again (Ok (Some q)) = refl
answer_again (Ok None) = refl
answer_again (Err r) = ap Err (refusal_back r)

pub answer_back : Back answer_said
answer_back = record { of = answer_of_lem; back = answer_again }

abbrev step_of : Said → Step
step_of s =
    record { answer = answer_from (refusal_of s) (drop 2 s.values); next = phase_of (get_or s.values 0 0) (get_or s.values 1 0) }

step_again : (a : Step) → step_of (step_said a) ≡ a
unfolding step_said
step_again a =
    ap₂ (λ (x : Result (Option Parent) Refusal) (p : Phase). record { answer = x; next = p }) (answer_again a.answer) (phase_again a.next)

pub step_back : Back step_said
step_back = record { of = step_of; back = step_again }

abbrev total_from : Refusal → List ℕ → Result ℕ Refusal
total_from r [] = Err r
total_from r (k ∷ vs) = Ok k

abbrev total_of : Said → Result ℕ Refusal
total_of s = total_from (refusal_of s) s.values

total_again : (a : Result ℕ Refusal) → total_of (total_said a) ≡ a
unfolding total_said
total_again (Ok n) = refl
total_again (Err r) = ap Err (refusal_back r)

pub total_back : Back total_said
total_back = record { of = total_of; back = total_again }
