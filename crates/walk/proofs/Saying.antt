-- What each answer says tells its cases and their values apart: a way back for each image.
use Rattle.std.proofs.Common.{◌≡◌, ap₂, get_or, drop, Result}
use Rattle.std.specs.Prelude.{Option}
use Rattle.types.specs.Said.{Said}
use Rattle.types.specs.declared.refusal.Refusal.{Refusal}
use Rattle.types.proofs.Saying.{Back, refusal_of}
use Rattle.walk.specs.Said.{step_said}
use Rattle.walk.specs.declared.Step.{Step}
use Rattle.steps.specs.declared.Parent.{Parent}
use Rattle.steps.specs.declared.Phase.{Phase}
use Rattle.steps.specs.Said.{phase_of}
use Rattle.steps.proofs.Saying.{phase_again}
use Rattle.parents.proofs.Saying.{answer_from, answer_again}

abbrev step_of : Said → Step
step_of s =
    record {
      answer = answer_from (refusal_of s) (drop 3 s.values);
      next = record { commit = record { 0 = get_or s.values 0 0 }; phase = phase_of (get_or s.values 1 0) (get_or s.values 2 0) };
    }

step_again : (a : Step) → step_of (step_said a) ≡ a
unfolding step_said
step_again a =
    ap₂ (λ (x : Result (Option Parent) Refusal) (p : Phase). record { answer = x; next = record { commit = a.next.commit; phase = p } })
    (answer_again a.answer) (phase_again a.next.phase)

pub step_back : Back step_said
step_back = record { of = step_of; back = step_again }
