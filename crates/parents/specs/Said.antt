-- What the answer of a step and of a count says, and a step with the phase after it.
use Rattle.std.specs.Prelude.{[], ◌∷◌, ℕ, Option, Some, None, Result, Ok, Err}
use Rattle.types.specs.Said.{Said, says, refuses, beside}
use Rattle.steps.specs.Said.{phase_kind, phase_edge}
use Rattle.types.specs.declared.refusal.Refusal.{Refusal}
use Rattle.steps.specs.declared.Parent.{Parent}
use Rattle.parents.specs.declared.Step.{Step}

unfoldable pub answer_said : Result (Option Parent) Refusal → Said
answer_said (Ok (Some q)) = says 1 (q.position.0 ∷ [])
answer_said (Err r) = refuses r
answer_said (Ok None) = says 0 []

unfoldable pub step_said : Step → Said
step_said x = beside (phase_kind x.next) (phase_edge x.next ∷ (answer_said x.answer).values) (answer_said x.answer)

unfoldable pub total_said : Result ℕ Refusal → Said
total_said (Ok n) = says n []
total_said (Err r) = refuses r
