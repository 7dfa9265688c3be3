-- What a walk's step says: the answer, with the walk after it.
use Rattle.std.specs.Prelude.{◌∷◌}
use Rattle.types.specs.Said.{Said, beside}
use Rattle.steps.specs.Said.{phase_kind, phase_edge}
use Rattle.parents.specs.Said.{answer_said}
use Rattle.walk.specs.declared.Step.{Step}

unfoldable pub step_said : Step → Said
step_said x =
    beside x.next.commit.0 (phase_kind x.next.phase ∷ phase_edge x.next.phase ∷ (answer_said x.answer).values) (answer_said x.answer)
