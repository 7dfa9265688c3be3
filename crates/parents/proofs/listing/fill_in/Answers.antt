use Rattle.std.proofs.Common.{◌≡◌, ◌∙◌, arith, Ok}
use Rattle.std.specs.Prelude.{Some, None}
use Rattle.std.proofs.lemmas.Grind.{common_steps}
use Rattle.steps.specs.Walks.{rest_of}
use Rattle.steps.proofs.Walking.{rest_parent, rest_stop, rest_end}
use Rattle.parents.proofs.Filling.{fill_begins, fill_next, fill_stops, fill_full}
use Rattle.parents.proofs.listing.fill_in.Goals as goal
use Rattle.parents.proofs.listing.fill_in.Goals.{in_default-via-in-Ok+in_default, in_default-via-in_default}

pub loop-entry-init : goal.loop-entry-init
unfolding rest_of
loop-entry-init c = fill_begins _ _

pub loop-entry-preserved : goal.loop-entry-preserved
loop-entry-preserved c =
    let met : c.step_in-step.result.met ≡ Ok (Some c.in-Ok-Some.parent) = grind (arith, common_steps) in
    fill_next c.loop-entry.invariant (rest_parent _ _ _ _ c.step_in-step.ensures.is met) (omega arith)

pub returns-in_default : goal.returns-in_default
returns-in_default c = elim c.in_default.branch [
  | in_default-via-in-Ok+in_default w ↦ let none : c.step_in-step.result.met ≡ Ok None = grind (arith, common_steps) in
      w.entry-items-is ∙ fill_stops c.loop-entry.invariant (rest_end _ _ _ _ c.step_in-step.ensures.is none)
  | in_default-via-in_default w ↦ w.entry-items-is ∙ fill_stops c.loop-entry.invariant (rest_stop _ _ _ _ c.step_in-step.ensures.is w.in_default.is)
]

pub returns : goal.returns
returns c = fill_full c.loop-entry.invariant (omega arith)
