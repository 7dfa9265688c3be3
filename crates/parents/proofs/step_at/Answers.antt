-- `parents::step_at` meets its contract: a question that is refused ends the walk; else the step is that of the commit's two words and its EDGE part.
use Rattle.std.proofs.Common.{sym, ap, ◌∙◌}
use Rattle.types.proofs.Saying.{answers}
use Rattle.parents.specs.Walks.{step_by}
use Rattle.parents.proofs.Walking.{commit_fits, step_misfit, step_plain}
use Rattle.parents.proofs.step_at.Goals as goal

pub invariant_of-edge : goal.invariant_of-edge
invariant_of-edge c = record { fitted = commit_fits _ _ _ (sym c.commit_at.ensures.is ∙ c.in-Ok.is) }

pub returns-in-Err : goal.returns-in-Err
returns-in-Err c = answers (step_misfit _ _ _ (sym c.commit_at.ensures.is ∙ c.in-Err.is) _)

pub returns-in-Ok : goal.returns-in-Ok
returns-in-Ok c =
    let met = rw c.edge-edge.ensures.bytes at c.step_in.ensures.is in
    answers (c.placed.ensures ∙ ap (step_by _) met ∙ step_plain _ _ _ (sym c.commit_at.ensures.is ∙ c.in-Ok.is) _)
