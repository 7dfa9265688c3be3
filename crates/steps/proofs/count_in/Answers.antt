use Rattle.std.proofs.Common.{refl, sym, ◌∙◌, arith}
use Rattle.std.proofs.lemmas.Result.{err_from_is_err_and}
use Rattle.types.proofs.Saying.{answers}
use Rattle.steps.specs.Walks.{count_of, rest_of}
use Rattle.steps.proofs.Walking.{most_from, count_next, count_stop, count_end, next_less}
use Rattle.steps.proofs.count_in.Goals as goal

pub loop-n-init : goal.loop-n-init
unfolding most_from rest_of
loop-n-init c = record { left = omega arith; same = refl }

pub loop-n-smaller : goal.loop-n-smaller
loop-n-smaller c = next_less _ _ _ _ c.step_in-step.ensures.is (rw c.in-Some.is at c.in_ok-step.was)

pub loop-n-preserved : goal.loop-n-preserved
loop-n-preserved c =
    let met = rw c.in-Some.is at c.in_ok-step.was in
    let d = c.step_in-step.ensures.is in
    record {
      left = omega (arith, next_less _ _ _ _ d met);
      same = sym (count_next _ _ _ _ d _ met) ∙ c.loop-n.invariant.same;
    }

pub returns-in_err-step : goal.returns-in_err-step
unfolding count_of
returns-in_err-step c =
    let p = err_from_is_err_and c.from_residual.result c.from_residual.ensures.1 in
    answers (rw (p.1, p.2) (count_stop _ _ _ _ c.step_in-step.ensures.is _ c.in_err-step.was ∙ c.loop-n.invariant.same))

pub returns-in-None : goal.returns-in-None
unfolding count_of
returns-in-None c =
    answers (count_end _ _ _ _ c.step_in-step.ensures.is _ (rw c.in-None.is at c.in_ok-step.was) ∙ c.loop-n.invariant.same)
