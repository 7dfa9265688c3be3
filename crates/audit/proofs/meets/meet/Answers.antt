use Rattle.std.proofs.Common.{refl, ◌∙◌, arith}
use Rattle.steps.specs.Walks.{rest_of}
use Rattle.steps.proofs.Walking.{most_from, rest_parent, rest_stop, rest_end, next_less}
use Rattle.audit.proofs.Tabling.{next_limit}
use Rattle.audit.proofs.Meeting.{met_stop, met_end, met_out, met_in}
use Rattle.audit.proofs.meets.meet.Goals as goal

pub loop-parent-init : goal.loop-parent-init
unfolding most_from rest_of
loop-parent-init c = (λ z l p h. refl, omega arith)

pub returns-in_err-parent : goal.returns-in_err-parent
returns-in_err-parent c =
    λ z l p h. grind (arith, met_stop _ _ _ _ _ (rest_stop _ _ _ _ c.step_in-next.ensures.is c.in_err-parent.was) ∙ c.loop-parent.invariant.0 z l p h)

pub returns-in_default : goal.returns-in_default
returns-in_default c =
    λ z l p h. met_end _ _ _ _ _ (rest_end _ _ _ _ c.step_in-next.ensures.is (rw c.in_default.is at c.in_ok-parent.was)) ∙ c.loop-parent.invariant.0 z l p h

pub returns-then-limit-g : goal.returns-then-limit-g
returns-then-limit-g c =
    λ z l p h. met_out _ _ _ _ _ _ _ (rest_parent _ _ _ _ c.step_in-next.ensures.is (rw c.in-Some.is at c.in_ok-parent.was))
    (omega (arith, c.if-limit-g.true, next_limit z _ l p _ h)) ∙ c.loop-parent.invariant.0 z l p h

pub loop-parent-smaller : goal.loop-parent-smaller
loop-parent-smaller c = next_less _ _ _ _ c.step_in-next.ensures.is (rw c.in-Some.is at c.in_ok-parent.was)

pub loop-parent-preserved : goal.loop-parent-preserved
loop-parent-preserved c =
    let met = rw c.in-Some.is at c.in_ok-parent.was in
    let step = c.step_in-next.ensures.is in (
      λ z l p h. met_in _ _ _ _ _ _ _ (rest_parent _ _ _ _ step met)
          (omega (arith, c.if-limit-g.false, next_limit z _ l p _ h))
          (omega (arith, c.max-highest.ensures, c.gen_at.ensures z l p h)) ∙ c.loop-parent.invariant.0 z l p h,
      omega (arith, next_less _ _ _ _ step met, c.loop-parent.invariant.1),
    )
