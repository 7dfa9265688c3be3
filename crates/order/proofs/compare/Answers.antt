use Rattle.std.proofs.Common.{refl, ◌∙◌, arith}
use Rattle.types.proofs.Saying.{answers}
use Rattle.words.specs.Big.{be}
use Rattle.order.proofs.Ordered.{compare_less, compare_greater, compare_on, compare_rest}
use Rattle.order.proofs.compare.Goals as goal

pub loop-k-init : goal.loop-k-init
unfolding be
loop-k-init c = record { few = omega arith; reach = omega (arith, c.min-n.ensures, c.saturating_sub.ensures); same = refl }

pub returns-then-a-b : goal.returns-then-a-b
returns-then-a-b c =
    answers (compare_less c.loop-k.invariant (λ i. (c.type_inv.x i).fits) (λ i. (c.type_inv.s i).fits) c.loop-k-test.true c.if-a-b.true)

pub returns-then-b-a : goal.returns-then-b-a
returns-then-b-a c =
    answers (compare_greater c.loop-k.invariant (λ i. (c.type_inv.x i).fits) (λ i. (c.type_inv.s i).fits) c.loop-k-test.true c.if-b-a.true)

pub loop-k-preserved : goal.loop-k-preserved
loop-k-preserved c = compare_on c.loop-k.invariant c.loop-k-test.true c.if-b-a.false c.if-a-b.false

pub returns : goal.returns
returns c = answers (c.against_zero.ensures ∙ compare_rest c.loop-k.invariant (omega arith) (λ i. (c.type_inv.x i).fits))
