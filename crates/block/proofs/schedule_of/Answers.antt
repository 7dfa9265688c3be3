use Rattle.std.proofs.Common.{refl, length-set}
use Rattle.block.specs.Fips.{schedule}
use Rattle.block.proofs.Schedule.{own, mixed}
use Rattle.block.proofs.schedule_of.Goals as goal

pub own-init : goal.own-init
unfolding schedule
own-init c = (refl, refl)

pub own-preserved : goal.own-preserved
own-preserved c =
    let l = c.own.invariant in
    (simp length-set l.0, own _ _ _ _ l.1 c.own-test.true l.0 c.be32.ensures)

pub mixed-preserved : goal.mixed-preserved
mixed-preserved c =
    let l = c.mixed.invariant in
    (simp length-set l.0, mixed _ _ _ _ l.1 c.mixed.auto.t c.mixed-test.true l.0 c.rotate_left.ensures)
