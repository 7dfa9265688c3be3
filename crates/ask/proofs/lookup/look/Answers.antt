use Rattle.std.proofs.Common.{ap, arith, length}
use Rattle.graph.proofs.Passing.{opens_as, along_refused, part_is, along_room}
use Rattle.ask.proofs.Looking.{look_begins, look_next, look_fits, look_ends}
use Rattle.ask.proofs.lookup.look.Goals as goal

pub loop-k-init : goal.loop-k-init
loop-k-init c = look_begins c.requires _

pub returns-in_err-f : goal.returns-in_err-f
returns-in_err-f c =
    let here = part_is _ c.requires _ c.loop-k-test.true c.loop-k.invariant.along.place c.length_at.ensures _ c.part-s.ensures in
    grind (arith, along_refused _ _ _ c.requires _ _ c.loop-k.invariant.along c.loop-k-test.true here c.in_err-f.ensures)

pub noted-hit-requires : goal.noted-hit-requires
noted-hit-requires c =
    let here = part_is _ c.requires _ c.loop-k-test.true c.loop-k.invariant.along.place c.length_at.ensures _ c.part-s.ensures in
    look_fits c.requires _ c.loop-k.invariant c.loop-k-test.true (opens_as _ _ _ _ here c.in_ok-f.ensures) _

pub overflow_add-sum : goal.overflow_add-sum
overflow_add-sum c =
    let here = part_is _ c.requires _ c.loop-k-test.true c.loop-k.invariant.along.place c.length_at.ensures _ c.part-s.ensures in
    let e = opens_as _ _ _ _ here c.in_ok-f.ensures in
    omega (arith, along_room _ _ _ c.requires _ _ c.loop-k.invariant.along c.loop-k-test.true _ e)

pub overflow_add-at : goal.overflow_add-at
overflow_add-at c =
    let here = part_is _ c.requires _ c.loop-k-test.true c.loop-k.invariant.along.place c.length_at.ensures _ c.part-s.ensures in
    let e = opens_as _ _ _ _ here c.in_ok-f.ensures in
    omega (arith, along_room _ _ _ c.requires _ _ c.loop-k.invariant.along c.loop-k-test.true _ e, ap length here)

pub loop-k-preserved : goal.loop-k-preserved
loop-k-preserved c =
    let here = part_is _ c.requires _ c.loop-k-test.true c.loop-k.invariant.along.place c.length_at.ensures _ c.part-s.ensures in
    rw c.noted-hit.ensures
    (look_next c.requires _ c.loop-k.invariant c.loop-k-test.true (opens_as _ _ _ _ here c.in_ok-f.ensures) here)

pub returns : goal.returns
returns c = look_ends c.requires _ c.loop-k.invariant c.loop-k-test.false
