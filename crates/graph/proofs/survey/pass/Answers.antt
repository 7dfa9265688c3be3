use Rattle.std.proofs.Common.{ap, arith, length}
use Rattle.graph.proofs.Passing.{opens_as, pass_begins, pass_next, along_refused, along_room, pass_ends}
use Rattle.graph.proofs.survey.pass.Goals as goal

pub loop-k-init : goal.loop-k-init
loop-k-init c = pass_begins _ _ _ c.requires _

pub file_at-s-requires-clause-k_lt_n : goal.file_at-s-requires-clause-k_lt_n
file_at-s-requires-clause-k_lt_n c = (c.loop-k-test.true, c.loop-k.invariant.along.place)

pub returns-in_err-f : goal.returns-in_err-f
returns-in_err-f c =
    grind (arith, along_refused _ _ _ c.requires _ _ c.loop-k.invariant.along c.loop-k-test.true c.file_at-s.ensures c.in_err-f.ensures)

pub overflow_add-next : goal.overflow_add-next
overflow_add-next c =
    let e = opens_as _ _ _ _ c.file_at-s.ensures c.in_ok-f.ensures in
    omega (arith, along_room _ _ _ c.requires _ _ c.loop-k.invariant.along c.loop-k-test.true _ e)

pub overflow_add-at : goal.overflow_add-at
overflow_add-at c =
    let e = opens_as _ _ _ _ c.file_at-s.ensures c.in_ok-f.ensures in
    omega (arith, along_room _ _ _ c.requires _ _ c.loop-k.invariant.along c.loop-k-test.true _ e, ap length c.file_at-s.ensures)

pub loop-k-preserved : goal.loop-k-preserved
loop-k-preserved c =
    let e = opens_as _ _ _ _ c.file_at-s.ensures c.in_ok-f.ensures in
    rw c.kept-spot.ensures (pass_next _ _ _ c.requires c.loop-k.invariant c.loop-k-test.true e (ap length c.file_at-s.ensures))

pub returns : goal.returns
returns c = pass_ends _ _ _ c.requires c.loop-k.invariant c.loop-k-test.false
