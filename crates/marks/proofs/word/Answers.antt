-- `marks::word` meets its contract: a step that answers a parent has its word in the file (`step_word`), so that no place wraps.
use Rattle.std.proofs.Common.{arith}
use Rattle.marks.proofs.Reading.{step_word}
use Rattle.marks.proofs.Ways.{word_meets}
use Rattle.marks.proofs.word.Goals as goal

pub place-start-requires : goal.place-start-requires
place-start-requires c = word_meets _ _ _ _ c.step_at.ensures.is _ c.in_ok-step_at.was c.if-is_none.ensures

pub overflow_add-end : goal.overflow_add-end
overflow_add-end c =
    let a = c.args in
    let m = word_meets _ _ _ _ c.step_at.ensures.is _ c.in_ok-step_at.was c.if-is_none.ensures in
    omega (arith, (step_word a.s.now a.f a.pos.0 a.phase (λ i. (c.type_inv.s i).fits) m.1).1)
