-- `marks::place` meets its contract: a step that answers a parent has its word in the file (`step_word`), so that no place wraps.
use Rattle.std.proofs.Common.{subst, arith}
use Rattle.steps.specs.declared.Phase.{Phase}
use Rattle.marks.specs.Marks.{place_of, Meets}
use Rattle.marks.proofs.Reading.{field_fits, step_word}
use Rattle.marks.proofs.place.Goals as goal

pub field-requires : goal.field-requires
field-requires c =
    field_fits (step_word _ _ _ _ (λ i. (c.type_inv.s i).fits) c.requires.1).0 0 (omega arith) (omega arith)

pub edge-requires : goal.edge-requires
unfolding place_of
edge-requires c =
    let a = c.args in
    let m = subst (λ (s : Phase). Meets a.s.now a.f a.pos.0 s) c.in-Edge.is c.requires in
    omega (arith, (step_word a.s.now a.f a.pos.0 _ (λ i. (c.type_inv.s i).fits) m.1).1)
