-- `marks::second` meets its contract: the commit that was read is the row (`row`), and its second word is the row of `second_at`.
-- A step that answers a parent was asked of a commit that is there, so that the refusal cannot be.
use Rattle.steps.specs.declared.Phase.TheVariants.{Second}
use Rattle.std.proofs.Common.{arith, sym, ◌∙◌}
use Rattle.commit.proofs.Words.{commit_given, commit_barred}
use Rattle.marks.specs.Marks.{second_at}
use Rattle.marks.proofs.Reading.{field_fits, step_word, second_place}
use Rattle.marks.proofs.second.Goals as goal

pub returns-in_default : goal.returns-in_default
returns-in_default c =
    let w = (step_word _ _ _ Second (λ i. (c.type_inv.s i).fits) c.requires.1).0 in
    let barred = (commit_barred _ _ _ c.commit_at.ensures.is c.in_default.is).0 in
    absurd (let z = sym w.rule ∙ barred in cc)

pub field-requires : goal.field-requires
field-requires c = field_fits (commit_given _ _ _ c.commit_at.ensures.is c.in-Ok.is).0 4 (omega arith) (omega arith)

pub edge-requires : goal.edge-requires
unfolding second_at
edge-requires c =
    let a = c.args in
    let p = second_place a.s.now a.f a.pos.0 (commit_given _ _ _ c.commit_at.ensures.is c.in-Ok.is).1 c.in-ExtraEdgeIndex.is in
    let w = (step_word a.s.now a.f a.pos.0 Second (λ i. (c.type_inv.s i).fits) c.requires.1).1 in
    omega (arith, w.inside, p)

pub returns-in-None : goal.returns-in-None
unfolding second_at
returns-in-None c = second_place _ _ _ (commit_given _ _ _ c.commit_at.ensures.is c.in-Ok.is).1 c.in-None.is

pub returns-in-GraphPosition : goal.returns-in-GraphPosition
unfolding second_at
returns-in-GraphPosition c = c.field.ensures ∙ second_place _ _ _ (commit_given _ _ _ c.commit_at.ensures.is c.in-Ok.is).1 c.in-GraphPosition.is

pub returns-in-ExtraEdgeIndex : goal.returns-in-ExtraEdgeIndex
unfolding second_at
returns-in-ExtraEdgeIndex c = c.edge.ensures ∙ second_place _ _ _ (commit_given _ _ _ c.commit_at.ensures.is c.in-Ok.is).1 c.in-ExtraEdgeIndex.is
