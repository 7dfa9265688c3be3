-- `traverse::found` meets its contract: a list that is refused, a file that does not open, or what the opened file comes to.
use Rattle.std.proofs.Common.{sym, ◌∙◌}
use Rattle.std.proofs.lemmas.Result.{err_from_is_err_and}
use Rattle.traverse.specs.Scans.{traversed}
use Rattle.traverse.proofs.Traversing.{one_record, one_fine, traversal_list, traversal_shut, traversal_open}
use Rattle.traverse.proofs.found.Goals as goal

pub opened-requires : goal.opened-requires
opened-requires c = (
  sym c.«open».ensures.is ∙ c.in_ok-f.was,
  one_record 32 _ _ (one_fine 32 _ _ (sym c.one.ensures ∙ c.in_ok-one.was)),
)

pub returns-in_err-one : goal.returns-in_err-one
unfolding traversed
returns-in_err-one c =
    let p = err_from_is_err_and c.from_residual.result c.from_residual.ensures.1 in
    rw (p.1, p.2) (sym (traversal_list 32 _ _ (sym c.one.ensures ∙ c.in_err-one.was)))

pub returns-in_err-f : goal.returns-in_err-f
unfolding traversed
returns-in_err-f c =
    let p = err_from_is_err_and c.from_residual-in_err-f.result c.from_residual-in_err-f.ensures.1 in
    rw (p.1, p.2) (sym (traversal_shut 32 _ _ (sym c.one.ensures ∙ c.in_ok-one.was) (sym c.«open».ensures.is ∙ c.in_err-f.was)))

pub returns : goal.returns
returns c =
    c.opened.ensures
    ∙ sym (traversal_open 32 _ _ (sym c.one.ensures ∙ c.in_ok-one.was) (sym c.«open».ensures.is ∙ c.in_ok-f.was))
