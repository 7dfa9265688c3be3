-- `traverse::opened` meets its contract: stage by stage. A trailer that is wrong is refused, then a name, then the first commit that is
-- (`file_sum`, `file_name`, `file_commits`). The list has one record.
use Rattle.std.proofs.Common.{ℕ, ◌/◌, ◌<◌, true, ◌≡◌, sym, ap, ◌∙◌, lit<}
use Rattle.std.proofs.lemmas.Result.{err_from_is_err_and}
use Rattle.fit.proofs.Opens.{opened}
use Rattle.traverse.specs.Scans.{traversed}
use Rattle.traverse.proofs.Traversing.{file_sum, file_name, file_commits}
use Rattle.traverse.proofs.opened.Goals as goal

-- the list has one record
one_record : {n : ℕ} → n ≡ 32 → 0 < n / 32
one_record e = rw e (lit< tt)

pub commits-requires : goal.commits-requires
commits-requires c = opened true _ c.requires.0

pub returns-in_err-sum_in : goal.returns-in_err-sum_in
unfolding traversed
returns-in_err-sum_in c =
    let p = err_from_is_err_and c.from_residual.result c.from_residual.ensures.1 in
    let wrong = sym c.sum_in.ensures ∙ c.in_err-sum_in.was in
    rw (p.1, p.2) (sym (file_sum 32 _ _ c.requires.0 (one_record c.requires.1) wrong))

pub returns-in_err-name_in : goal.returns-in_err-name_in
unfolding traversed
returns-in_err-name_in c =
    let p = err_from_is_err_and c.from_residual-in_err-name_in.result c.from_residual-in_err-name_in.ensures.1 in
    let fine = sym c.sum_in.ensures ∙ c.in_ok-sum_in.was in
    let wrong = sym c.name_in.ensures ∙ c.in_err-name_in.was in
    rw (p.1, p.2) (sym (file_name 32 _ _ c.requires.0 (one_record c.requires.1) fine wrong))

pub returns : goal.returns
returns c =
    let fine = sym c.sum_in.ensures ∙ c.in_ok-sum_in.was in
    let named = sym c.name_in.ensures ∙ c.in_ok-name_in.was in
    ap traversed c.commits.ensures ∙ sym (file_commits 32 _ _ c.requires.0 (one_record c.requires.1) fine named)
