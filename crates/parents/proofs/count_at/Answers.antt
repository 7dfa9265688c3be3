-- `parents::count_at` meets its contract: a question that is refused is the answer; else the count is that of the two words and the EDGE part.
use Rattle.std.proofs.Common.{sym, ◌∙◌, arith}
use Rattle.std.proofs.lemmas.Grind.{common_steps}
use Rattle.types.proofs.Saying.{answers}
use Rattle.parents.proofs.Walking.{commit_fits, total_misfit, total_plain}
use Rattle.parents.proofs.count_at.Goals as goal

pub invariant_of-edge : goal.invariant_of-edge
invariant_of-edge c = record { fitted = commit_fits _ _ _ (sym c.commit_at.ensures.is ∙ c.in_ok-c.was) }

pub returns-in_err-c : goal.returns-in_err-c
returns-in_err-c c =
    let misfit = total_misfit _ _ _ (sym c.commit_at.ensures.is ∙ c.in_err-c.was) in
    answers (grind (arith, common_steps))

pub returns : goal.returns
returns c = answers ((rw c.edge.ensures.bytes at c.count.ensures) ∙ total_plain _ _ _ (sym c.commit_at.ensures.is ∙ c.in_ok-c.was))
