-- `parents::listing::list_at` meets its contract: what was counted is the count of the commit's two words and its EDGE part (`total_plain`).
-- A refused question or count, and a list that is too short, leave `out` as it was; else `fill_in` wrote the parents over its front.
use Rattle.std.proofs.Common.{◌≡◌, sym, ap, ◌∙◌, arith, Err}
use Rattle.std.proofs.lemmas.Grind.{common_steps}
use Rattle.types.proofs.Saying.{answers}
use Rattle.parents.specs.Walks.{walk_of, total_of}
use Rattle.parents.proofs.Walking.{commit_fits, commit_row, total_misfit, total_plain}
use Rattle.parents.proofs.Filling.{list_short, list_full, list_whole}
use Rattle.parents.proofs.listing.list_at.Goals as goal

pub invariant_of-edge : goal.invariant_of-edge
invariant_of-edge c = record { fitted = commit_fits _ _ _ (sym c.commit_at.ensures.is ∙ c.in_ok-c.was) }

pub returns-in_err-c : goal.returns-in_err-c
returns-in_err-c c =
    let t = list_short _ _ _ c.args.out.now (total_misfit _ _ _ (sym c.commit_at.ensures.is ∙ c.in_err-c.was)) in
    record { answer = answers (grind (arith, common_steps)); holds = t.1 }

pub returns-in_err-n : goal.returns-in_err-n
returns-in_err-n c =
    let total = (rw c.edge-e.ensures.bytes at c.count.ensures) ∙ total_plain _ _ _ (sym c.commit_at.ensures.is ∙ c.in_ok-c.was) in
    let short : Err c.in_err-n.field-0.0 ≡ total_of c.args.s.now c.args.f c.args.pos.0 = grind (arith, common_steps) in
    let t = list_short _ _ _ c.args.out.now short in
    record { answer = answers (grind (arith, common_steps)); holds = t.1 }

pub returns-then-out-n : goal.returns-then-out-n
returns-then-out-n c =
    let total = (rw c.edge-e.ensures.bytes at c.count.ensures) ∙ total_plain _ _ _ (sym c.commit_at.ensures.is ∙ c.in_ok-c.was) in
    let t = list_full _ _ _ _ (sym c.in_ok-n.was ∙ total) c.if-out-n.true in
    record { answer = answers (ap Err c.at.ensures ∙ t.0); holds = t.1 }

pub returns : goal.returns
unfolding walk_of
returns c =
    let total = (rw c.edge-e.ensures.bytes at c.count.ensures) ∙ total_plain _ _ _ (sym c.commit_at.ensures.is ∙ c.in_ok-c.was) in
    let filled = rw (c.edge-e.ensures.bytes, commit_row _ _ _ (sym c.commit_at.ensures.is ∙ c.in_ok-c.was)) at c.fill_in.ensures in
    let t = list_whole _ _ _ _ (sym c.in_ok-n.was ∙ total) c.if-out-n.false filled in
    record { answer = answers t.0; holds = t.1 }
