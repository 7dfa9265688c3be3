-- `audit::commits::attempt` meets its contract: each return is the way through `tried_of` that its branch names, for each list that the table is right for.
use Rattle.std.proofs.Common.{sym, ◌∙◌}
use Rattle.audit.proofs.Trying.{stopped_is, tried_bad, tried_met, tried_gen, tried_fine}
use Rattle.audit.proofs.commits.attempt.Goals as goal

pub returns-in-Err : goal.returns-in-Err
returns-in-Err c = λ z l p h. stopped_is c.stopped.ensures ∙ sym (tried_bad _ _ _ _ c.in-Err.is)

pub returns-in-Err-meet : goal.returns-in-Err-meet
returns-in-Err-meet c = λ z l p h. stopped_is c.stopped-in-Err-meet.ensures ∙ sym (tried_met _ _ _ _ c.in-Ok.is (c.in-Err-meet.ensures z l p h))

pub returns-then-commit-right : goal.returns-then-commit-right
returns-then-commit-right c =
    λ z l p h. stopped_is c.stopped-then-commit-right.ensures
    ∙ sym (tried_gen _ _ _ _ c.in-Ok.is (c.in-Ok-meet.ensures z l p h) c.right.ensures c.if-commit-right.true)

pub returns : goal.returns
returns c = λ z l p h. sym (tried_fine _ _ _ _ c.in-Ok.is (c.in-Ok-meet.ensures z l p h) c.right.ensures c.if-commit-right.false)
