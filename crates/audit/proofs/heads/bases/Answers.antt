use Rattle.std.proofs.Common.{◌+◌, ◌*◌, ◌≤◌, not, ◌≡◌, sym, ap, ◌∙◌, arith}
use Rattle.words.proofs.Searches.{first_stop, first_step, first_ends}
use Rattle.fit.proofs.Fitting.{run_within}
use Rattle.audit.specs.Scans.{alien_by}
use Rattle.audit.proofs.Heading.{alien_by_lem, alien_hit, alien_none}
use Rattle.audit.proofs.heads.bases.Goals as goal
use Rattle.audit.proofs.heads.bases.Goals.{After-same}

-- the test says whether base j is alien
alien : (c : After-same) → let a = c.args in not c.same.result ≡ alien_by a.chain.now a.table.now a.w a.ids.now c.loop-j.j
alien c =
    let here : c.loop-j.j * c.args.w + c.args.w ≤ c.args.i * c.args.w = run_within _ _ _ c.loop-j-test.true in
    alien_by_lem _ _ _ _ _ _ (omega (arith, here)) c.part.ensures c.same.ensures

pub overflow_sub-end : goal.overflow_sub-end
overflow_sub-end c = omega (arith, c.requires.2 c.loop-j.j c.loop-j-test.true)

pub returns-then-not-same : goal.returns-then-not-same
returns-then-not-same c =
    let k = alien (goal.at.returns-then-not-same c).After-same in
    rw c.at.ensures (alien_hit _ _ _ (first_stop _ _ _ c.loop-j.invariant c.loop-j-test.true (sym k ∙ ap not c.if-not-same.true)) c.loop-j-test.true)

pub loop-j-preserved : goal.loop-j-preserved
loop-j-preserved c =
    let k = alien (goal.at.loop-j-preserved c).After-same in
    first_step _ _ _ c.loop-j.invariant c.loop-j-test.true (sym k ∙ ap not c.if-not-same.false)

pub returns : goal.returns
returns c = alien_none _ _ _ (first_ends _ _ _ c.loop-j.invariant c.loop-j-test.false) c.loop-j-test.false
