use Rattle.std.proofs.Common.{◌≡◌, arith, Ok}
use Rattle.std.proofs.lemmas.Grind.{common_steps}
use Rattle.traverse.proofs.Scanning.{tried_is, scan_begins, scan_stops, scan_small, scan_next, scan_ends}
use Rattle.traverse.proofs.commits.scan.Goals as goal

pub loop-c-init : goal.loop-c-init
loop-c-init c = scan_begins _ _

pub returns-in_err-tried : goal.returns-in_err-tried
returns-in_err-tried c =
    let tried = tried_is _ c.requires c.loop-c-test.true c.row_in-row.ensures.is c.attempt.ensures in
    let stops = scan_stops c.loop-c.invariant c.loop-c-test.true tried in
    grind (arith, common_steps, stops)

pub overflow_add-counts : goal.overflow_add-counts
overflow_add-counts c =
    let tried = tried_is _ c.requires c.loop-c-test.true c.row_in-row.ensures.is c.attempt.ensures in
    let went : c.attempt.result ≡ Ok c.in_ok-tried.tried = grind (arith, common_steps) in
    let small = scan_small c.loop-c.invariant c.loop-c-test.true tried went c.key.ensures.0 c.key.ensures.1 in
    omega (arith, small, c.loop-c-test.true, c.ranges)

pub loop-c-preserved : goal.loop-c-preserved
loop-c-preserved c =
    let tried = tried_is _ c.requires c.loop-c-test.true c.row_in-row.ensures.is c.attempt.ensures in
    let went : c.attempt.result ≡ Ok c.in_ok-tried.tried = grind (arith, common_steps) in
    scan_next c.loop-c.invariant c.loop-c-test.true tried went c.key.ensures.0 c.key.ensures.1
    c.max-highest.ensures c.lower-lowest.ensures c.max-most.ensures

pub returns : goal.returns
returns c = scan_ends c.loop-c.invariant c.loop-c-test.false
