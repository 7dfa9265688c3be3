-- `vectors::million` meets its contract.
-- The invariant: n is 1 to 131, so that a piece lies in `a` and is not empty. The measure: `left`, which each piece lowers.
use Rattle.std.proofs.Common.{◌≤◌}
use Rattle.vectors.proofs.million.Given as goal

abbrev pub invariant-loop-left : goal.invariant-loop-left
invariant-loop-left l = (1 ≤ l.n) × (l.n ≤ 131)

abbrev pub decreases-loop-left : goal.decreases-loop-left
decreases-loop-left l = l.left
