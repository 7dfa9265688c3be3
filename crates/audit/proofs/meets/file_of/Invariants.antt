-- `audit::meets::file_of` meets its contract. The invariant: position g stands at file lo or later, and before file hi, which is at most `last`. The first
-- test makes hi more than lo; each turn takes the half that keeps this, by the first position of the file in the middle. The measure is hi - lo.
use Rattle.std.proofs.Common.{◌-◌, ◌≤◌, ◌<◌}
use Rattle.audit.specs.Scans.{first_in}
use Rattle.audit.proofs.meets.file_of.Given as goal

abbrev pub invariant-loop-hi : goal.invariant-loop-hi
invariant-loop-hi l = (l.lo < l.hi) × (l.hi ≤ l.last) × (first_in l.table l.lo ≤ l.g) × (l.g < first_in l.table l.hi)

abbrev pub decreases-loop-hi : goal.decreases-loop-hi
decreases-loop-hi l = l.hi - l.lo
