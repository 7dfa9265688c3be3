-- `access::halve` meets its contract. The invariant: hi ≤ to, and halving from `lo` to `hi` answers as halving from `from` to `to` does.
-- The measure is hi - lo. Each turn goes below the middle, stops there or goes above it (`turn_less`, `turn_equal`, `turn_greater`); where lo < hi
-- fails nothing is left (`halving_none`).
use Rattle.std.proofs.Common.{◌-◌, ◌≤◌, ◌≡◌, length}
use Rattle.words.specs.Big.{number}
use Rattle.access.specs.Lookup.{key_of, halving}
use Rattle.access.proofs.halve.Given as goal

abbrev pub invariant-loop-lo : goal.invariant-loop-lo
invariant-loop-lo l =
    (l.hi ≤ l.to)
    × (halving (key_of (length l.x) l.ids) (number l.x) l.from l.to ≡ halving (key_of (length l.x) l.ids) (number l.x) l.lo l.hi)

abbrev pub decreases-loop-lo : goal.decreases-loop-lo
decreases-loop-lo l = l.hi - l.lo
