-- `list::total` meets its contract. The invariant: `sum` is the sum of the first k lengths, and it is at most k times 2 ^ 32.
-- Each turn adds length k (`before_next`); as n ≤ 256, no sum wraps.
use Rattle.std.proofs.Common.{◌*◌, ◌≤◌, ◌≡◌}
use Rattle.words.specs.Sums.{before}
use Rattle.list.specs.List.{length_at}
use Rattle.list.proofs.total.Given as goal

abbrev pub invariant-loop-k : goal.invariant-loop-k
invariant-loop-k l = (l.sum ≡ before (length_at l.z l.list) l.k) × (l.sum ≤ l.k * 4294967296)
