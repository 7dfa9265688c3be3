-- `chunk::index::seek` meets its contract. The invariant: the search for the id x among all n entries is the search from i on.
-- Each turn passes an entry with another id, or stops at one with x (the rules `searching`).
use Rattle.std.proofs.Common.{◌-◌, ◌≡◌}
use Rattle.words.specs.First.{first}
use Rattle.chunk.specs.Index.{is_at}
use Rattle.chunk.proofs.index.seek.Given as goal

abbrev pub invariant-loop-i : goal.invariant-loop-i
invariant-loop-i l = first (is_at l.s l.x) 0 l.n ≡ first (is_at l.s l.x) l.i (l.n - l.i)
