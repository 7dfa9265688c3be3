-- `chunk::check` meets its contract. The invariant: the search for a refused entry among all c entries before the last is the search from i on.
use Rattle.std.proofs.Common.{◌-◌, ◌≡◌}
use Rattle.words.specs.First.{first}
use Rattle.chunk.specs.Index.{bad}
use Rattle.chunk.proofs.check.Given as goal

abbrev pub invariant-loop-i : goal.invariant-loop-i
invariant-loop-i l = first (bad l.s) 0 l.c ≡ first (bad l.s) l.i-counter (l.c - l.i-counter)
