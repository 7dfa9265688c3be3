-- `ask::lookup::look` meets its contract. The invariant, `Looking`: the first k files open, `at` is where file k starts, `sum` is how many commits
-- come before it, and what was seen, or else what the files from k on say, is what all say.
use Rattle.ask.proofs.Looking.{Looking}
use Rattle.ask.proofs.lookup.look.Given as goal

abbrev pub invariant-loop-k : goal.invariant-loop-k
invariant-loop-k l = Looking l.z l.chain l.list l.n l.x l.k l.at l.sum l.hit
