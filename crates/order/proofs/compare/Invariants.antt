-- `order::compare` meets its contract. The invariant, `Comparing`: n is how many of x's bytes have one in `s` to stand against, and the first k of them
-- are the same. Each turn adds a pair that is the same (`compare_on`), or two bytes that differ decide; after n bytes x stands against nothing.
use Rattle.order.proofs.Ordered.{Comparing}
use Rattle.order.proofs.compare.Given as goal

abbrev pub invariant-loop-k : goal.invariant-loop-k
invariant-loop-k l = Comparing l.x l.s l.at l.n l.k
