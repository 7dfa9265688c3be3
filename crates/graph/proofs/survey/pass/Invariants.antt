-- `graph::survey::pass` meets its contract. The invariant, `Passing`: the first k files open, `at` is where file k starts, `sum` is how many
-- commits come before it, and `spot` is where position g stands, if it stands in one of them.
use Rattle.graph.proofs.Passing.{Passing}
use Rattle.graph.proofs.survey.pass.Given as goal

abbrev pub invariant-loop-k : goal.invariant-loop-k
invariant-loop-k l = Passing l.z l.chain l.list l.n l.g l.k l.at l.sum l.spot
