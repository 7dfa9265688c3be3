-- `audit::tables::survey` meets its contract. The invariant, `Tabling`: the first k files open, the table has their rows, `start` is where file k starts and
-- `first` is how many commits come before it. Each turn opens file k and writes its row (`tabling_next`).
use Rattle.audit.proofs.Tabling.{Tabling}
use Rattle.audit.proofs.tables.survey.Given as goal

abbrev pub invariant-loop-k : goal.invariant-loop-k
invariant-loop-k l = Tabling l.z l.chain l.list l.n l.k l.start l.first l.table
