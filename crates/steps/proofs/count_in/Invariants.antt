-- `steps::count_in` meets its contract.
-- The invariant: a count from n of what is left of the walk at `phase` is the count of the whole walk; and n and the steps that may be left at
-- `phase` come to at most the EDGE words and three, so that n does not wrap. The measure: the steps that may be left (`most_from`).
-- A turn that meets a parent takes it from what is left and adds one to n (`count_next`), and leaves fewer steps (`next_less`).
use Rattle.std.proofs.Common.{◌+◌, ◌≤◌, ◌≡◌}
use Rattle.steps.specs.Walks.{shown, edge_bytes, words_in, first_walk, rest_of, count_from}
use Rattle.steps.proofs.Walking.{most_from}
use Rattle.steps.proofs.count_in.Given as goal

abbrev pub invariant-loop-n : goal.invariant-loop-n
invariant-loop-n l = record {
  left : l.n + most_from (shown l.edge) l.phase ≤ words_in (edge_bytes (shown l.edge)) + 3;
  same : count_from l.n (rest_of l.first l.second (shown l.edge) l.phase) ≡ count_from 0 (first_walk l.first l.second (shown l.edge));
}

abbrev pub decreases-loop-n : goal.decreases-loop-n
decreases-loop-n l = most_from (shown l.edge) l.phase
