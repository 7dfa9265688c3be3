-- `audit::meets::meet` meets its contract. The invariant: for each list that the table is right for, meeting what is left of the walk, with the parents and the
-- highest generation so far, comes to what meeting the whole walk does; and the parents so far, with those that can come, are at most what EDGE and the two
-- words allow. Each turn meets one parent (`met-in`). The measure is how many steps are left at most.
use Rattle.std.proofs.Common.{ℕ, ◌+◌, ◌≤◌, ◌<◌, List, ◌≡◌}
use Rattle.list.specs.List.{records_of}
use Rattle.steps.specs.Walks.{shown, edge_bytes, words_in, first_walk, rest_of}
use Rattle.steps.proofs.Walking.{most_from}
use Rattle.graph.specs.Chain.{first_at}
use Rattle.audit.specs.Files.{gen_at}
use Rattle.audit.specs.Scans.{Tabled, met_of}
use Rattle.audit.proofs.meets.meet.Given as goal

abbrev pub invariant-loop-parent : goal.invariant-loop-parent
invariant-loop-parent l =
    ((z : ℕ) (list : List ℕ) → Tabled z l.chain list l.table → l.home < records_of z list
    → met_of (first_at z l.chain list (l.home + 1)) (gen_at z l.chain list) (rest_of l.first l.second (shown l.edge) l.phase) l.parents l.highest
    ≡ met_of (first_at z l.chain list (l.home + 1)) (gen_at z l.chain list) (first_walk l.first l.second (shown l.edge)) 0 0)
    × (l.parents + most_from (shown l.edge) l.phase ≤ words_in (edge_bytes (shown l.edge)) + 3)

abbrev pub decreases-loop-parent : goal.decreases-loop-parent
decreases-loop-parent l = most_from (shown l.edge) l.phase
