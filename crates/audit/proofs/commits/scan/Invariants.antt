-- `audit::commits::scan` meets its contract. The invariant, `Trying` for each list that the table is right for and whose tally before the file is the one that
-- came in: no commit before k is refused, and the counts and the highest generation are those of all commits up to it. Each turn tries commit k and adds what
-- it has (`try_next`).
use Rattle.std.proofs.Common.{ℕ, ◌<◌, List}
use Rattle.list.specs.List.{records_of}
use Rattle.audit.specs.Scans.{Tabled, Before}
use Rattle.audit.proofs.Trying.{Trying}
use Rattle.audit.proofs.commits.scan.Given as goal

abbrev pub invariant-loop-k : goal.invariant-loop-k
invariant-loop-k l =
    (z : ℕ) (list : List ℕ) → Tabled z l.chain list l.table → l.i < records_of z list → Before z l.chain list l.i l.initial.tally
    → Trying z l.chain list l.i l.k-counter l.tally
