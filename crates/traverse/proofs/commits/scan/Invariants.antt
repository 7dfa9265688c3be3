-- `traverse::commits::scan` meets its contract. The invariant, `Scanning`: no commit before this one is refused, and the four statistics are those of the
-- commits before it. Each turn tries a commit and adds what it has (`scan_next`).
use Rattle.steps.specs.Walks.{shown}
use Rattle.traverse.proofs.Scanning.{Scanning}
use Rattle.traverse.proofs.commits.scan.Given as goal

abbrev pub invariant-loop-c : goal.invariant-loop-c
invariant-loop-c l =
    Scanning (record { width = l.w; fan = l.fan; ids = l.ids; rows = l.rows; edge = shown l.edge }) l.n l.c-counter l.highest l.lowest l.most l.counts
