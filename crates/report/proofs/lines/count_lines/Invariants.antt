-- `report::lines::count_lines` meets its contract. The invariant: the lines of the first k counts stand in `out` from `at` to `next`, in a room of 50 bytes
-- for each. Each turn writes the line of count k behind them (`lines_more`).
use Rattle.std.proofs.Common.{◌*◌}
use Rattle.report.specs.Output.{count_lines}
use Rattle.report.specs.Puts.{Puts}
use Rattle.report.proofs.lines.count_lines.Given as goal

abbrev pub invariant-loop-k : goal.invariant-loop-k
invariant-loop-k l = Puts (50 * l.k) l.initial.out l.at (count_lines l.counts l.k) l.out l.next
