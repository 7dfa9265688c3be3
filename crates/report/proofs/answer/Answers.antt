-- `report::answer` meets its contract: the lines are written one behind the other, as the verdict's row of `answer_lines` has them.
use Rattle.std.proofs.Common.{arith}
use Rattle.report.specs.Output.{answer_lines}
use Rattle.report.proofs.Putting.{within, ◌then◌}
use Rattle.report.proofs.answer.Goals as goal

pub returns-in-Ok : goal.returns-in-Ok
unfolding answer_lines
returns-in-Ok c = rw c.in-Ok.is (within (omega arith) (c.accepted-at.ensures then c.count_lines.ensures))

pub returns-in-Err : goal.returns-in-Err
unfolding answer_lines
returns-in-Err c = rw c.in-Err.is (within (omega arith) c.refused.ensures)
