-- `report::lines::refused` meets its contract: five texts, one behind the other.
use Rattle.report.specs.Output.{line, others}
use Rattle.report.proofs.Putting.{◌then◌}
use Rattle.report.proofs.lines.refused.Goals as goal

pub returns : goal.returns
unfolding line others
returns c =
    rw (← c.number.ensures)
    (c.word-a.ensures then c.figure-b.ensures then c.figure-c.ensures then c.figure-d.ensures then c.word.ensures)
