-- `report::lines::accepted` meets its contract: four texts, one behind the other.
use Rattle.report.specs.Output.{line, others}
use Rattle.report.proofs.Putting.{◌then◌}
use Rattle.report.proofs.lines.accepted.Goals as goal

pub returns : goal.returns
unfolding line others
returns c =
    c.word-a.ensures then c.figure-b.ensures then c.length-c.ensures then c.word.ensures
