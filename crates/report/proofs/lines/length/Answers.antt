-- `report::lines::length` meets its contract: each case of the length is the row of `lengthWord` that it names.
use Rattle.std.proofs.Common.{arith}
use Rattle.report.specs.Output.{length_word}
use Rattle.report.proofs.Putting.{within}
use Rattle.report.proofs.lines.length.Goals as goal

pub returns-in-Steps : goal.returns-in-Steps
unfolding length_word
returns-in-Steps c =
    rw c.in-Steps.is c.figure.ensures

pub returns-in-Cyclic : goal.returns-in-Cyclic
unfolding length_word
returns-in-Cyclic c =
    rw c.in-Cyclic.is (within (omega arith) c.word.ensures)
