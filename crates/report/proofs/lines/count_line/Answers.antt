-- `report::lines::count_line` meets its contract: four texts, one behind the other, where n is above 0, and none else.
use Rattle.std.proofs.Common.{arith, lt-ltb, le-ltb}
use Rattle.words.specs.First.{◌if◌else◌}
use Rattle.report.specs.Output.{line, others, count_line}
use Rattle.report.proofs.Putting.{nothing, within, ◌then◌}
use Rattle.report.proofs.lines.count_line.Goals as goal

pub returns-then-n-gt0 : goal.returns-then-n-gt0
unfolding line others count_line ◌if◌else◌
returns-then-n-gt0 c =
    rw (lt-ltb _ _ c.if-n-gt0.true)
    (c.word-a.ensures then c.key-b.ensures then c.figure-c.ensures then c.word.ensures)

pub returns : goal.returns
unfolding line others count_line ◌if◌else◌
returns c = rw (le-ltb _ _ c.if-n-gt0.false) (within (omega arith) (nothing _ _ (omega arith)))
