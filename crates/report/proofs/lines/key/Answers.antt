-- `report::lines::key` meets its contract: the word is the one that `keyWord` has for 65, and for all other keys.
use Rattle.std.proofs.Common.{arith, eq-eqb, ne_eqb}
use Rattle.words.specs.First.{◌if◌else◌}
use Rattle.report.specs.Output.{key_word}
use Rattle.report.proofs.Putting.{within}
use Rattle.report.proofs.lines.key.Goals as goal

pub returns-then-k-eq65 : goal.returns-then-k-eq65
unfolding key_word ◌if◌else◌
returns-then-k-eq65 c =
    rw (eq-eqb _ _ c.if-k-eq65.true) (within (omega arith) c.word.ensures)

pub returns : goal.returns
unfolding key_word ◌if◌else◌
returns c =
    rw (ne_eqb _ _ c.if-k-eq65.false) c.figure.ensures
