-- `file::rules::fan` meets its contract. The invariant: `last` is entry i, and the search for an entry that falls among all is the search from i on.
use Rattle.std.proofs.Common.{◌*◌, ◌-◌, ◌≡◌}
use Rattle.words.specs.Big.{be}
use Rattle.words.specs.First.{first}
use Rattle.file.specs.Table.{falls}
use Rattle.file.proofs.rules.fan.Given as goal

abbrev pub invariant-loop-i : goal.invariant-loop-i
invariant-loop-i l = (l.last ≡ be 4 l.p (4 * l.i)) × (first (falls l.p) 0 255 ≡ first (falls l.p) l.i (255 - l.i))
