-- `flat::records::edge_of` meets its contract: each return is the row of `edge_of` that its test names; a sum past the largest number is that number.
use Rattle.std.proofs.Common.{eq-eqb, ne_eqb}
use Rattle.words.specs.First.{◌if◌else◌}
use Rattle.flat.specs.Records.{edge_of, end_of}
use Rattle.flat.proofs.records.edge_of.Goals as goal

pub returns-then-there-eq0 : goal.returns-then-there-eq0
unfolding edge_of ◌if◌else◌
returns-then-there-eq0 c = rw (eq-eqb _ 0 c.if-there-eq0.true)

pub returns : goal.returns
unfolding edge_of end_of ◌if◌else◌
returns c = rw (ne_eqb _ 0 c.if-there-eq0.false, c.saturating_add-end.ensures)
