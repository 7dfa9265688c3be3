-- `traverse::commits::commits` meets its contract: what it cuts out are the parts of the file.
use Rattle.tries.proofs.Trials.{file_holds}
use Rattle.traverse.proofs.commits.commits.Goals as goal

pub scan-requires : goal.scan-requires
scan-requires c = rw (c.fan.ensures.bytes, c.ids.ensures.bytes, c.rows.ensures.bytes, c.edge.ensures.bytes) (file_holds c.requires)

pub returns : goal.returns
returns c = rw (c.fan.ensures.bytes, c.ids.ensures.bytes, c.rows.ensures.bytes, c.edge.ensures.bytes) at c.scan.ensures
