-- `graph::survey::file_at` meets its contract: the bytes that a record of the list names are part k of the chain (`part-is`).
use Rattle.graph.proofs.Passing.{part_is}
use Rattle.graph.proofs.survey.file_at.Goals as goal

pub returns : goal.returns
returns c =
    part_is _ c.requires.listed _ c.requires.k_lt_n.0 c.requires.k_lt_n.1 c.length_at.ensures _ c.part.ensures
