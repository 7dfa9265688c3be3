-- `rules::trailer` meets its contract: the last w bytes lie in the slice.
use Rattle.std.proofs.Common.{arith}
use Rattle.words.proofs.Parts.{run_in}
use Rattle.rules.proofs.trailer.Goals as goal

pub returns : goal.returns
returns c = run_in _ _ _ _ (omega arith) c.part.ensures
