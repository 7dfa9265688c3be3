-- `report::lines::word` meets its contract: `put` writes the whole text, for there is room.
use Rattle.std.proofs.Common.{le_refl}
use Rattle.report.proofs.Putting.{puts}
use Rattle.report.proofs.lines.word.Goals as goal

pub returns : goal.returns
returns c =
    puts _ _ _ _ c.requires (le_refl _) c.put.ensures.place c.put.ensures.holds
