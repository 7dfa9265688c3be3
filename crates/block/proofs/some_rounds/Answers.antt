use Rattle.std.proofs.Common.{◌∙◌}
use Rattle.block.proofs.Schedule.{turned}
use Rattle.block.proofs.some_rounds.Goals as goal

pub loop-t-preserved : goal.loop-t-preserved
loop-t-preserved c = λ h e. c.one_round.ensures ∙ turned _ _ _ (c.loop-t.invariant h e)
