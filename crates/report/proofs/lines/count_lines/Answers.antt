use Rattle.std.proofs.Common.{arith}
use Rattle.report.proofs.Putting.{lines_none, lines_more}
use Rattle.report.proofs.lines.count_lines.Goals as goal

pub loop-k-init : goal.loop-k-init
loop-k-init c = lines_none _ _ _ (omega arith)

pub count_line-next-requires : goal.count_line-next-requires
count_line-next-requires c = let p = c.loop-k.invariant in omega (arith, p.few, p.place, p.size)

pub loop-k-preserved : goal.loop-k-preserved
loop-k-preserved c = lines_more _ _ _ _ c.loop-k.invariant c.count_line-next.ensures
