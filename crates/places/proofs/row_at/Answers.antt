-- `places::row_at` meets its contract: a question that the rule passes has its row in the bytes (`row_fits`), so that no number wraps.
use Rattle.std.proofs.Common.{sym, arith}
use Rattle.places.proofs.Placing.{row_fits}
use Rattle.places.proofs.row_at.Goals as goal

pub overflow_add-f : goal.overflow_add-f
overflow_add-f c = omega (arith, row_fits _ _ _ _ _ _ (sym c.in-Ok.ensures) c.requires)

pub overflow_mul-i : goal.overflow_mul-i
overflow_mul-i c = omega (arith, row_fits _ _ _ _ _ _ (sym c.in-Ok.ensures) c.requires)

pub overflow_add-from : goal.overflow_add-from
overflow_add-from c = omega (arith, row_fits _ _ _ _ _ _ (sym c.in-Ok.ensures) c.requires)
