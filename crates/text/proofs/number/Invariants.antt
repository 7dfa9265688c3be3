-- `text::number` meets its contract. The invariant, `Filling`: the digits of `rest` and then what stands behind place `from` of `d` are the digits of
-- n, and those of `rest` have room up to that place.
-- The measure is `rest`, which each turn divides by 10. A turn stores the last digit of `rest` (`fill_next`); after the last store the part from `from`
-- on is the whole text (`fill_ends`).
use Rattle.text.proofs.Filling.{Filling}
use Rattle.text.proofs.number.Given as goal

abbrev pub invariant-loop-rest : goal.invariant-loop-rest
invariant-loop-rest l = Filling l.n l.d l.from l.rest

abbrev pub decreases-loop-rest : goal.decreases-loop-rest
decreases-loop-rest l = l.rest
