use Rattle.std.proofs.Common.{sym, refl, arith}
use Rattle.access.specs.Lookup.{key_of}
use Rattle.access.proofs.Halving.{turn_less, turn_equal}
use Rattle.access.proofs.halve.Goals as goal

pub loop-lo-preserved-in-Less : goal.loop-lo-preserved-in-Less
unfolding key_of
loop-lo-preserved-in-Less c = (
  omega arith,
  turn_less _ _ c.loop-lo.invariant.1 c.loop-lo-test.true refl c.compare.ensures.is c.in-Less.is,
)

pub returns-in-Equal : goal.returns-in-Equal
unfolding key_of
returns-in-Equal c =
    sym (turn_equal _ _ c.loop-lo.invariant.1 c.loop-lo-test.true refl c.compare.ensures.is c.in-Equal.is)
