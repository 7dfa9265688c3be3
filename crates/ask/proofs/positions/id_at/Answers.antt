-- `ask::positions::id_at` meets its contract: a position that is refused has the empty part; else the id of its file, in the chain.
use Rattle.std.proofs.Common.{refl, sym, arith}
use Rattle.ask.proofs.Reading.{id_none, id_part_lem}
use Rattle.ask.proofs.positions.id_at.Goals as goal

pub returns-in_default : goal.returns-in_default
returns-in_default c = id_none 32 _ _ _ (sym c.in_default.ensures.is) (record { block = refl; start = omega arith; bytes = refl })

pub returns : goal.returns
returns c = id_part_lem 32 _ _ _ (sym c.in-Ok.ensures.is) c.part-s.ensures c.id_at.ensures
