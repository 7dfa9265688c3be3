-- `ask::positions::tree_at` meets its contract: a position that is refused has the empty part; else the tree of its file, in the chain.
use Rattle.std.proofs.Common.{refl, sym, arith}
use Rattle.ask.proofs.Reading.{tree_none, tree_part_lem}
use Rattle.ask.proofs.positions.tree_at.Goals as goal

pub returns-in_default : goal.returns-in_default
returns-in_default c = tree_none 32 _ _ _ (sym c.in_default.ensures.is) (record { block = refl; start = omega arith; bytes = refl })

pub returns : goal.returns
returns c = tree_part_lem 32 _ _ _ (sym c.in-Ok.ensures.is) c.part-s.ensures c.tree_at.ensures
