-- `file::init::open_by` meets its contract: the last stage stands on what the stages before it leave: 1 to 5 the size (`headed`), 6 to 9 a sound
-- index (`indexed`).
use Rattle.std.proofs.Common.{◌≡◌, sym, arith}
use Rattle.std.proofs.lemmas.Grind.{common_steps}
use Rattle.types.proofs.Widths.{width_bounds}
use Rattle.words.specs.First.{fine, refuse}
use Rattle.chunk.specs.Index.{index_rule, checked_of}
use Rattle.chunk.proofs.Sound.{indexed}
use Rattle.file.specs.Table.{width}
use Rattle.file.proofs.Stages.{Headed, headed, width_known}
use Rattle.file.proofs.init.open_by.Goals as goal

pub bounds-s-7 : goal.bounds-s-7
bounds-s-7 c = let top : Headed c.args.s.now = headed _ (sym c.in_ok-head.ensures) in omega arith

pub chunks_open-requires-clause-indexed : goal.chunks_open-requires-clause-indexed
unfolding checked_of refuse
chunks_open-requires-clause-indexed c =
    let sound : index_rule c.args.s.now ≡ fine = grind (arith, common_steps) in indexed _ sound

pub chunks_open-requires-clause-x_value : goal.chunks_open-requires-clause-x_value
chunks_open-requires-clause-x_value c =
    let l = c.args.s.now in
    let w = width_bounds (width l) (width_known l) in (c.locate-x.ensures, omega arith, omega arith)
