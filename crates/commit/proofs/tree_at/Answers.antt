-- `commit::tree_at` meets its contract: a refused question has the empty part at the start; else row `pos` lies in the CDAT part (`row_part`).
use Rattle.std.proofs.Common.{◌+◌, ◌*◌, refl, ap, arith, is_err}
use Rattle.words.specs.Part.{PartOf}
use Rattle.fit.proofs.Fitting.{answered, part_none, row_part}
use Rattle.commit.proofs.tree_at.Goals as goal

pub returns-in-Ok : goal.returns-in-Ok
returns-in-Ok c =
    let a = c.args in
    let k = answered a.s.now a.f a.f.commits a.pos.0 c.in-Ok.ensures.0 in
    let rows : PartOf a.s a.f.cdat (a.f.commits * (a.f.width + 16)) c.rows.result = rw (c.in-Ok.ensures.1, c.in-Ok.ensures.2) at c.rows.ensures in
    row_part _ _ a.pos.0 a.f.width rows k.below (omega arith) k.rule k.fits.rows c.part.ensures

pub returns-in-Err : goal.returns-in-Err
returns-in-Err c = part_none _ _ _ _ _ (ap is_err c.in-Err.ensures) (record { block = refl; start = omega arith; bytes = refl })
