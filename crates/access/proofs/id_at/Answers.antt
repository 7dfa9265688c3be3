-- `access::id_at` meets its contract: a question that is answered has its row inside the ids (`answered`, `row_part`); one that is refused gets an
-- empty part.
use Rattle.std.proofs.Common.{◌*◌, refl, ap, arith, is_err}
use Rattle.words.specs.Part.{PartOf}
use Rattle.fit.proofs.Fitting.{answered, part_none, row_part}
use Rattle.access.proofs.id_at.Goals as goal

pub returns-in-Ok : goal.returns-in-Ok
returns-in-Ok c =
    let a = c.args in
    let k = answered a.s.now a.f a.f.commits a.pos.0 c.in-Ok.ensures.0 in
    let ids : PartOf a.s a.f.oidl (a.f.commits * a.f.width) c.ids.result = rw (c.in-Ok.ensures.1, c.in-Ok.ensures.2) at c.ids.ensures in
    row_part _ _ a.pos.0 a.f.width ids k.below (omega arith) k.rule k.fits.ids c.part.ensures

pub returns-in-Err : goal.returns-in-Err
returns-in-Err c = part_none _ _ _ _ _ (ap is_err c.in-Err.ensures) (record { block = refl; start = omega arith; bytes = refl })
