-- `sums::checksum` meets its contract: a record that does not fit has the empty part; else the trailer lies in the bytes (`trailer_room`).
use Rattle.std.proofs.Common.{◌≡◌, refl, arith}
use Rattle.words.proofs.Parts.{run_in}
use Rattle.words.specs.First.{fine}
use Rattle.fit.specs.Fits.{fit_rule}
use Rattle.fit.proofs.Fitting.{no_error, part_none, part_fine}
use Rattle.sums.proofs.Trailing.{trailer_room}
use Rattle.sums.proofs.checksum.Goals as goal

pub returns-then-is_err : goal.returns-then-is_err
returns-then-is_err c = part_none _ _ _ _ _ (cc) (record { block = refl; start = omega arith; bytes = refl })

pub returns : goal.returns
returns c =
    let k : fit_rule c.args.s.now c.args.f ≡ fine = no_error _ (cc) in
    let h = trailer_room _ _ k in
    part_fine _ _ _ _ _ k (run_in _ _ _ _ (omega arith) c.part.ensures)
