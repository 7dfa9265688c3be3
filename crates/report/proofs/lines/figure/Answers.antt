-- `report::lines::figure` meets its contract: a space, then a number of at most 20 digits.
use Rattle.std.proofs.Common.{arith, rules}
use Rattle.text.proofs.Decimal.{dec_length}
use Rattle.report.proofs.Putting.{puts, ◌then◌}
use Rattle.report.proofs.lines.figure.Goals as goal

pub returns : goal.returns
returns c =
    let w = c.word-next.ensures in
    let few = dec_length c.args.n (search rules) in
    w then puts 20 _ _ _ (omega (arith, w.place, w.size)) few c.number.ensures.place c.number.ensures.holds
