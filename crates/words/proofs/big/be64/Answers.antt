-- `words::big::be64` meets its contract: four bytes and four more (`be_split`); past the end there is nothing to read (`be_past`).
use Rattle.std.proofs.Common.{arith}
use Rattle.words.proofs.Numbers.{be_past, be_split}
use Rattle.words.proofs.big.be64.Goals as goal

pub returns-then-s-at : goal.returns-then-s-at
returns-then-s-at c = omega (arith, be_past 8 c.args.s.now c.args.at c.if-s-at.true)

pub returns : goal.returns
returns c =
    let a = c.args in
    omega (arith, be_split 4 4 a.s.now a.at)
