-- `report::chain_start` meets its contract: each return is the conjunct of `readable` that its test decides.
use Rattle.std.proofs.Common.{arith}
use Rattle.report.proofs.Reading.{short, large, cut, broad, sound, nowhere, somewhere}
use Rattle.report.proofs.chain_start.Goals as goal

pub returns-then-input-lt4 : goal.returns-then-input-lt4
returns-then-input-lt4 c = nowhere _ (short _ (omega arith))

pub returns-then-n-gt12288 : goal.returns-then-n-gt12288
returns-then-n-gt12288 c = nowhere _ (large _ (omega arith) (omega arith))

pub returns-then-input-n : goal.returns-then-input-n
returns-then-input-n c = nowhere _ (cut _ (omega arith) (omega arith) (omega arith))

pub returns-then-input-n-gt49152 : goal.returns-then-input-n-gt49152
returns-then-input-n-gt49152 c = nowhere _ (broad _ (omega arith) (omega arith) (omega arith) (omega arith))

pub returns : goal.returns
returns c = rw c.be32-n.ensures (somewhere _ (sound _ (omega arith) (omega arith) (omega arith) (omega arith)))
