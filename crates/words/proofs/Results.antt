-- Any two results that a public function's promise allows on the same arguments are equal. Made by tests/results.py.
use Rattle.words.proofs.Determined.{same, same_part, Determined, DeterminedPart}
use Rattle.words.proofs.big.be32.Reads as be32
use Rattle.words.proofs.big.be64.Reads as be64
use Rattle.words.proofs.part.room.Reads as room
use Rattle.words.proofs.part.part.Reads as part

pub be32_determined : Determined be32.Learnt
be32_determined κs a y z d e p q = same p q

pub be64_determined : Determined be64.Learnt
be64_determined κs a y z d e p q = same p q

pub room_determined : Determined room.Learnt
room_determined κs a y z d e p q = same p q

pub part_determined : DeterminedPart part.Learnt
part_determined κs a y z d e p q = same_part p q
