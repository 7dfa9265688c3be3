-- Any two results that a public function's promise allows on the same arguments are equal. Made by tests/results.py.
use Rattle.words.proofs.Determined.{same, Determined}
use Rattle.types.proofs.refusal.Reason.number.Reads as number
use Rattle.types.proofs.refusal.at.Reads as at
use Rattle.types.proofs.refusal.RefusalFromReason.from.Reads as refusal_from
use Rattle.types.proofs.width.known.Reads as known

pub number_determined : Determined number.Learnt
number_determined κs a y z d e p q = same p q

pub at_determined : Determined at.Learnt
at_determined κs a y z d e p q = same p q

pub refusal_from_determined : Determined refusal_from.Learnt
refusal_from_determined κs a y z d e p q = same p q

pub known_determined : Determined known.Learnt
known_determined κs a y z d e p q = same p q
