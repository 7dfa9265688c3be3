-- Any two results that a public function's promise allows on the same arguments are equal. Made by tests/results.py.
use Rattle.words.proofs.Determined.{same, same_part, Determined, DeterminedPart}
use Rattle.sums.proofs.checksum.Reads as checksum
use Rattle.sums.proofs.verify_checksum.Reads as verify-checksum

pub checksum_determined : DeterminedPart checksum.Learnt
checksum_determined κs a y z d e p q = same_part p q

pub verify_checksum_determined : Determined verify-checksum.Learnt
verify_checksum_determined κs a y z d e p q = same p.is q.is
