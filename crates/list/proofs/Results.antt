-- Any two results that a public function's promise allows on the same arguments are equal. Made by tests/results.py.
use Rattle.words.proofs.Determined.{same, same_part, Determined, DeterminedPart}
use Rattle.list.proofs.count.Reads as count
use Rattle.list.proofs.length_at.Reads as length_at
use Rattle.list.proofs.kind_at.Reads as kind_at
use Rattle.list.proofs.claim_at.Reads as claim-at
use Rattle.list.proofs.claims.Reads as claims
use Rattle.list.proofs.check.Reads as check

pub count_determined : Determined count.Learnt
count_determined κs a y z d e p q = same p q

pub length_at_determined : Determined length_at.Learnt
length_at_determined κs a y z d e p q = same p q

pub kind_at_determined : Determined kind_at.Learnt
kind_at_determined κs a y z d e p q = same p q

pub claim_at_determined : DeterminedPart claim-at.Learnt
claim_at_determined κs a y z d e p q = same_part p q

pub claims_determined : Determined claims.Learnt
claims_determined κs a y z d e p q = same p q

pub check_determined : Determined check.Learnt
check_determined κs a y z d e p q = same p q
