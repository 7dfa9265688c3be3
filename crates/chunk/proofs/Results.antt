-- Any two results that a public function's promise allows on the same arguments are equal. Made by tests/results.py.
use Rattle.words.proofs.Determined.{same, Determined}
use Rattle.chunk.proofs.find.Reads as find
use Rattle.chunk.proofs.missing.Reads as missing
use Rattle.chunk.proofs.start.Reads as start
use Rattle.chunk.proofs.size.Reads as size
use Rattle.chunk.proofs.end.Reads as end
use Rattle.chunk.proofs.check.Reads as check
use Rattle.chunk.proofs.nth.Reads as nth

pub find_determined : Determined find.Learnt
find_determined κs a y z d e p q = same p.is q.is

pub missing_determined : Determined missing.Learnt
missing_determined κs a y z d e p q = same p q

pub start_determined : Determined start.Learnt
start_determined κs a y z d e p q = same p q

pub size_determined : Determined size.Learnt
size_determined κs a y z d e p q = same p q

pub end_determined : Determined end.Learnt
end_determined κs a y z d e p q = same p q

pub check_determined : Determined check.Learnt
check_determined κs a y z d e p q = same p q

pub nth_determined : Determined nth.Learnt
nth_determined κs a y z d e p q = same p.is q.is
