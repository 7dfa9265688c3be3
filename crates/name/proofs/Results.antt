-- Any two results that a public function's promise allows on the same arguments are equal. Made by tests/results.py.
use Rattle.words.proofs.Determined.{same, Determined}
use Rattle.name.proofs.read.Reads as read

pub read_determined : Determined read.Learnt
read_determined κs a y z d e p q = same p.is q.is
