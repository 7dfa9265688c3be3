-- Any two results that a public function's promise allows on the same arguments are equal. Made by tests/results.py.
use Rattle.words.proofs.Determined.{same, Determined}
use Rattle.traverse.proofs.traverse.Reads as traverse

pub traverse_determined : Determined traverse.Learnt
traverse_determined κs a y z d e p q = same p.is q.is
