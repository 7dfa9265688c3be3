-- Any two results that a public function's promise allows on the same arguments are equal. Made by tests/results.py.
use Rattle.words.proofs.Determined.{same, Determined}
use Rattle.verify.proofs.verify.Reads as verify

pub verify_determined : Determined verify.Learnt
verify_determined κs a y z d e p q = same p.0.is q.0.is
