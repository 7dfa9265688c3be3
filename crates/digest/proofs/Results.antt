-- Any two results that a public function's promise allows on the same arguments are equal. Made by tests/results.py.
use Rattle.words.proofs.Determined.{same, Determined}
use Rattle.digest.proofs.sha1.Reads as sha1

pub sha1_determined : Determined sha1.Learnt
sha1_determined κs a y z d e p q = same p q
