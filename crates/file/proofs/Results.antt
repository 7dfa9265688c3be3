-- Any two results that a public function's promise allows on the same arguments are equal. Made by tests/results.py.
use Rattle.words.proofs.Determined.{same, Determined}
use Rattle.file.proofs.init.open.Reads as «open»

pub open_determined : Determined «open».Learnt
open_determined κs a y z d e p q = same p.is q.is
