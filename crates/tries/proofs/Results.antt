-- Any two results that a public function's promise allows on the same arguments are equal. Made by tests/results.py.
use Rattle.words.proofs.Determined.{same, Determined}
use Rattle.tries.proofs.stopped.Reads as stopped
use Rattle.tries.proofs.key.Reads as key
use Rattle.tries.proofs.row_in.Reads as row_in

pub stopped_determined : Determined stopped.Learnt
stopped_determined κs a y z d e p q = same p q

pub key_determined : Determined key.Learnt
key_determined κs a y z d e p q = same p.0 q.0

pub row_in_determined : Determined row_in.Learnt
row_in_determined κs a y z d e p q = same p.is q.is
