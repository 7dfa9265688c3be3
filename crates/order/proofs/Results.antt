-- Any two results that a public function's promise allows on the same arguments are equal. Made by tests/results.py.
use Rattle.words.proofs.Determined.{same, Determined}
use Rattle.order.proofs.zero.Reads as zero
use Rattle.order.proofs.compare.Reads as compare
use Rattle.order.proofs.same.Reads as same

pub zero_determined : Determined zero.Learnt
zero_determined κs a y z d e p q = same p q

pub compare_determined : Determined compare.Learnt
compare_determined κs a y z d e p q = same p.is q.is

pub same_determined : Determined same.Learnt
same_determined κs a y z d e p q = same p q
