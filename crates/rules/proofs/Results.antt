-- Any two results that a public function's promise allows on the same arguments are equal. Made by tests/results.py.
use Rattle.words.proofs.Determined.{same, Determined}
use Rattle.rules.proofs.sum_in.Reads as sum-in
use Rattle.rules.proofs.name_in.Reads as name_in
use Rattle.rules.proofs.entry_in.Reads as entry_in

pub sum_in_determined : Determined sum-in.Learnt
sum_in_determined κs a y z d e p q = same p q

pub name_in_determined : Determined name_in.Learnt
name_in_determined κs a y z d e p q = same p q

pub entry_in_determined : Determined entry_in.Learnt
entry_in_determined κs a y z d e p q = same p q
