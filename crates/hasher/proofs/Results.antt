-- Any two results that a public function's promise allows on the same arguments are equal. Made by tests/results.py.
use Rattle.words.proofs.Determined.{same, Determined}
use Rattle.hasher.proofs.Hasher.new.Reads as new
use Rattle.hasher.proofs.Hasher.update.Reads as update
use Rattle.hasher.proofs.Hasher.finish.Reads as finish

pub new_determined : Determined new.Learnt
new_determined κs a y z d e p q = same p q

pub update_determined : Determined update.Learnt
update_determined κs a y z d e p q = same p q

pub finish_determined : Determined finish.Learnt
finish_determined κs a y z d e p q = same p q
