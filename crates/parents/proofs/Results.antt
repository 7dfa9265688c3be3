-- Any two results that a public function's promise allows on the same arguments are equal. Made by tests/results.py.
use Rattle.words.proofs.Determined.{same, Determined, DeterminedHeld}
use Rattle.parents.proofs.step_at.Reads as step-at
use Rattle.parents.proofs.count_at.Reads as count_at
use Rattle.parents.proofs.listing.list_at.Reads as list_at

pub step_at_determined : Determined step-at.Learnt
step_at_determined κs a y z d e p q = same p.is q.is

pub count_at_determined : Determined count_at.Learnt
count_at_determined κs a y z d e p q = same p.is q.is

pub list_at_determined : Determined list_at.Learnt
list_at_determined κs a y z d e p q = same p.0.is q.0.is

pub list_at_held : DeterminedHeld (λ κs e. e.1.1.1.0.now) list_at.Learnt
list_at_held κs a y z d e p q = same p.1 q.1
