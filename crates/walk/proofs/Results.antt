-- Any two results that a public function's promise allows on the same arguments are equal. Made by tests/results.py.
use Rattle.words.proofs.Determined.{same, Determined, DeterminedHeld}
use Rattle.walk.proofs.Walk.step.Reads as step
use Rattle.walk.proofs.through_door.Reads as through-door
use Rattle.walk.proofs.listing.list_at.Reads as list_at

pub step_determined : Determined step.Learnt
step_determined κs a y z d e p q = same p.is q.is

pub through_door_determined : Determined through-door.Learnt
through_door_determined κs a y z d e p q = same p.is q.is

pub list_at_determined : Determined list_at.Learnt
list_at_determined κs a y z d e p q = same p.0.is q.0.is

pub list_at_held : DeterminedHeld (λ κs e. e.1.1.1.0.now) list_at.Learnt
list_at_held κs a y z d e p q = same p.1 q.1
