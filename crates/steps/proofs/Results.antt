-- Any two results that a public function's promise allows on the same arguments are equal. Made by tests/results.py.
use Rattle.words.proofs.Determined.{same, Determined}
use Rattle.steps.proofs.phase_of.Reads as phase_of_lem
use Rattle.steps.proofs.step_in.Reads as step_in
use Rattle.steps.proofs.count_in.Reads as count-in

pub phase_of_determined : Determined phase_of_lem.Learnt
phase_of_determined κs a y z d e p q = same p.is q.is

pub step_in_determined : Determined step_in.Learnt
step_in_determined κs a y z d e p q = same p.is q.is

pub count_in_determined : Determined count-in.Learnt
count_in_determined κs a y z d e p q = same p.is q.is
