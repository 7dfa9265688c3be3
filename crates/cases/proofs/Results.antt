-- Any two results that a public function's promise allows on the same arguments are equal. Made by tests/results.py.
use Rattle.words.proofs.Determined.{same, Determined}
use Rattle.cases.proofs.step.phase_of.Reads as phase_of_lem

pub phase_of_determined : Determined phase_of_lem.Learnt
phase_of_determined κs a y z d e p q = same p.is q.is
