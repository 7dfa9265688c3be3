-- Any two results that a public function's promise allows on the same arguments are equal. Made by tests/results.py.
use Rattle.words.proofs.Determined.{same, Determined, DeterminedHeld}
use Rattle.report.proofs.report.Reads as report

pub report_determined : Determined report.Learnt
report_determined κs a y z d e p q = same p.0 q.0

pub report_held : DeterminedHeld (λ κs e. e.1.0.now) report.Learnt
report_held κs a y z d e p q = same p.1.0 q.1.0
