-- Any two results that a public function's promise allows on the same arguments are equal. Made by tests/results.py.
use Rattle.words.proofs.Determined.{same, same_part, Determined, DeterminedPart}
use Rattle.fit.proofs.fit.Reads as fit
use Rattle.fit.proofs.ask.Reads as ask
use Rattle.fit.proofs.parts.Fit.fan.Reads as fan
use Rattle.fit.proofs.parts.Fit.ids.Reads as ids
use Rattle.fit.proofs.parts.Fit.rows.Reads as rows
use Rattle.fit.proofs.parts.Fit.base.Reads as base

pub fit_determined : Determined fit.Learnt
fit_determined κs a y z d e p q = same p q

pub ask_determined : Determined ask.Learnt
ask_determined κs a y z d e p q = same p q

pub fan_determined : DeterminedPart fan.Learnt
fan_determined κs a y z d e p q = same_part p q

pub ids_determined : DeterminedPart ids.Learnt
ids_determined κs a y z d e p q = same_part p q

pub rows_determined : DeterminedPart rows.Learnt
rows_determined κs a y z d e p q = same_part p q

pub base_determined : DeterminedPart base.Learnt
base_determined κs a y z d e p q = same_part p q
