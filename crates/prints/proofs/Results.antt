-- Any two results that a public function's promise allows on the same arguments are equal. Made by tests/results.py.
use Rattle.std.proofs.Common.{refl}
use Rattle.words.proofs.Determined.{Determined}
use Rattle.prints.proofs.print.print.Reads as print
use Rattle.prints.proofs.print.number.Reads as number
use Rattle.prints.proofs.print.hex.Reads as hex
use Rattle.prints.proofs.print.refusal.Reads as refusal
use Rattle.prints.proofs.step.phase.Reads as phase
use Rattle.prints.proofs.step.answer.Reads as answer

pub print_determined : Determined print.Learnt
print_determined κs a y z d e p q = refl

pub number_determined : Determined number.Learnt
number_determined κs a y z d e p q = refl

pub hex_determined : Determined hex.Learnt
hex_determined κs a y z d e p q = refl

pub refusal_determined : Determined refusal.Learnt
refusal_determined κs a y z d e p q = refl

pub phase_determined : Determined phase.Learnt
phase_determined κs a y z d e p q = refl

pub answer_determined : Determined answer.Learnt
answer_determined κs a y z d e p q = refl
