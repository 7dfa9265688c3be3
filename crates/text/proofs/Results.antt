-- Any two results that a public function's promise allows on the same arguments are equal. Made by tests/results.py.
use Rattle.words.proofs.Determined.{same, Determined, DeterminedHeld}
use Rattle.text.proofs.put.Reads as put
use Rattle.text.proofs.number.Reads as number

pub put_determined : Determined put.Learnt
put_determined κs a y z d e p q = same p.0 q.0

pub put_held : DeterminedHeld (λ κs e. e.0.now) put.Learnt
put_held κs a y z d e p q = same p.1 q.1

pub number_determined : Determined number.Learnt
number_determined κs a y z d e p q = same p.0 q.0

pub number_held : DeterminedHeld (λ κs e. e.0.now) number.Learnt
number_held κs a y z d e p q = same p.1 q.1
