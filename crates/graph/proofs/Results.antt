-- Any two results that a public function's promise allows on the same arguments are equal. Made by tests/results.py.
use Rattle.words.proofs.Determined.{same, Determined}
use Rattle.graph.proofs.init.open_file.Reads as open_file
use Rattle.graph.proofs.init.open.Reads as «open»
use Rattle.graph.proofs.locate.of_file.Reads as of-file
use Rattle.graph.proofs.locate.locate.Reads as locate

pub open_file_determined : Determined open_file.Learnt
open_file_determined κs a y z d e p q = same p q

pub open_determined : Determined «open».Learnt
open_determined κs a y z d e p q = same p.is q.is

pub of_file_determined : Determined of-file.Learnt
of_file_determined κs a y z d e p q = same p q

pub locate_determined : Determined locate.Learnt
locate_determined κs a y z d e p q = same p.is q.is
