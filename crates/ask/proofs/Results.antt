-- Any two results that a public function's promise allows on the same arguments are equal. Made by tests/results.py.
use Rattle.words.proofs.Determined.{same, same_part, Determined, DeterminedPart}
use Rattle.ask.proofs.lookup.find.Reads as find
use Rattle.ask.proofs.positions.which.Reads as which
use Rattle.ask.proofs.positions.id_at.Reads as id_at_lem
use Rattle.ask.proofs.positions.tree_at.Reads as tree-at
use Rattle.ask.proofs.positions.commit_at.Reads as commit_at_lem

pub find_determined : Determined find.Learnt
find_determined κs a y z d e p q = same p.0.is q.0.is

pub which_determined : Determined which.Learnt
which_determined κs a y z d e p q = same p.is q.is

pub id_at_determined : DeterminedPart id_at_lem.Learnt
id_at_determined κs a y z d e p q = same_part p q

pub tree_at_determined : DeterminedPart tree-at.Learnt
tree_at_determined κs a y z d e p q = same_part p q

pub commit_at_determined : Determined commit_at_lem.Learnt
commit_at_determined κs a y z d e p q = same p.is q.is
