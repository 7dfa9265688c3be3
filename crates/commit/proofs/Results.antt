-- Any two results that a public function's promise allows on the same arguments are equal. Made by tests/results.py.
use Rattle.words.proofs.Determined.{same, same_part, Determined, DeterminedPart}
use Rattle.commit.proofs.commit_in.Reads as commit_in_lem
use Rattle.commit.proofs.commit_at.Reads as commit_at_lem
use Rattle.commit.proofs.tree_at.Reads as tree-at

pub commit_in_determined : Determined commit_in_lem.Learnt
commit_in_determined κs a y z d e p q = same p.is q.is

pub commit_at_determined : Determined commit_at_lem.Learnt
commit_at_determined κs a y z d e p q = same p.is q.is

pub tree_at_determined : DeterminedPart tree-at.Learnt
tree_at_determined κs a y z d e p q = same_part p q
