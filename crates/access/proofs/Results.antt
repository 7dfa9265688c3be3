-- Any two results that a public function's promise allows on the same arguments are equal. Made by tests/results.py.
use Rattle.words.proofs.Determined.{same, same_part, Determined, DeterminedPart}
use Rattle.access.proofs.id_at.Reads as id_at_lem
use Rattle.access.proofs.base_at.Reads as base-at
use Rattle.access.proofs.which.Reads as which
use Rattle.access.proofs.which_base.Reads as which-base
use Rattle.access.proofs.lookup.Reads as lookup

pub id_at_determined : DeterminedPart id_at_lem.Learnt
id_at_determined κs a y z d e p q = same_part p q

pub base_at_determined : DeterminedPart base-at.Learnt
base_at_determined κs a y z d e p q = same_part p q

pub which_determined : Determined which.Learnt
which_determined κs a y z d e p q = same p.is q.is

pub which_base_determined : Determined which-base.Learnt
which_base_determined κs a y z d e p q = same p.is q.is

pub lookup_determined : Determined lookup.Learnt
lookup_determined κs a y z d e p q = same p.0.is q.0.is
