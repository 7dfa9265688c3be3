-- Any two results that a public function's promise allows on the same arguments are equal. Made by tests/results.py.
use Rattle.words.proofs.Determined.{same, Determined}
use Rattle.places.proofs.chunk_part.Reads as chunk_part
use Rattle.places.proofs.id_part.Reads as id_part_lem
use Rattle.places.proofs.base_part.Reads as base-part
use Rattle.places.proofs.tree_part.Reads as tree_part_lem
use Rattle.places.proofs.sum_part.Reads as sum-part
use Rattle.places.proofs.chain_id.Reads as chain-id
use Rattle.places.proofs.chain_tree.Reads as chain-tree

pub chunk_part_determined : Determined chunk_part.Learnt
chunk_part_determined κs a y z d e p q = same p q

pub id_part_determined : Determined id_part_lem.Learnt
id_part_determined κs a y z d e p q = same p q

pub base_part_determined : Determined base-part.Learnt
base_part_determined κs a y z d e p q = same p q

pub tree_part_determined : Determined tree_part_lem.Learnt
tree_part_determined κs a y z d e p q = same p q

pub sum_part_determined : Determined sum-part.Learnt
sum_part_determined κs a y z d e p q = same p q

pub chain_id_determined : Determined chain-id.Learnt
chain_id_determined κs a y z d e p q = same p q

pub chain_tree_determined : Determined chain-tree.Learnt
chain_tree_determined κs a y z d e p q = same p q
