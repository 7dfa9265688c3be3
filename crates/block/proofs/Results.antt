-- Any two results that a public function's promise allows on the same arguments are equal. Made by tests/results.py.
use Rattle.words.proofs.Determined.{same, Determined}
use Rattle.block.proofs.blocks.Reads as blocks

pub blocks_determined : Determined blocks.Learnt
blocks_determined κs a y z d e p q = same p q
