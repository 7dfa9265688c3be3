-- `chunk::nth` meets its contract: each return is the row that its branch names.
use Rattle.std.proofs.Common.{arith}
use Rattle.std.proofs.lemmas.Grind.{common_steps}
use Rattle.types.proofs.Saying.{answers}
use Rattle.words.specs.First.{◌if◌else◌, refuse}
use Rattle.chunk.specs.Index.{checked_of, entry_of, nth_of}
use Rattle.chunk.proofs.nth.Goals as goal

pub returns-in_err-check : goal.returns-in_err-check
unfolding nth_of checked_of refuse
returns-in_err-check c = answers (grind (arith, common_steps))

pub returns-then-count-i : goal.returns-then-count-i
unfolding nth_of checked_of refuse ◌if◌else◌
returns-then-count-i c = answers (grind (arith, common_steps))

pub returns : goal.returns
unfolding nth_of checked_of entry_of refuse ◌if◌else◌
returns c = answers (grind (arith, common_steps))
