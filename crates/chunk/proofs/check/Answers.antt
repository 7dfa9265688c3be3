use Rattle.std.proofs.Common.{arith}
use Rattle.std.proofs.lemmas.Grind.{common_steps}
use Rattle.words.specs.First.{◌if◌else◌, refuse}
use Rattle.words.proofs.Searches.{searching}
use Rattle.chunk.specs.Index.{bad, bad_entry, index_rule, index_place, checked_of}
use Rattle.chunk.proofs.check.Goals as goal

pub returns-then-s-c : goal.returns-then-s-c
unfolding checked_of refuse index_rule index_place ◌if◌else◌
returns-then-s-c c = grind (arith, common_steps)

pub loop-i-init : goal.loop-i-init
loop-i-init c = search searching

pub returns-in_err-map_err : goal.returns-in_err-map_err
unfolding checked_of refuse index_rule index_place bad_entry bad ◌if◌else◌
returns-in_err-map_err c = grind (arith, common_steps, searching)

pub loop-i-preserved : goal.loop-i-preserved
unfolding bad
loop-i-preserved c = grind (arith, common_steps, searching)

pub returns-then-id-ne0 : goal.returns-then-id-ne0
unfolding checked_of refuse index_rule index_place bad_entry ◌if◌else◌
returns-then-id-ne0 c = grind (arith, common_steps, searching)

pub returns : goal.returns
unfolding checked_of refuse index_rule index_place bad_entry ◌if◌else◌
returns c = grind (arith, common_steps, searching)
