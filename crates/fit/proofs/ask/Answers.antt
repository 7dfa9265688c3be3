-- `fit::ask` meets its contract: the fit's refusal comes first, then 40 where `i` is not below `n`.
use Rattle.std.proofs.Common.{arith}
use Rattle.std.proofs.lemmas.Grind.{common_steps}
use Rattle.words.specs.First.{◌if◌else◌, ◌or◌}
use Rattle.fit.specs.Fits.{ask_rule}
use Rattle.fit.proofs.ask.Goals as goal

pub returns-in_err-fit : goal.returns-in_err-fit
unfolding ask_rule ◌or◌
returns-in_err-fit c = grind (arith, common_steps)

pub returns-then-n-i : goal.returns-then-n-i
unfolding ask_rule ◌or◌ ◌if◌else◌
returns-then-n-i c = grind (arith, common_steps)

pub returns : goal.returns
unfolding ask_rule ◌or◌ ◌if◌else◌
returns c = grind (arith, common_steps)
