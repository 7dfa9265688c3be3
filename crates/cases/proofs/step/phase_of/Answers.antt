-- `cases::step::phase_of` meets its contract: it is the function of `steps`.
use Rattle.types.proofs.Saying.{answers}
use Rattle.std.proofs.Common.{rules}
use Rattle.cases.proofs.step.phase_of.Goals as goal

pub returns : goal.returns
returns c = answers (search rules)
