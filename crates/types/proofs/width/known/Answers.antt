-- `types::width::known` meets its contract: the test is the definition's own.
use Rattle.std.proofs.Common.{refl}
use Rattle.types.specs.Width.{known}
use Rattle.types.proofs.width.known.Goals as goal

pub returns : goal.returns
unfolding known
returns c = refl
