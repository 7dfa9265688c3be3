use Rattle.std.proofs.Common.{arith}
use Rattle.words.proofs.Rows.{rows}
use Rattle.rules.specs.Rules.{id_rule}
use Rattle.rules.proofs.Entries.{id_said}
use Rattle.rules.proofs.id_rule.Goals as goal

pub returns-then-zero : goal.returns-then-zero
unfolding id_rule
returns-then-zero c = grind (arith, rows, id_said)
