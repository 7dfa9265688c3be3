-- The trailer alone: document 01, refusal 62, of a file's bytes p and its record f.
use Rattle.std.specs.Prelude.{ℕ, List, Result, ⊤}
use Rattle.words.specs.First.{◌or◌}
use Rattle.types.specs.declared.refusal.Reason.{Reason}
use Rattle.fit.specs.Fits.{fit_rule}
use Rattle.file.specs.declared.File.{File}
use Rattle.rules.specs.Rules.{sum_rule}

-- 40 where it does not fit the bytes, then 62
unfoldable pub checksum_rule : List ℕ → File → Result ⊤ Reason
checksum_rule p f = fit_rule p f or sum_rule f.width p
