-- `audit::heads::bases` meets its contract. The invariant: no base before j is alien, so that the first alien one from j on is the first of all. Each turn
-- holds base j against the bytes before where file j + 1 starts.
use Rattle.std.proofs.Common.{◌-◌, ◌≡◌}
use Rattle.words.specs.First.{first}
use Rattle.audit.specs.Scans.{alien_by}
use Rattle.audit.proofs.heads.bases.Given as goal

abbrev pub invariant-loop-j : goal.invariant-loop-j
invariant-loop-j l = first (alien_by l.chain l.table l.w l.ids) 0 l.i ≡ first (alien_by l.chain l.table l.w l.ids) l.j (l.i - l.j)
