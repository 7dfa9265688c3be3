-- `audit::verify_files` meets its contract. The invariant, `Filing`: verification from file i on answers as from the first on, and the tally is that of the
-- files before i. Each turn verifies file i (`filing_next`).
use Rattle.audit.proofs.Filing.{Filing}
use Rattle.audit.proofs.verify_files.Given as goal

abbrev pub invariant-loop-i : goal.invariant-loop-i
invariant-loop-i l = Filing l.z l.chain l.list l.n l.i-counter l.tally
