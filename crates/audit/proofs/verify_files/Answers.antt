use Rattle.std.proofs.Common.{◌≡◌, arith, Ok, Err}
use Rattle.std.proofs.lemmas.Grind.{common_steps}
use Rattle.types.specs.declared.refusal.Refusal.{Refusal}
use Rattle.graph.specs.Chain.{placed}
use Rattle.audit.proofs.Mapped.{mapped}
use Rattle.audit.proofs.Filing.{filing_begins, filing_stops, filing_next, filing_ends}
use Rattle.audit.proofs.verify_files.Goals as goal
use Rattle.audit.proofs.verify_files.Goals.{In_err-tally, In_ok-tally}

-- file i was refused, and the refusal names it; or it was not
stopped : (c : In_err-tally) → (e : Refusal) × (c.verify_file.result ≡ Err e) × (c.in_err-tally.field-0.0 ≡ placed c.loop-i.i-counter e)
stopped c =
    mapped c.verify_file.result _ (placed c.loop-i.i-counter)
    (λ e h. grind (arith, common_steps)) (λ x h. grind (arith, common_steps))

went : (c : In_ok-tally) → c.verify_file.result ≡ Ok c.in_ok-tally.tally
went c = grind (arith, common_steps)

pub verify_file-requires-clause-i_bound : goal.verify_file-requires-clause-i_bound
verify_file-requires-clause-i_bound c = (omega (arith, c.loop-i-test.true, c.requires.n_value), c.loop-i.invariant.before)

pub loop-i-init : goal.loop-i-init
loop-i-init c = filing_begins _ _ _ _

pub returns-in_err-tally : goal.returns-in_err-tally
returns-in_err-tally c =
    let (e, was, is) = stopped (goal.at.returns-in_err-tally c).In_err-tally in
    grind (arith, filing_stops _ _ _ c.loop-i.invariant c.loop-i-test.true (rw was at c.verify_file.ensures), is)

pub loop-i-preserved : goal.loop-i-preserved
loop-i-preserved c =
    let w = went (goal.at.loop-i-preserved c).In_ok-tally in
    filing_next _ _ _ c.loop-i.invariant c.loop-i-test.true (rw w at c.verify_file.ensures)

pub returns : goal.returns
returns c = filing_ends _ _ _ c.loop-i.invariant c.requires.n_value (omega (arith, c.loop-i-test.false))
