-- `report::report` meets its contract: a readable input has its list in it, so that both parts can be taken; what was written is what is printed.
use Rattle.std.proofs.Common.{◌≤◌, sym, arith, length, rules}
use Rattle.report.specs.Output.{line, others}
use Rattle.report.proofs.Reading.{inside, output_read, output_none, printed}
use Rattle.report.proofs.report.Goals as goal
use Rattle.report.proofs.report.Goals.{In-Some}

-- the chain starts behind the list's length, and in the input
within : (c : In-Some) → (4 ≤ c.in-Some.from) × (c.in-Some.from ≤ length c.args.input.now)
within c = inside _ (sym c.in-Some.ensures)

pub slice_bounds-verify-count : goal.slice_bounds-verify-count
slice_bounds-verify-count c = omega (arith, within (goal.at.slice_bounds-verify-count c).In-Some)

pub slice_bounds-verify-start : goal.slice_bounds-verify-start
slice_bounds-verify-start c = let h = within (goal.at.slice_bounds-verify-start c).In-Some in search rules

pub slice_bounds-verify-count-in-Some : goal.slice_bounds-verify-count-in-Some
slice_bounds-verify-count-in-Some c = omega (arith, within (goal.at.slice_bounds-verify-count-in-Some c).In-Some)

pub slice_bounds-verify-start-in-Some : goal.slice_bounds-verify-start-in-Some
slice_bounds-verify-start-in-Some c = let h = within (goal.at.slice_bounds-verify-start-in-Some c).In-Some in search rules

pub slice_bounds-verify-end-in-Some : goal.slice_bounds-verify-end-in-Some
slice_bounds-verify-end-in-Some c = let h = within (goal.at.slice_bounds-verify-end-in-Some c).In-Some in search rules

pub returns-in-Some : goal.returns-in-Some
returns-in-Some c =
    let p = printed c.args.input.now (output_read _ (sym c.in-Some.ensures) c.verify.ensures.exact.is) c.answer.ensures in
    record { size = p.0; holds = p.1.0; part = p.1.1 }

pub returns-in-None : goal.returns-in-None
unfolding line others
returns-in-None c =
    let p = printed c.args.input.now (output_none _ (sym c.in-None.ensures)) c.word.ensures in
    record { size = p.0; holds = p.1.0; part = p.1.1 }
