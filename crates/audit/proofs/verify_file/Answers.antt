-- `audit::verify_file` meets its contract: what is cut is file i, which is open by the table; it is held to 60 to 63, and then its commits are scanned.
use Rattle.std.proofs.Common.{◌≡◌, sym, ◌∙◌, arith}
use Rattle.graph.specs.Chain.{part_at}
use Rattle.graph.proofs.Passing.{open_is, part_is}
use Rattle.audit.proofs.Tabling.{part_by_lem}
use Rattle.audit.proofs.Filing.{table_length, no_refusal, file_headed, file_scanned}
use Rattle.audit.proofs.verify_file.Goals as goal
use Rattle.audit.proofs.verify_file.Goals.{After-part-s}

cut : (c : After-part-s) → c.part-s.result.now ≡ part_at c.args.z c.args.chain.now c.args.list.now c.args.i
cut c =
    let p = c.requires.tabled in
    let h = c.requires.i_bound.0 in
    part_is _ p.listed _ h (p.start _ (omega (arith, h))) (omega (arith, table_length _ _ _ p _ h)) _ c.part-s.ensures

pub overflow_sub-table : goal.overflow_sub-table
overflow_sub-table c = omega (arith, table_length _ _ _ c.requires.tabled _ c.requires.i_bound.0)

pub returns-in_err-f : goal.returns-in_err-f
returns-in_err-f c =
    absurd (no_refusal _ _ _ c.requires.tabled c.args.i c.requires.i_bound.0
    (open_is _ _ _ _ (cut (goal.at.returns-in_err-f c).After-part-s) c.«open».ensures.is c.in_err-f.was))

pub head-requires-clause-i_bound : goal.head-requires-clause-i_bound
head-requires-clause-i_bound c =
    let y = cut (goal.at.head-requires-clause-i_bound c).After-part-s in
    (c.requires.i_bound.0, open_is _ _ _ _ y c.«open».ensures.is c.in_ok-f.was, y)

pub returns-in_err-head : goal.returns-in_err-head
returns-in_err-head c = let k = file_headed _ _ _ _ c.head.ensures c.in_err-head.was in grind (arith, k)

pub scan-requires-clause-starts : goal.scan-requires-clause-starts
scan-requires-clause-starts c =
    record { home = record { z = _; l = _; tabled = c.requires.tabled; below = c.requires.i_bound.0 }; before = c.requires.i_bound.1 }

pub scan-requires-clause-s_value : goal.scan-requires-clause-s_value
scan-requires-clause-s_value c =
    let y = cut (goal.at.scan-requires-clause-s_value c).After-part-s in
    (y ∙ sym (part_by_lem _ _ _ c.requires.tabled _ c.requires.i_bound.0), sym c.«open».ensures.is ∙ c.in_ok-f.was)

pub returns : goal.returns
returns c =
    file_scanned _ _ _ _ c.head.ensures c.in_ok-head.was _ (c.scan.ensures _ _ c.requires.tabled c.requires.i_bound.0 c.requires.i_bound.1)
