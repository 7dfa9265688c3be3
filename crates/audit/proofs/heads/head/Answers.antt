-- `audit::heads::head` meets its contract: the bases, the first that is alien, the sum and the name, each as its rule.
use Rattle.std.proofs.Common.{ℕ, ◌*◌, ◌≡◌, ap, ◌∙◌, arith}
use Rattle.words.proofs.Parts.{records_in}
use Rattle.fit.specs.Fits.{base_part}
use Rattle.graph.specs.Chain.{part_at}
use Rattle.audit.proofs.Tabling.{is_open, row_room}
use Rattle.audit.proofs.Heading.{bases_long, reaches, head_bases, head_base, head_sum, head_name, head_fine}
use Rattle.audit.proofs.heads.head.Goals as goal
use Rattle.audit.proofs.heads.head.Goals.{After-part-ids}

-- the ids are those of the bases
ids : (c : After-part-ids) → let a = c.args in c.part-ids.result.now ≡ base_part (part_at a.z a.chain.now a.list.now a.i) a.f
ids c =
    let q = c.requires.i_bound.2 in
    (records_in _ _ _ _ _ (rw q (is_open _ _ _ _ c.requires.i_bound.1).fitted.base) c.part-ids.ensures).bytes ∙ rw q

pub returns-then-f-i : goal.returns-then-f-i
returns-then-f-i c = rw c.at.ensures (head_bases _ _ _ _ c.requires.i_bound.1 c.if-f-i.true)

pub bases-requires : goal.bases-requires
bases-requires c =
    let p = c.requires.tabled in
    let h = c.requires.i_bound.0 in
    let o = c.requires.i_bound.1 in
    let e = ap (λ (n : ℕ). n * c.args.f.width) c.if-f-i.false in
    let b = ids (goal.at.bases-requires c).After-part-ids in
    (omega (arith, row_room _ _ _ p _ h), omega (arith, bases_long _ _ _ p h o b, e), reaches _ _ _ p h o)

pub returns-in_err-bases : goal.returns-in_err-bases
returns-in_err-bases c =
    let q = c.requires.i_bound in
    let b = ids (goal.at.returns-in_err-bases c).After-part-ids in
    grind (arith, head_base _ _ _ _ q.1 c.requires.tabled q.0 q.2 c.if-f-i.false b c.in_err-bases.ensures)

pub returns-in_err-sum_in : goal.returns-in_err-sum_in
returns-in_err-sum_in c =
    let q = c.requires.i_bound in
    let b = ids (goal.at.returns-in_err-sum_in c).After-part-ids in
    grind (arith, head_sum _ _ _ _ q.1 c.requires.tabled q.0 q.2 c.if-f-i.false b c.in_ok-bases.ensures c.in_err-sum_in.ensures)

pub returns-in_err-name_in : goal.returns-in_err-name_in
returns-in_err-name_in c =
    let q = c.requires.i_bound in
    let b = ids (goal.at.returns-in_err-name_in c).After-part-ids in
    grind (arith, head_name _ _ _ _ q.1 c.requires.tabled q.0 q.2 c.if-f-i.false b c.in_ok-bases.ensures c.in_ok-sum_in.ensures c.in_err-name_in.ensures)

pub returns : goal.returns
returns c =
    let q = c.requires.i_bound in
    let b = ids (goal.at.returns c).After-part-ids in
    head_fine _ _ _ _ q.1 c.requires.tabled q.0 q.2 c.if-f-i.false b c.in_ok-bases.ensures c.in_ok-sum_in.ensures c.in_ok-name_in.ensures
