use Rattle.std.proofs.Common.{◌+◌, ◌≤◌, ◌≡◌, refl, ap, arith, length}
use Rattle.graph.specs.Chain.{part_at}
use Rattle.graph.proofs.Passing.{opens_as, part_is}
use Rattle.audit.proofs.Tabling.{tabling_begins, tabling_refused, tabling_ends, tabling_room, tabling_next}
use Rattle.audit.proofs.tables.survey.Goals as goal
use Rattle.audit.proofs.tables.survey.Goals.{After-part-s, In_ok-f}

-- what is cut out is file k
cut : (c : After-part-s) → c.part-s.result.now ≡ part_at c.args.z c.args.chain.now c.args.list.now c.loop-k.k
cut c = part_is _ c.requires.1 _ c.loop-k-test.true c.loop-k.invariant.along.place c.length_at.ensures _ c.part-s.ensures

-- it is open, and the sums fit
room : (c : In_ok-f) → c.part-s.result.now ≡ part_at c.args.z c.args.chain.now c.args.list.now c.loop-k.k
    → (c.loop-k.first + c.in_ok-f.f.commits ≤ 1073741824) × (c.loop-k.start + length c.part-s.result.now ≤ 1073741824)
    × (c.loop-k.start + c.in_ok-f.f.cdat ≤ 1073741824)
room c y =
    let r = tabling_room _ _ _ c.requires.1 c.loop-k.invariant c.loop-k-test.true (opens_as _ _ _ _ y c.in_ok-f.ensures) in
    (r.0, omega (arith, r.1, ap length y), r.2)

pub loop-k-init : goal.loop-k-init
loop-k-init c = tabling_begins _ _ _ c.requires.1 _ refl

pub returns-in_err-f : goal.returns-in_err-f
returns-in_err-f c =
    grind (
      arith,
      tabling_refused _ _ _ c.requires.1 c.loop-k.invariant c.requires.0 c.loop-k-test.true
          (cut (goal.at.returns-in_err-f c).After-part-s) c.in_err-f.ensures,
    )

pub overflow_add-table : goal.overflow_add-table
overflow_add-table c = let at = goal.at.overflow_add-table c in omega (arith, room at.In_ok-f (cut at.After-part-s))

pub overflow_add-start : goal.overflow_add-start
overflow_add-start c = let at = goal.at.overflow_add-start c in omega (arith, room at.In_ok-f (cut at.After-part-s))

pub overflow_add-first : goal.overflow_add-first
overflow_add-first c = let at = goal.at.overflow_add-first c in omega (arith, room at.In_ok-f (cut at.After-part-s))

pub loop-k-preserved : goal.loop-k-preserved
loop-k-preserved c =
    let y = cut (goal.at.loop-k-preserved c).After-part-s in
    tabling_next _ _ _ c.requires.1 c.loop-k.invariant c.loop-k-test.true (opens_as _ _ _ _ y c.in_ok-f.ensures) (ap length y)

pub returns : goal.returns
returns c = tabling_ends _ _ _ c.requires.1 c.loop-k.invariant c.requires.0 c.loop-k-test.false
