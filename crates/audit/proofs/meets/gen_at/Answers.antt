-- `audit::meets::gen_at` meets its contract: what it cuts out is the CDAT chunk of the file that has position g.
use Rattle.std.proofs.Common.{ap, ◌∙◌, arith, ℕ, ◌+◌, ◌-◌, ◌*◌, ◌/◌, ◌≤◌}
use Rattle.audit.specs.Scans.{first_in, wide_in}
use Rattle.audit.proofs.Tabling.{from_none, row_room, gen_room, gen_read}
use Rattle.audit.proofs.meets.gen_at.Goals as goal
use Rattle.audit.proofs.meets.gen_at.Goals.{After-file_of-i}

pub file_of-i-requires : goal.file_of-i-requires
file_of-i-requires c =
    let home = c.requires.home in
    (row_room _ _ _ home.tabled _ home.below, from_none _ _ _ home.tabled _, c.requires.g_bound)

-- the row that is read lies in the chain
room : (c : After-file_of-i) → let t = c.args.table.now in let i = c.file_of-i.result in
    (c.args.g - first_in t i) * (wide_in t i + 16) + (wide_in t i + 16) ≤ 1073741824
room c =
    let home = c.requires.home in
    let e = c.file_of-i.ensures in
    gen_room c.args.chain home.tabled _ _ (omega (arith, e.0, home.below)) e.1 e.2

pub overflow_add-size : goal.overflow_add-size
overflow_add-size c = omega (arith, room (goal.at.overflow_add-size c).After-file_of-i)

pub overflow_mul-g : goal.overflow_mul-g
overflow_mul-g c = omega (arith, room (goal.at.overflow_mul-g c).After-file_of-i)

pub overflow_add-g : goal.overflow_add-g
overflow_add-g c = omega (arith, room (goal.at.overflow_add-g c).After-file_of-i)

pub overflow_add-g-2 : goal.overflow_add-g-2
overflow_add-g-2 c = omega (arith, room (goal.at.overflow_add-g-2 c).After-file_of-i)

pub returns : goal.returns
returns c =
    let e = c.file_of-i.ensures in
    λ z l p h. ap (λ (n : ℕ). n / 4) c.be32.ensures
    ∙ gen_read _ p _ _ (omega (arith, e.0, h)) e.1 e.2 _ c.part-cdat.ensures
