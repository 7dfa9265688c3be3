-- `words::part::part` meets its contract: where `room` says so the records lie in the slice, and its bytes are theirs (`span`, `cut`); else the empty
-- part is what is asked for (`uncut`).
use Rattle.std.proofs.Common.{arith, refl, ◌*◌}
use Rattle.words.proofs.Parts.{cut, uncut, span}
use Rattle.words.proofs.part.part.Goals as goal

pub returns-then-room : goal.returns-then-room
returns-then-room c =
    let a = c.args in
    cut _ _ _ c.room.ensures c.if-room.true
    (record { block = refl; start = omega arith; bytes = span a.at (a.count * a.w) a.s.now })

pub returns-else-room : goal.returns-else-room
returns-else-room c =
    uncut _ _ _ c.room.ensures c.if-room.false (record { block = refl; start = omega arith; bytes = refl })
