-- `block::schedule_of` meets its contract. The invariant of both loops: `w` has 80 words, and its first t are the first t of the block's schedule.
-- Each turn stores the next word (`own`, `mixed`).
use Rattle.std.proofs.Common.{◌≡◌, length, take}
use Rattle.block.specs.Fips.{schedule}
use Rattle.block.proofs.schedule_of.Given as goal

abbrev pub invariant-own : goal.invariant-own
invariant-own l = (length l.w ≡ 80) × (take l.t l.w ≡ schedule l.block l.t)

abbrev pub invariant-mixed : goal.invariant-mixed
invariant-mixed l = (length l.w ≡ 80) × (take l.t l.w ≡ schedule l.block l.t)
