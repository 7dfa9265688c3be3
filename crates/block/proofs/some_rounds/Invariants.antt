-- `block::some_rounds` meets its contract. The invariant: if the words at the start are what `from` rounds make of some h, `s` is what t rounds make of it.
-- Each turn is one round more (`turned`).
use Rattle.std.proofs.Common.{◌≡◌, ℕ, List}
use Rattle.block.specs.Fips.{rounds}
use Rattle.block.proofs.some_rounds.Given as goal

abbrev pub invariant-loop-t : goal.invariant-loop-t
invariant-loop-t l = (h : List ℕ) → l.initial.s ≡ rounds l.w h l.from → l.s ≡ rounds l.w h l.t
