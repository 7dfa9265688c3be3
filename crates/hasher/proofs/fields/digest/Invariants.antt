-- `hasher::fields::digest` meets its contract. The invariant: `out` has 20 bytes, and its first 4i are the bytes of the first i words.
-- Each turn stores the four bytes of word i (`word_stored`).
use Rattle.std.proofs.Common.{◌≡◌, ◌*◌, length, take}
use Rattle.hasher.specs.Message.{bytes}
use Rattle.hasher.proofs.fields.digest.Given as goal

abbrev pub invariant-loop-i : goal.invariant-loop-i
invariant-loop-i l = (length l.out ≡ 20) × (take (4 * l.i) l.out ≡ bytes (take l.i l.w))
