-- `name::hash` meets its contract. The invariant: the first 2 i bytes are digits, and the first i bytes of `hash` are what they make.
use Rattle.std.proofs.Common.{◌≡◌, ◌*◌, true, length, take, is_some}
use Rattle.std.specs.List.{list_all}
use Rattle.name.specs.Names.{digit_of, hash_of}
use Rattle.name.proofs.hash.Given as goal

abbrev pub invariant-loop-i : goal.invariant-loop-i
invariant-loop-i l =
    (list_all (λ b. is_some (digit_of b)) (take (2 * l.i) l.digits) ≡ true) × (length l.hash ≡ 20) × (take l.i l.hash ≡ hash_of l.digits l.i)
