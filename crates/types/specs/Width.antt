-- The widths that an id can have, in bytes: a digest of SHA-1, hash version 1 (gitformat-commit-graph, HEADER), has 20. It is shut: a proof that says
-- `unfolding known` is one that another width would change.
use Rattle.std.specs.Prelude.{ℕ, Bool, eqb}

unfoldable pub known : ℕ → Bool
known w = eqb w 20
