-- What follows of a known width, and is cited wherever a proof needs it. No law says which width it is.
use Rattle.std.proofs.Common.{ℕ, ◌+◌, ◌*◌, ◌^◌, ◌≤◌, ◌<◌, true, ◌≡◌, arith, mul-le-mul, mul-le-mul_left, le_of_lt, eqb-true}
use Rattle.types.specs.Width.{known}

-- m records of r bytes, of which there are few
pub small_product : (m r : ℕ) → m < 2 ^ 32 → r < 1000 → m * r < 2 ^ 63
small_product m r h g = let z : m * r ≤ 2 ^ 32 * 1000 = mul-le-mul (le_of_lt h) (le_of_lt g) in omega arith

module _ (w : ℕ) (k : known w ≡ true) where
  pub width_bounds : (20 ≤ w) × (w ≤ 32)
  unfolding known
  width_bounds = omega (arith, eqb-true w 20 k)

  -- n ids, and n commits: an id and 16 bytes each
  pub small_ids : (n : ℕ) → n < 2 ^ 32 → n * w < 2 ^ 63
  small_ids n h = small_product n w h (omega (arith, width_bounds))

  pub small_rows : (n : ℕ) → n < 2 ^ 32 → n * (w + 16) < 2 ^ 63
  small_rows n h = small_product n (w + 16) h (omega (arith, width_bounds))

  -- a commit takes 36 bytes at least, and 48 at most
  pub rows_least : (n m : ℕ) → n * (w + 16) ≤ m → n * 36 ≤ m
  rows_least n m h = let z : n * 36 ≤ n * (w + 16) = mul-le-mul_left n (omega (arith, width_bounds)) in omega arith

  pub rows_most : (n : ℕ) → n * (w + 16) ≤ n * 48
  rows_most n = mul-le-mul_left n (omega (arith, width_bounds))
