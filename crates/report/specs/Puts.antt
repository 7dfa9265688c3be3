-- What the private functions promise: a text stands at a place of the buffer, and all else is as it was.
use Rattle.std.specs.Prelude.{ℕ, ◌+◌, ◌≤◌, List, ◌++◌, ◌≡◌, length, take, drop}

-- out is out₀ with s, of at most k bytes, at the place at; next is the place behind it
pub record Puts (k : ℕ) (out₀ : List ℕ) (at : ℕ) (s out : List ℕ) (next : ℕ) : Type 0 where
  pub few : length s ≤ k
  pub place : next ≡ at + length s
  pub room : next ≤ length out₀
  pub size : length out ≡ length out₀
  pub holds : out ≡ take at out₀ ++ s ++ drop next out₀
