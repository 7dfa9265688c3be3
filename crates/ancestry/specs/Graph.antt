-- The commits of a chain as a graph: runs of parent steps, right generations, and what a length says of them.
-- "A commit is a graph position": the commits are the numbers below n, `parents c` the positions that c's walk answers, `gen c` c's generation.
use Rattle.std.specs.Prelude.{◌≡◌, cond, ℕ, zero, suc, ◌+◌, ◌-◌, ◌≤◌, ◌<◌, min, max, eqb}
use mathlib.Core.List.{List, [], ◌∷◌, Memᴰ}
use Rattle.std.proofs.Math.Option.{Option, none, some}

-- "a parent step goes from a commit to any position its walk answers": k parent steps lead from c to d
pub data Run (parents : ℕ → List ℕ) : ℕ → ℕ → ℕ → Type 0 where
  stay : {c : ℕ} → Run parents c c zero
  step : {c p d k : ℕ} → Memᴰ p (parents c) → Run parents p d k → Run parents c d (suc k)

-- a is an ancestor of c: one parent step or more leads from c to a
abbrev pub Ancestor : (ℕ → List ℕ) → ℕ → ℕ → Type 0
Ancestor parents a c = (k : ℕ) × Run parents c a (suc k)

-- "no commit is its own ancestor"
abbrev pub Acyclic : (ℕ → List ℕ) → ℕ → Type 0
Acyclic parents n = (c : ℕ) → c < n → Ancestor parents c c → ⊥

-- some commit is its own ancestor
abbrev pub Cyclic : (ℕ → List ℕ) → ℕ → Type 0
Cyclic parents n = (c : ℕ) × (c < n) × Ancestor parents c c

-- "some run of parent steps has that length"
abbrev pub HasRun : (ℕ → List ℕ) → ℕ → ℕ → Type 0
HasRun parents n l = (c : ℕ) × (c < n) × (d : ℕ) × Run parents c d l

-- "none is longer"
abbrev pub NoLonger : (ℕ → List ℕ) → ℕ → ℕ → Type 0
NoLonger parents n l = (c d k : ℕ) → c < n → Run parents c d k → k ≤ l

-- "the highest among the parents' (0 for no parents)"
unfoldable pub highest_in : (ℕ → ℕ) → List ℕ → ℕ
highest_in gen [] = 0
highest_in gen (p ∷ ps) = max (gen p) (highest_in gen ps)

-- "highest generation", of the commits below n; 0 for none
unfoldable pub highest_below : (ℕ → ℕ) → ℕ → ℕ
highest_below gen zero = 0
highest_below gen (suc n) = max (highest_below gen n) (gen n)

-- the highest generation that an entry can hold
abbrev pub cap : ℕ
cap = 1073741823

-- "one more than the highest among the parents' .., or 1,073,741,823 if that is lower"
abbrev pub right_gen : (ℕ → ℕ) → List ℕ → ℕ
right_gen gen ps = min (1 + highest_in gen ps) cap

-- "the length: highest generation less 1, 0 for no commits, no length if it is 1,073,741,823"
unfoldable pub length_of : ℕ → Option ℕ
length_of h = cond (eqb h cap) none (some (h - 1))

-- what acceptance shows of a chain
pub record Numbered (n : ℕ) (parents : ℕ → List ℕ) (gen : ℕ → ℕ) : Type 0 where
  -- 36 bytes a commit, in at most 1 GiB
  pub few : n < cap
  -- no refusal 68: each parent is a commit
  pub inside : (c p : ℕ) → c < n → Memᴰ p (parents c) → p < n
  -- no refusal 69: each generation is right
  pub right : (c : ℕ) → c < n → gen c ≡ right_gen gen (parents c)

-- demand 3 of an answer: a length, or none
pub record Agrees (n : ℕ) (parents : ℕ → List ℕ) (answer : Option ℕ) : Type 0 where
  -- "a length is given exactly when no commit is its own ancestor"
  pub given : Acyclic parents n → (l : ℕ) × (answer ≡ some l)
  pub acyclic : (l : ℕ) → answer ≡ some l → Acyclic parents n
  -- and where none is given, one that is its own ancestor can be shown
  pub cyclic : answer ≡ none → Cyclic parents n
  -- "and then some run of parent steps has that length and none is longer"; a run starts at a commit, so there must be one
  pub reached : (l : ℕ) → answer ≡ some l → 0 < n → HasRun parents n l
  pub longest : (l : ℕ) → answer ≡ some l → NoLonger parents n l
  -- "a chain without commits has length 0"
  pub empty : n ≡ 0 → answer ≡ some 0
