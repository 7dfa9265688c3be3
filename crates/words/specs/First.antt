-- Rows of a table, and the first number at which a test holds.
use Rattle.std.specs.Prelude.{ℕ, zero, suc, ◌+◌, Bool, true, false, Result, Ok, Err, ⊤}

infixr 10 ◌if◌else◌
-- a row of a table: its answer where its test holds, else what the rows after it say
unfoldable pub ◌if◌else◌ : {A : Type 0} → A → Bool → A → A
◌if◌else◌ n true rest = n
◌if◌else◌ n false rest = rest

-- no refusal
abbrev pub fine : {E : Type 0} → Result ⊤ E
fine = Ok tt

-- a stage: where it refuses the answer that its refusal makes, else what comes after
unfoldable pub refuse : {A E : Type 0} → Result ⊤ E → (E → A) → A → A
refuse (Ok u) by rest = rest
refuse (Err e) by rest = by e

infixr 9 ◌or◌
-- a refusal, or where there is none what comes after
unfoldable pub ◌or◌ : {E : Type 0} → Result ⊤ E → Result ⊤ E → Result ⊤ E
◌or◌ (Ok u) rest = rest
◌or◌ (Err e) rest = Err e

-- the first of the k numbers from i at which p holds, and i + k where there is none
unfoldable pub first : (ℕ → Bool) → ℕ → ℕ → ℕ
first p i zero = i
first p i (suc k) = i if p i else first p (i + 1) k
