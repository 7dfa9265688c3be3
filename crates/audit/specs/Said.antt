-- What each case of `Length` says, a verdict and a verification: a length is 0 and its steps, or 1 where a commit is its own ancestor.
use Rattle.std.specs.Prelude.{ℕ, [], ◌∷◌, ◌++◌, length, Result, Ok, Err}
use Rattle.types.specs.Said.{Said, says, refuses, beside}
use Rattle.audit.specs.declared.Length.{Length}
use Rattle.audit.specs.declared.Length.TheVariants.{Steps, Cyclic}
use Rattle.types.specs.declared.refusal.Refusal.{Refusal}
use Rattle.audit.specs.declared.Summary.{Summary}
use Rattle.audit.specs.declared.Verification.{Verification}

abbrev pub cyclic_of : Length → ℕ
cyclic_of (Steps n) = 0
cyclic_of Cyclic = 1

abbrev pub steps_of : Length → ℕ
steps_of (Steps n) = n
steps_of Cyclic = 0

abbrev pub length_said : Length → Said
length_said x = says (cyclic_of x) (steps_of x ∷ [])

unfoldable pub verdict_said : Result Summary Refusal → Said
verdict_said (Ok s) = says s.commits (cyclic_of s.length ∷ steps_of s.length ∷ [])
verdict_said (Err r) = refuses r

-- how many values the verdict has, these, and the counts
abbrev pub verification_said : Verification → Said
verification_said v = beside (length (verdict_said v.verdict).values) ((verdict_said v.verdict).values ++ v.counts) (verdict_said v.verdict)
