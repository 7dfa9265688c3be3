-- What making a file's bytes with a record that fits them answers.
use Rattle.std.specs.Prelude.{List, ℕ, ◌≡◌, Result, Err, ⊤, MatchResult}
use Rattle.std.specs.Borrow.{Bor}
use Rattle.words.specs.First.{fine}
use Rattle.types.specs.declared.refusal.Reason.{Reason}
use Rattle.file.specs.declared.File.{File}
use Rattle.fit.specs.declared.parts.Fit.{Fit}

-- these bytes with this record, where a rule refuses nothing; else its refusal
abbrev pub MadeBy : Result ⊤ Reason → Bor (List ℕ) → File → Result Fit Reason → Type 0
MadeBy m s f r = MatchResult r (λ k. (m ≡ fine) × (k.bytes ≡ s) × (k.file ≡ f)) (λ e. m ≡ Err e)
