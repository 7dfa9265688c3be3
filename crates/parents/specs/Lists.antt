-- The parent list: document 01, "Parent list". The walk to its end, written over the front of a lent list; walk refusals come before 55.
use Rattle.std.specs.Prelude.{ℕ, List, [], ◌∷◌, length, ltb, Result, Ok, Err}
use Rattle.words.specs.First.{◌if◌else◌}
use Rattle.types.specs.Refusals.{refusal}
use Rattle.file.specs.declared.File.{File}
use Rattle.steps.specs.Walks.{positions}
use Rattle.parents.specs.Walks.{walk_of, total_of}
use Rattle.types.specs.declared.refusal.Refusal.{Refusal}
use Rattle.types.specs.declared.refusal.Reason.TheVariants as Reason

-- ps over the front of xs: what lies past the last of ps stays, and so does the length
unfoldable pub overlay : List ℕ → List ℕ → List ℕ
overlay [] xs = xs
overlay (p ∷ ps) [] = []
overlay (p ∷ ps) (x ∷ xs) = p ∷ overlay ps xs

-- the answer for commit i and a list of m entries
unfoldable pub fit_total : ℕ → ℕ → Result ℕ Refusal → Result ℕ Refusal
fit_total i m (Ok n) = Err (refusal Reason.ListFull i) if ltb m n else Ok n
fit_total i m (Err r) = Err r

unfoldable pub list_of : List ℕ → File → ℕ → ℕ → Result ℕ Refusal
list_of l f i m = fit_total i m (total_of l f i)

-- what the list xs holds after that answer; nothing is written where it is a refusal
unfoldable pub held_by : Result ℕ Refusal → List ℕ → List ℕ → List ℕ
held_by (Ok n) ps xs = overlay ps xs
held_by (Err r) ps xs = xs

unfoldable pub held_of : List ℕ → File → ℕ → List ℕ → List ℕ
held_of l f i xs = held_by (list_of l f i (length xs)) (positions (walk_of l f i)) xs
