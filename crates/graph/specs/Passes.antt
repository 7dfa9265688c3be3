-- What the private passes over a chain's files give.
use Rattle.std.specs.Prelude.{ℕ, ◌+◌, ◌-◌, ◌≤◌, ◌<◌, List, ◌≡◌, ltb, leb, ◌||◌, Option, Some, None, Result, Ok, Err, MatchResult}
use Rattle.words.specs.First.{◌if◌else◌, fine}
use Rattle.file.specs.declared.File.{File}
use Rattle.words.specs.Sums.{before}
use Rattle.list.specs.List.{records_of, length_at}
use Rattle.graph.specs.Chain.{start_at, open_at, count_at, open_from, opened, commits_in}
use Rattle.graph.specs.declared.locate.Spot.{Spot}
use Rattle.types.specs.declared.refusal.Refusal.{Refusal}
use Rattle.graph.specs.declared.survey.Survey.{Survey}

-- which file is kept after file k, which has n bytes
unfoldable pub kept_of : Option Spot → ℕ → ℕ → ℕ → ℕ → ℕ → ℕ → File → Option Spot
kept_of old g sum next k at n f =
    old if (ltb g sum) || (leb next g) else
    Some (record { file = k; start = at; size = n; pos = record { 0 = g - sum }; inner = f })

-- the file that has position g, where it is one of the first k
pub record Holds (z : ℕ) (c l : List ℕ) (g k : ℕ) (r : Spot) : Type 0 where
  pub below : r.file < k
  pub start : r.start ≡ start_at z c l r.file
  pub size : r.size ≡ length_at z l r.file
  pub sum : before (count_at z c l) r.file + r.pos.0 ≡ g
  pub high : r.pos.0 < count_at z c l r.file
  pub inner : open_at z c l r.file ≡ Ok r.inner

pub record Kept (z : ℕ) (c l : List ℕ) (g k : ℕ) (r : Option Spot) : Type 0 where
  pub holds : (s : Spot) → r ≡ Some s → Holds z c l g k s
  pub outside : r ≡ None → before (count_at z c l) k ≤ g

-- a pass over n files, which all open
pub record Passed (z : ℕ) (c l : List ℕ) (n g : ℕ) (s : Survey) : Type 0 where
  pub opens : open_from z c l 0 n ≡ fine
  pub commits : s.commits ≡ before (count_at z c l) n
  pub kept : Kept z c l g n s.spot

abbrev pub Surveyed : ℕ → List ℕ → List ℕ → ℕ → ℕ → Result Survey Refusal → Type 0
Surveyed z c l n g r = MatchResult r (Passed z c l n g) (λ e. open_from z c l 0 n ≡ Err e)

-- a chain that opens, and the position asked
pub record Seen (z : ℕ) (c l : List ℕ) (g : ℕ) (s : Survey) : Type 0 where
  pub opens : opened z c l ≡ fine
  pub commits : s.commits ≡ commits_in z c l
  pub kept : Kept z c l g (records_of z l) s.spot

abbrev pub Viewed : ℕ → List ℕ → List ℕ → ℕ → Result Survey Refusal → Type 0
Viewed z c l g r = MatchResult r (Seen z c l g) (λ e. opened z c l ≡ Err e)
