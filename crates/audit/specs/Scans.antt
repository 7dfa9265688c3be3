-- What the private functions of verification hand each other. No rule of the paper is here.
use Rattle.std.specs.Prelude.{ℕ, ◌+◌, ◌-◌, ◌*◌, ◌≤◌, ◌<◌, min, max, ◌≡◌, List, Bool, not, length, get_or, take, drop}
use Rattle.std.specs.Prelude.{ltb, leb, eqb, Option, Result, Ok, Err, ⊤, MatchResult}
use Rattle.words.specs.Big.{be}
use Rattle.words.specs.First.{◌if◌else◌, ◌or◌, fine, first, refuse}
use Rattle.types.specs.Refusals.{refused_at}
use Rattle.types.specs.declared.refusal.Reason.{Reason}
use Rattle.types.specs.declared.refusal.Refusal.{Refusal}
use Rattle.ancestry.specs.Graph.{highest_below, cap}
use Rattle.ancestry.specs.Counts.{counts_of}
use Rattle.list.specs.List.{records_of}
use Rattle.file.specs.declared.File.{File}
use Rattle.commit.specs.declared.Commit.{Commit}
use Rattle.steps.specs.Walks.{Walked, ends, parent, first_walk}
use Rattle.tries.specs.declared.Tried.{Tried}
use Rattle.graph.specs.Chain.{width_in, start_at, open_at, first_at, commits_in, open_from, Listed}
use Rattle.audit.specs.Files.{gen_at, key_at}
use Rattle.audit.specs.Rules.{head_rule, head_place, bad_commit, commit_rules, refused_by, accepted_by}
use Rattle.audit.specs.declared.Verification.{Verification}
use Rattle.audit.specs.declared.tables.Row.{Row}
use Rattle.audit.specs.declared.meets.Met.{Met}
use Rattle.audit.specs.declared.commits.Tally.{Tally}

-- ── the table: a row for each file, and one more ──

-- no file's row
abbrev pub blank : Row
blank = record { start = 0; first = 0; cdat = 0; width = 0 }

-- where file i starts in the chain; its first position; where its CDAT chunk lies in the chain; how wide its ids are
abbrev pub start_in : List Row → ℕ → ℕ
start_in t i = (get_or t i blank).start

abbrev pub first_in : List Row → ℕ → ℕ
first_in t i = (get_or t i blank).first

abbrev pub rows_in : List Row → ℕ → ℕ
rows_in t i = (get_or t i blank).cdat

abbrev pub wide_in : List Row → ℕ → ℕ
wide_in t i = (get_or t i blank).width

-- the bytes of file i
abbrev pub part_by : List ℕ → List Row → ℕ → List ℕ
part_by c t i = take (start_in t (i + 1) - start_in t i) (drop (start_in t i) c)

-- base id j of `ids` is not the w bytes right before where the next file starts, which are there for each of i files
unfoldable pub alien_by : List ℕ → List Row → ℕ → List ℕ → ℕ → Bool
alien_by c t w ids j = not (eqb (be w ids (j * w)) (be w c (start_in t (j + 1) - w)))

-- 61 of a file with i bases, where p says which are alien: the place is the first of these
unfoldable pub alien_rule : (ℕ → Bool) → ℕ → Result ⊤ Refusal
alien_rule p i = refused_at (Err Reason.BaseId if ltb (first p 0 i) i else fine) (first p 0 i)

abbrev pub Reach : List Row → ℕ → ℕ → Type 0
Reach t i w = (j : ℕ) → j < i → w ≤ start_in t (j + 1)

-- where a file's CDAT chunk lies in it
unfoldable pub rows_of : Result File Refusal → ℕ
rows_of (Ok f) = f.cdat
rows_of (Err r) = 0

module _ (z : ℕ) (c l : List ℕ) where
  -- every file is open, and the table is right
  pub record Tabled (t : List Row) : Type 0 where
    pub listed : Listed z c l (records_of z l)
    pub opens : (i : ℕ) → i < records_of z l → (f : File) × (open_at z c l i ≡ Ok f)
    pub long : length t ≡ 257
    pub start : (i : ℕ) → i ≤ records_of z l → start_in t i ≡ start_at z c l i
    pub first : (i : ℕ) → i ≤ records_of z l → first_in t i ≡ first_at z c l i
    pub rows : (i : ℕ) → i < records_of z l → rows_in t i ≡ start_at z c l i + rows_of (open_at z c l i)
    pub wide : (i : ℕ) → i < records_of z l → wide_in t i ≡ width_in (open_at z c l i)

  -- a pass that opens each file: the table, or the first refusal
  abbrev pub Opens : Result (List Row) Refusal → Type 0
  Opens r = MatchResult r (λ t. (open_from z c l 0 (records_of z l) ≡ fine) × Tabled t) (λ e. open_from z c l 0 (records_of z l) ≡ Err e)

  -- the tally of the files before file i
  pub record Before (i : ℕ) (b : Tally) : Type 0 where
    pub counts : b.counts ≡ counts_of (key_at z c l) (first_at z c l i)
    pub highest : b.highest ≡ highest_below (gen_at z c l) (first_at z c l i)

-- what is left of a walk is met, after n parents whose highest generation is h; `limit` is one past the highest position allowed
unfoldable pub met_of : ℕ → (ℕ → ℕ) → Walked → ℕ → ℕ → Result Met Reason
met_of limit gen (ends r) n h = refuse r Err (Ok (record { parents = n; highest = h }))
met_of limit gen (parent p w) n h =
    Err Reason.ParentOut if leb limit p else
    met_of limit gen w (n + 1) (max h (gen p))

-- a commit whose row was answered: its parents m, then 69
unfoldable pub tried_by : Result Met Reason → ℕ → Result Tried Reason
tried_by (Err e) g = Err e
tried_by (Ok m) g =
    Err Reason.Generation if not (eqb g (min (1 + m.highest) cap)) else
    Ok (record { parents = m.parents; generation = g })

unfoldable pub tried_of : ℕ → (ℕ → ℕ) → Result Commit Refusal → Option (List ℕ) → Result Tried Reason
tried_of limit gen (Err r) edge = Err r.reason
tried_of limit gen (Ok x) edge = tried_by (met_of limit gen (first_walk x.first x.second edge) 0 0) x.generation

-- 60 to 63 of file i were tried
abbrev pub JudgedAs : ℕ → List ℕ → List ℕ → ℕ → Result ⊤ Refusal → Type 0
JudgedAs z c l i r = r ≡ refused_at (head_rule z c l i) (head_place z c l i)

-- each commit of file i was tried, with the tally of the files before it
abbrev pub ScannedAs : ℕ → List ℕ → List ℕ → ℕ → Result Tally Refusal → Type 0
ScannedAs z c l i r =
    MatchResult r (λ t. (commit_rules z c l i ≡ fine) × Before z c l (i + 1) t)
    (λ e. refused_at (commit_rules z c l i) (bad_commit z c l i) ≡ Err e)

module _ (z : ℕ) (c l : List ℕ) where
  -- all that file i is held to, and that it was tried, with the tally of the files before it
  unfoldable pub file_rule : ℕ → Result ⊤ Refusal
  file_rule i = refused_at (head_rule z c l i) (head_place z c l i) or refused_at (commit_rules z c l i) (bad_commit z c l i)

  abbrev pub FileAs : ℕ → Result Tally Refusal → Type 0
  FileAs i r =
      MatchResult r (λ t. (file_rule i ≡ fine) × Before z c l (i + 1) t)
      (λ e. file_rule i ≡ Err e)

  -- the answer that the tally of all files gives, or a refusal
  unfoldable pub total_by : Result Tally Refusal → Verification
  total_by (Ok t) = accepted_by (commits_in z c l) t.highest t.counts
  total_by (Err r) = refused_by r

-- an answer for a chain without refusal, or a refusal's
unfoldable pub sound_by : Result Verification Refusal → Verification
sound_by (Ok v) = v
sound_by (Err r) = refused_by r

-- ── for who does not read the list: some list is right for the table, and what is answered is so for each that is ──

-- there is a file i
pub record Home (c : List ℕ) (t : List Row) (i : ℕ) : Type 0 where
  pub z : ℕ
  pub l : List ℕ
  pub tabled : Tabled z c l t
  pub below : i < records_of z l

-- and b is the tally of the files before it
pub record Starts (c : List ℕ) (t : List Row) (i : ℕ) (b : Tally) : Type 0 where
  pub home : Home c t i
  pub before : Before home.z c home.l i b

module _ (c : List ℕ) (t : List Row) (i : ℕ) where
  -- the generation at position g
  abbrev pub GenAs : ℕ → ℕ → Type 0
  GenAs g r = (z : ℕ) (l : List ℕ) → Tabled z c l t → i < records_of z l → r ≡ gen_at z c l g

  -- a walk of a commit of file i was met; a commit of it was tried; each was
  abbrev pub MetAs : Walked → Result Met Reason → Type 0
  MetAs w r = (z : ℕ) (l : List ℕ) → Tabled z c l t → i < records_of z l → r ≡ met_of (first_at z c l (i + 1)) (gen_at z c l) w 0 0

  abbrev pub TriedAs : Result Commit Refusal → Option (List ℕ) → Result Tried Reason → Type 0
  TriedAs a edge r = (z : ℕ) (l : List ℕ) → Tabled z c l t → i < records_of z l
      → r ≡ tried_of (first_at z c l (i + 1)) (gen_at z c l) a edge

  abbrev pub ScansAs : Tally → Result Tally Refusal → Type 0
  ScansAs b r = (z : ℕ) (l : List ℕ) → Tabled z c l t → i < records_of z l → Before z c l i b → ScannedAs z c l i r
