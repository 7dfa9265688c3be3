-- What was said of commit i of a file's parts, and what was cut out of a file's bytes.
use Rattle.std.proofs.Common.{ℕ, ◌+◌, ◌*◌, ◌≤◌, ◌<◌, max, List, Bool, ◌≡◌, ap, sym, ◌∙◌, arith, length, get_or, set, le-ltb, Result, Ok, Err, is_err}
use Rattle.std.specs.Prelude.{Option, ⊤}
use Rattle.types.specs.Refusals.{refusal}
use Rattle.types.specs.declared.refusal.Reason.{Reason}
use Rattle.types.specs.declared.refusal.Refusal.{Refusal}
use Rattle.words.specs.First.{◌if◌else◌, fine, first, refuse}
use Rattle.words.proofs.Parts.{length_part}
use Rattle.words.proofs.Rows.{refuse_other}
use Rattle.fit.specs.Facts.{Opened}
use Rattle.fit.specs.Fits.{fan_part, ids_part, rows_part, edge_chunk}
use Rattle.fit.proofs.Fitting.{run_within}
use Rattle.file.specs.declared.File.{File}
use Rattle.commit.specs.Commits.{commit_of, commit_in, row_rule, not_commit}
use Rattle.commit.specs.declared.Commit.{Commit}
use Rattle.rules.specs.Rules.{entry_rule, entry_in}
use Rattle.rules.proofs.Entries.{entry_plain}
use Rattle.ancestry.specs.Graph.{highest_below}
use Rattle.ancestry.specs.Counts.{key_of, counts_of}
use Rattle.ancestry.proofs.Scans.{Sofar, first_rule, sofar_next, sofar_stops, sofar_ends, highest_adds, counts_adds, counts_small}
use Rattle.tries.specs.Tries.{Parts, parts_of, Holds, row_in, told}
use Rattle.tries.specs.declared.Tried.{Tried}

-- what entry i of parts meets, and its commit
abbrev pub entry_of : Parts → ℕ → Result ⊤ Reason
entry_of q i = entry_rule q.width q.fan q.ids q.rows i

abbrev pub commit_is : Parts → ℕ → Commit
commit_is q i = commit_of q.rows (i * (q.width + 16) + q.width)

-- commit i of parts that hold n
module _ {q : Parts} {n : ℕ} (i : ℕ) (o : Holds q n) (l : i < n) where
  rows_room : i * (q.width + 16) + (q.width + 16) ≤ length q.rows
  rows_room = omega (arith, run_within i n (q.width + 16) l, o.rows)

  -- the entry's rules are tried where the entry lies in the parts
  entry_is : entry_in q.width q.fan q.ids q.rows i ≡ entry_of q i
  entry_is =
      let z = run_within i n q.width l in
      entry_plain q.width q.fan q.ids q.rows i o.known o.fan (omega (arith, o.ids)) rows_room

  -- the commit is there
  row_is : commit_in q.width q.rows i ≡ Ok (commit_is q i)
  unfolding commit_in row_rule refuse ◌if◌else◌
  row_is = rw (o.known, le-ltb (length q.rows) _ rows_room)

  -- a is how its row was answered: by a refusal of its entry, or by the commit
  module _ {a : Result Commit Refusal} (e : a ≡ row_in q.width q.fan q.ids q.rows i) where
    said : a ≡ refuse (entry_of q i) not_commit (Ok (commit_is q i))
    unfolding row_in
    said = rw (← entry_is, ← row_is) e

    pub row_bad : {r : Refusal} → a ≡ Err r → entry_of q i ≡ Err r.reason
    unfolding refuse
    row_bad {r} d = go (entry_of q i) (sym said ∙ d)
      where
        go : (m : Result ⊤ Reason) → refuse m not_commit (Ok (commit_is q i)) ≡ Err r → m ≡ Err r.reason
        go (Ok u) z = cc
        go (Err s) z = let y : refusal s 0 ≡ r = cc in ap (λ (x : Refusal). Err x.reason) y

    pub row_fine : {x : Commit} → a ≡ Ok x → (entry_of q i ≡ fine) × (x ≡ commit_is q i)
    row_fine d = let k = refuse_other (entry_of q i) not_commit _ (λ s z. cc) (sym said ∙ d) in (k.0, cc k.1)

-- ── a file's parts ──

pub file_holds : {p : List ℕ} {f : File} → Opened p f → Holds (parts_of p f) f.commits
file_holds {p} {f} o = record {
  known = o.known;
  fan = omega (arith, length_part f.oidf 1024 p o.fitted.fan);
  ids = length_part f.oidl (f.commits * f.width) p o.fitted.ids;
  rows = length_part f.cdat _ p o.fitted.rows;
}

-- what was cut out of its bytes
pub cut_is : (l : List ℕ) (f : File) {fan ids rows : List ℕ} {edge : Option (List ℕ)} → fan ≡ fan_part l f → ids ≡ ids_part l f
    → rows ≡ rows_part l f → edge ≡ edge_chunk l f → record { width = f.width; fan = fan; ids = ids; rows = rows; edge = edge } ≡ parts_of l f
cut_is l f a b c d = rw (a, b, c, d)

-- ── a loop over the n commits of a file ──

-- at commit c, which stands at p: none before it is refused, and these are the highest of `gens` and the counts by `keys` up to it
pub record Going (bad : ℕ → Bool) (gens keys : ℕ → ℕ) (n c p h : ℕ) (t : List ℕ) : Type 0 where
  pub sofar : Sofar bad n c
  pub highest : h ≡ highest_below gens p
  pub counts : t ≡ counts_of keys p

module _ {bad : ℕ → Bool} {gens keys : ℕ → ℕ} {n c p h : ℕ} {t : List ℕ} (s : Going bad gens keys n c p h t) (rule : ℕ → Result ⊤ Reason)
    (is : (i : ℕ) → bad i ≡ is_err (rule i)) where
  -- r is how commit c went
  module _ (l : c < n) (many g : ℕ) {r : Result Tried Reason} (a : r ≡ told (rule c) many g) where
    pub going_stops : {e : Reason} → r ≡ Err e → (c ≡ first bad 0 n) × (first_rule rule bad n ≡ Err e)
    unfolding refuse
    going_stops {e} x = sofar_stops rule is s.sofar l (go (rule c) (sym a ∙ x))
      where
        go : (m : Result ⊤ Reason) → told m many g ≡ Err e → m ≡ Err e
        go (Ok u) z = cc
        go (Err d) z = cc

    module _ {x : Tried} (went : r ≡ Ok x) where
      fair : (rule c ≡ fine) × (◌≡◌ {A = Result Tried Reason} (Ok (record { parents = many; generation = g })) (Ok x))
      fair = refuse_other (rule c) Err _ (λ s z. cc) (sym a ∙ went)

      pub going_tried : x ≡ record { parents = many; generation = g }
      going_tried = cc (fair.1)

      module _ {k : ℕ} (e : k ≡ key_of x.parents) (b : k < 66) (d : key_of many ≡ keys p) where
        key_is : k ≡ keys p
        key_is = e ∙ ap (λ (y : Tried). key_of y.parents) going_tried ∙ d

        pub going_small : get_or t k 0 ≤ p
        going_small = counts_small keys p key_is b s.counts

        pub going_next : {top : ℕ} → g ≡ gens p → top ≡ max h x.generation
            → Going bad gens keys n (c + 1) (p + 1) top (set t k (get_or t k 0 + 1))
        going_next {top} y z =
            record {
              sofar = sofar_next rule is s.sofar l fair.0;
              highest = highest_adds gens p h top (ap (λ (y : Tried). y.generation) going_tried ∙ y) s.highest z;
              counts = counts_adds keys p key_is b s.counts;
            }

  pub going_ends : n ≤ c → (c ≡ first bad 0 n) × (first_rule rule bad n ≡ fine) × (c ≡ n)
  going_ends l = let y = sofar_ends rule is s.sofar l in (y.0, y.1, omega (arith, s.sofar.most))
