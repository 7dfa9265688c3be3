-- The commits of a chain's file in turn: the ways through one, what a loop over them keeps, and what it comes to.
use Rattle.std.proofs.Common.{ℕ, ◌+◌, ◌*◌, ◌≤◌, ◌<◌, min, max, List, Bool, true, false, not, ◌≡◌, refl, sym, ap, ◌∙◌, arith, eqb, length, get_or, set}
use Rattle.std.proofs.Common.{Result, Ok, Err, is_err}
use Rattle.std.specs.Prelude.{Option, ⊤}
use Rattle.types.specs.declared.refusal.Reason.{Reason}
use Rattle.types.specs.declared.refusal.Refusal.{Refusal}
use Rattle.types.specs.Refusals.{refusal, refused_at}
use Rattle.words.proofs.Adds.{before_next}
use Rattle.words.proofs.Rows.{eq_not, ne_not}
use Rattle.words.specs.First.{◌if◌else◌, ◌or◌, fine, refuse}
use Rattle.list.specs.List.{records_of}
use Rattle.file.specs.declared.File.{File}
use Rattle.ancestry.specs.Graph.{highest_in, cap}
use Rattle.ancestry.specs.Counts.{key_of}
use Rattle.ancestry.proofs.Scans.{sofar_begins}
use Rattle.commit.specs.Commits.{row_of}
use Rattle.commit.specs.declared.Commit.{Commit}
use Rattle.steps.specs.Walks.{positions, first_walk}
use Rattle.parents.specs.Walks.{walk_of}
use Rattle.tries.specs.Tries.{Parts, parts_of, row_in, told}
use Rattle.tries.specs.declared.Tried.{Tried}
use Rattle.tries.proofs.Trials.{row_bad, row_fine, file_holds, Going, going_stops, going_small, going_next, going_ends}
use Rattle.graph.specs.Chain.{part_at, open_at, count_at, first_at}
use Rattle.graph.proofs.Standing.{stands}
use Rattle.walk.specs.Lists.{walk_in, walked_at}
use Rattle.audit.specs.Files.{gen_in, entry_at, gen_at, key_at}
use Rattle.audit.specs.Rules.{walk_rule, gen_rule, commit_rule, bad, bad_commit, commit_rules}
use Rattle.audit.specs.Scans.{Tabled, Before, met_of, tried_by, tried_of, ScannedAs}
use Rattle.audit.specs.declared.meets.Met.{Met}
use Rattle.audit.specs.declared.tables.Row.{Row}
use Rattle.audit.specs.declared.commits.Tally.{Tally}
use Rattle.audit.proofs.Meeting.{met_by, met_all}
use Rattle.audit.proofs.Tabling.{is_open}
use Rattle.graph.proofs.Passing.{few_positions}

-- a commit that is stopped is refused
pub stopped_is : {e : Reason} {r : Result Tried Reason} → r ≡ told (Err e) 0 0 → r ≡ Err e
unfolding refuse
stopped_is p = p

-- the ways through a commit, by how its row was answered and its parents were met; f is one more than the highest among theirs
module _ (limit : ℕ) (gen : ℕ → ℕ) (row : Result Commit Refusal) (edge : Option (List ℕ)) where
  pub tried_bad : {r : Refusal} → row ≡ Err r → tried_of limit gen row edge ≡ Err r.reason
  unfolding tried_of
  tried_bad d = rw d refl

  pub tried_row : (e : Reason) → ((r : Refusal) → row ≡ Err r → r.reason ≡ e) → ((x : Commit) → row ≡ Ok x → ⊥) → tried_of limit gen row edge ≡ Err e
  unfolding tried_of
  tried_row e f n = go row refl
    where
      go : (a : Result Commit Refusal) → row ≡ a → tried_of limit gen a edge ≡ Err e
      go (Err r) h = ap Err (f r h)
      go (Ok x) h = absurd (n x h)

  module _ {x : Commit} (h : row ≡ Ok x) where
    pub tried_met : {e : Reason} → Err e ≡ met_of limit gen (first_walk x.first x.second edge) 0 0 → tried_of limit gen row edge ≡ Err e
    unfolding tried_of tried_by
    tried_met d = rw (h, ← d)

    module _ {m : Met} (d : Ok m ≡ met_of limit gen (first_walk x.first x.second edge) 0 0) {f : ℕ} (e : f ≡ min (1 + m.highest) cap) where
      pub tried_gen : (x.generation ≡ f → ⊥) → tried_of limit gen row edge ≡ Err Reason.Generation
      unfolding tried_of tried_by ◌if◌else◌
      tried_gen n = rw (h, ← d, ne_not x.generation (min (1 + m.highest) cap) (λ k. n (k ∙ sym e)))

      pub tried_fine : x.generation ≡ f → tried_of limit gen row edge ≡ Ok (record { parents = m.parents; generation = x.generation })
      unfolding tried_of tried_by ◌if◌else◌
      tried_fine n = rw (h, ← d, eq_not x.generation (min (1 + m.highest) cap) (n ∙ e))

-- a commit whose walk meets the rule w, n parents and the highest generation h: then 69
tried_told : (w : Result ⊤ Reason) (n h g : ℕ)
    → tried_by (met_by w n h) g ≡ told (w or (Err Reason.Generation if not (eqb g (min (1 + h) cap)) else fine)) n g
unfolding tried_by refuse ◌or◌ ◌if◌else◌
tried_told (Err e) n h g = refl
tried_told (Ok u) n h g = go (not (eqb g (min (1 + h) cap)))
  where
    go : (b : Bool) → (Err Reason.Generation if b else Ok (record { parents = n; generation = g }))
        ≡ told (Err Reason.Generation if b else fine) n g
    go true = refl
    go false = refl

-- ── commit k of file i ──

module _ (z : ℕ) (c l : List ℕ) (i : ℕ) where
  -- its parents and its generation, and that its rule was tried
  abbrev parents_of : ℕ → List ℕ
  parents_of k = positions (walk_in (part_at z c l i) (open_at z c l i) k)

  abbrev gen_is : ℕ → ℕ
  gen_is k = gen_in (part_at z c l i) (open_at z c l i) k

  abbrev pub CommitTold : ℕ → Result Tried Reason → Type 0
  CommitTold k r = r ≡ told (commit_rule z c l i k) (length (parents_of k)) (gen_is k)

  -- the file's record is f, and q are its parts; a is how row k was answered, r how the commit went
  module _ {f : File} (o : open_at z c l i ≡ Ok f) (k : ℕ) (below : k < f.commits) (q : Parts) (cut : q ≡ parts_of (part_at z c l i) f)
      {a : Result Commit Refusal} (said : a ≡ row_in f.width q.fan q.ids q.rows k)
      {r : Result Tried Reason} (went : r ≡ tried_of (first_at z c l (i + 1)) (gen_at z c l) a q.edge) where
    e : a ≡ row_in f.width (parts_of (part_at z c l i) f).fan (parts_of (part_at z c l i) f).ids (parts_of (part_at z c l i) f).rows k
    e = said ∙ ap (λ (q : Parts). row_in f.width q.fan q.ids q.rows k) cut

    d : r ≡ tried_of (first_at z c l (i + 1)) (gen_at z c l) a (parts_of (part_at z c l i) f).edge
    d = went ∙ ap (λ (q : Parts). tried_of (first_at z c l (i + 1)) (gen_at z c l) a q.edge) cut

    pub commit_told : CommitTold k r
    unfolding tried_of commit_rule gen_rule entry_at walk_in walk_of gen_in ◌or◌ refuse
    commit_told = go a refl
      where
        go : (v : Result Commit Refusal) → a ≡ v → CommitTold k r
        go (Err x) p = rw (d, p, o, row_bad k (file_holds (is_open z c l i o)) below e p)
        go (Ok x) p =
            let m = row_fine k (file_holds (is_open z c l i o)) below e p in
            let w = walk_of (part_at z c l i) f k in
            let h = highest_in (gen_at z c l) (positions w) in
            let n : 0 + length (positions w) ≡ length (positions w) = omega arith in
            let g : max 0 h ≡ h = omega arith in
            rw (d, p, o, m.0, m.1, met_all (first_at z c l (i + 1)) (gen_at z c l) w 0 0, n, g)
            (tried_told (walk_rule (first_at z c l (i + 1)) w) (length (positions w)) h (row_of (part_at z c l i) f k).generation)

  -- ── all of them ──

  bad_is : (k : ℕ) → bad z c l i k ≡ is_err (commit_rule z c l i k)
  unfolding bad
  bad_is k = refl

  -- the loop stands at commit k
  abbrev pub Trying : ℕ → Tally → Type 0
  Trying k t = Going (bad z c l i) (gen_at z c l) (key_at z c l) (count_at z c l i) k (first_at z c l i + k) t.highest t.counts

  pub try_begins : {b : Tally} → Before z c l i b → Trying 0 b
  try_begins p =
      let a : first_at z c l i + 0 ≡ first_at z c l i = omega arith in
      record { sofar = sofar_begins (bad z c l i) (count_at z c l i); highest = rw a p.highest; counts = rw a p.counts }

  module _ (b : i < records_of z l) {k : ℕ} {t : Tally} (s : Trying k t) where
    -- r is how commit k went
    module _ (f : k < count_at z c l i) {r : Result Tried Reason} (a : CommitTold k r) where
      pub try_stops : (e : Reason) → r ≡ Err e → refused_at (commit_rules z c l i) (bad_commit z c l i) ≡ Err (refusal e k)
      unfolding bad_commit commit_rules
      try_stops e x = let y = going_stops s (commit_rule z c l i) bad_is f _ _ a x in rw (y.1, ← y.0)

      module _ {x : Tried} (went : r ≡ Ok x) {j : ℕ} (e : j ≡ key_of x.parents) (m : j < 66) where
        key_here : key_of (length (parents_of k)) ≡ key_at z c l (first_at z c l i + k)
        unfolding key_at walked_at
        key_here = rw ((stands z c l).file_back i k b f, (stands z c l).pos_back i k b f)

        gen_here : gen_is k ≡ gen_at z c l (first_at z c l i + k)
        unfolding gen_at
        gen_here = rw ((stands z c l).file_back i k b f, (stands z c l).pos_back i k b f)

        pub try_small : get_or t.counts j 0 ≤ first_at z c l i + k
        try_small = going_small s (commit_rule z c l i) bad_is f _ _ a went e m key_here

        pub try_next : {top : ℕ} → top ≡ max t.highest x.generation
            → Trying (k + 1) (record { counts = set t.counts j (get_or t.counts j 0 + 1); highest = top })
        try_next g =
            let o : first_at z c l i + (k + 1) ≡ first_at z c l i + k + 1 = omega arith in
            rw o (going_next s (commit_rule z c l i) bad_is f _ _ a went e m key_here gen_here g)

    pub try_ends : count_at z c l i ≤ k → ScannedAs z c l i (Ok t)
    unfolding bad_commit commit_rules
    try_ends f =
        let y = going_ends s (commit_rule z c l i) bad_is f in
        let o : first_at z c l (i + 1) ≡ first_at z c l i + k = omega (arith, y.2, before_next (count_at z c l) i) in
        (y.1, record { counts = rw o s.counts; highest = rw o s.highest })

  -- how many positions there are up to commit k
  pub try_few : {t : List Row} → Tabled z c l t → i < records_of z l → (k : ℕ) → k < count_at z c l i → (first_at z c l i + k) * 36 ≤ 1073741824
  try_few t b k h = omega (arith, few_positions z c l t.listed (i + 1) (omega arith), before_next (count_at z c l) i)
