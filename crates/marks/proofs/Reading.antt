-- Where a step that answers a parent read it: the word lies in the file's bytes, and the parent is the word without its top bit.
use Rattle.std.proofs.Common.{ℕ, ◌+◌, ◌-◌, ◌*◌, ◌%◌, ◌^◌, ◌≤◌, ◌<◌, List, ◌≡◌, refl, sym, ap, ◌∙◌, arith, length, take, drop, option_map, Result, Ok}
use Rattle.std.proofs.Common.{Err}
use Rattle.std.specs.Prelude.{Option, Some, None, ⊤}
use Rattle.types.specs.Refusals.{refused_at}
use Rattle.types.specs.declared.refusal.Reason.{Reason}
use Rattle.types.specs.declared.graph.Position.{Position}
use Rattle.words.specs.Big.{be, Bytes}
use Rattle.words.specs.First.{◌if◌else◌, refuse}
use Rattle.words.proofs.Numbers.{be_part, be_below, bytes_part}
use Rattle.words.proofs.Parts.{length_part}
use Rattle.chunk.specs.Index.{start_of, size_of}
use Rattle.chunk.specs.declared.Span.{Span}
use Rattle.fit.specs.Fits.{rows_part, edge_part, edge_chunk}
use Rattle.file.specs.declared.File.{File}
use Rattle.fit.proofs.Fitting.{Answered, answered, run_within}
use Rattle.commit.specs.Commits.{edge_of, commit_of, row_of}
use Rattle.commit.specs.declared.Commit.{Commit}
use Rattle.commit.specs.declared.ParentEdge.{ParentEdge}
use Rattle.commit.specs.declared.ParentEdge.TheVariants.{None as Nothing, GraphPosition, ExtraEdgeIndex}
use Rattle.steps.specs.Walks.{extra_of, edge_rule, edge_bytes, extra_next, edge_next, second_next, alone_next, first_next, next_of, stop}
use Rattle.parents.specs.Walks.{step_of}
use Rattle.steps.specs.declared.Parent.{Parent as Ancestor}
use Rattle.steps.specs.declared.Phase.{Phase}
use Rattle.steps.specs.declared.Phase.TheVariants.{First, Second, Edge, Exhausted}
use Rattle.steps.specs.declared.Next.{Next}
use Rattle.steps.proofs.Walking.{edge_there}
use Rattle.marks.specs.Marks.{field_at, edge_at, second_at, place_of}

-- what a word says of the parent that it gives
edge_said_lem : (x : ℕ) {p : Position} → edge_of x ≡ GraphPosition p → p.0 ≡ x % 0x80000000
unfolding edge_of ◌if◌else◌
edge_said_lem x {p} e = grind arith

extra_said_lem : (x k : ℕ) {q : Ancestor} → x < 2 ^ 32 → (extra_next (extra_of x) k).met ≡ Ok (Some q) → q.position.0 ≡ x % 0x80000000
unfolding extra_of ◌if◌else◌
extra_said_lem x k {q} h e = grind arith

-- an EDGE number that gives a parent
edge_met : (e : Option (List ℕ)) (k : ℕ) {q : Ancestor} → Bytes (edge_bytes e) → (edge_next e k).met ≡ Ok (Some q)
    → (4 * k + 4 ≤ length (edge_bytes e)) × (q.position.0 ≡ be 4 (edge_bytes e) (4 * k) % 0x80000000)
unfolding edge_next refuse
edge_met e k {q} b = go (edge_rule e k) refl
  where
    x : ℕ
    x = be 4 (edge_bytes e) (4 * k)

    go : (m : Result ⊤ Reason) → edge_rule e k ≡ m → (refuse m stop (extra_next (extra_of x) k)).met ≡ Ok (Some q)
        → (4 * k + 4 ≤ length (edge_bytes e)) × (q.position.0 ≡ x % 0x80000000)
    go (Ok u) d h = (edge_there e k d, extra_said_lem x k (be_below (edge_bytes e) b 4 (4 * k)) h)
    go (Err r) d h = cc

-- the bytes of a chunk are those of its part
chunk_shown : (l : List ℕ) (c : Option Span) → edge_bytes (option_map (λ (p : Span). take (p.end - p.start) (drop p.start l)) c)
    ≡ take (size_of c) (drop (start_of c) l)
chunk_shown l None = refl
chunk_shown l (Some p) = refl

edge_shown : (l : List ℕ) (f : File) → edge_bytes (edge_chunk l f) ≡ edge_part l f
edge_shown l f = chunk_shown l f.edge

-- a step that answers a parent is asked of a commit that is there, and meets that parent
abbrev next_at : List ℕ → File → ℕ → Phase → Next
next_at l f i s = next_of (row_of l f i).first (row_of l f i).second (edge_chunk l f) s

met_of_lem : (i : ℕ) (m : Result (Option Ancestor) Reason) {q : Ancestor} → refused_at m i ≡ Ok (Some q) → m ≡ Ok (Some q)
met_of_lem i (Ok x) e = cc
met_of_lem i (Err r) e = cc

step_met : (l : List ℕ) (f : File) (i : ℕ) (s : Phase) {q : Ancestor} → (step_of l f i s).answer ≡ Ok (Some q)
    → Answered l f f.commits i × ((next_at l f i s).met ≡ Ok (Some q))
unfolding step_of refuse
step_met l f i s {q} e = grind (arith, answered, met_of_lem)

-- the word at a place of l gives the parent q
pub record Word (l : List ℕ) (at : ℕ) (q : Ancestor) : Type 0 where
  pub inside : at + 4 ≤ length l
  pub parent : q.position.0 ≡ be 4 l at % 0x80000000

module _ {l : List ℕ} {f : File} {i : ℕ} (k : Answered l f f.commits i) where
  -- a field of n bytes behind the tree of commit i
  pub field_room : (o n : ℕ) → o + n ≤ 16 → field_at f i o + n ≤ length l
  field_room o n h = omega (arith, run_within i f.commits (f.width + 16) k.below)

  pub field_fits : (o : ℕ) → o ≤ 16 → length l < 2 ^ 64 → (f.width < 1000) × (field_at f i o < 2 ^ 64)
  field_fits o h g = (k.fits.narrow, omega (arith, field_room o 0 (omega arith)))

  row_word : (o at : ℕ) (q : Ancestor) → o + 4 ≤ 16 → at ≡ i * (f.width + 16) + (f.width + o)
      → edge_of (be 4 (rows_part l f) at) ≡ GraphPosition q.position → Word l (field_at f i o) q
  row_word o at q h d e =
      let r : be 4 (rows_part l f) at ≡ be 4 l (field_at f i o) = be_part 4 l f.cdat (f.commits * (f.width + 16)) at (omega (
        arith,
        run_within i f.commits (f.width + 16) k.below,
      )) ∙ ap (be 4 l) (omega arith) in
      record { inside = field_room o 4 h; parent = edge_said_lem _ e ∙ ap (λ (x : ℕ). x % 0x80000000) r }

  edge_word_lem : (j : ℕ) {q : Ancestor} → Bytes l → (edge_next (edge_chunk l f) j).met ≡ Ok (Some q) → Word l (edge_at f j) q
  edge_word_lem j {q} b e =
      let y : Bytes (edge_bytes (edge_chunk l f)) = rw (edge_shown l f) (bytes_part l (start_of f.edge) (size_of f.edge) b) in
      let m = rw (edge_shown l f) at (edge_met (edge_chunk l f) j y e) in
      let n = length_part (start_of f.edge) (size_of f.edge) l k.fits.edge in
      let r : be 4 (edge_part l f) (4 * j) ≡ be 4 l (edge_at f j) = be_part 4 l (start_of f.edge) (size_of f.edge) (4 * j) (omega arith) in
      record { inside = omega arith; parent = m.1 ∙ ap (λ (x : ℕ). x % 0x80000000) r }

  -- by the words, and by the phase
  alone_none : (b : ParentEdge) {q : Ancestor} → (alone_next b).met ≡ Ok (Some q) → ⊥
  unfolding alone_next
  alone_none Nothing e = cc
  alone_none (GraphPosition p) e = cc
  alone_none (ExtraEdgeIndex j) e = cc

  first_word : (a b : ParentEdge) {q : Ancestor} → (row_of l f i).first ≡ a → (first_next a b).met ≡ Ok (Some q) → Word l (field_at f i 0) q
  unfolding first_next commit_of
  first_word Nothing b {q} d e = absurd (alone_none b e)
  first_word (GraphPosition p) b {q} d e = row_word 0 _ q (omega arith) (omega arith) (d ∙ cc)
  first_word (ExtraEdgeIndex j) b d e = cc

  second_word : (b : ParentEdge) {q : Ancestor} → Bytes l → (row_of l f i).second ≡ b
      → (second_next (edge_chunk l f) b).met ≡ Ok (Some q) → Word l (second_at f i b) q
  unfolding second_next second_at commit_of
  second_word Nothing y d e = cc
  second_word (GraphPosition p) {q} y d e = row_word 4 _ q (omega arith) (omega arith) (d ∙ cc)
  second_word (ExtraEdgeIndex j) {q} y d e = edge_word_lem j y e

  next_word : (s : Phase) {q : Ancestor} → Bytes l → (next_at l f i s).met ≡ Ok (Some q) → Word l (place_of l f i s) q
  unfolding next_of place_of
  next_word First {q} y e = first_word (row_of l f i).first (row_of l f i).second refl e
  next_word Second {q} y e = second_word (row_of l f i).second y refl e
  next_word (Edge j) {q} y e = edge_word_lem j y e
  next_word Exhausted y e = cc

pub step_word : (l : List ℕ) (f : File) (i : ℕ) (s : Phase) {q : Ancestor} → Bytes l → (step_of l f i s).answer ≡ Ok (Some q)
    → Answered l f f.commits i × Word l (place_of l f i s) q
step_word l f i s {q} y e = let k = step_met l f i s e in (k.0, next_word k.0 s y k.1)

-- the place from second, by the commit that was read
pub second_place : (l : List ℕ) (f : File) (i : ℕ) {c : Commit} {v : ParentEdge} → c ≡ row_of l f i → c.second ≡ v
    → second_at f i v ≡ place_of l f i Second
unfolding place_of
second_place l f i d e = ap (second_at f i) (sym e ∙ ap (λ (x : Commit). x.second) d)
