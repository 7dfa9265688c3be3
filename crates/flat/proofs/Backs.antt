-- What is passed back is what was handed out: a file's record, and the phase of a walk.
use Rattle.std.proofs.Common.{ℕ, ◌+◌, ◌-◌, ◌^◌, ◌≤◌, ◌<◌, List, Bool, true, false, Result, Ok, Err, ◌≡◌, refl, sym, ap, ap₂, ◌∙◌, arith, mod-eq_of_lt}
use Rattle.std.proofs.Common.{leb, length, leb-false}
use Rattle.std.specs.Prelude.{Option, Some, None}
use Rattle.words.specs.Big.{Bytes}
use Rattle.words.specs.First.{◌if◌else◌, fine, first}
use Rattle.chunk.specs.Index.{chunks, off_at, is_at, index_rule, chunk_at, chunk_of, start_of, size_of, Indexed}
use Rattle.chunk.specs.declared.Span.{Span}
use Rattle.chunk.proofs.Sound.{indexed}
use Rattle.file.specs.Table.{index_of, file_of as filed, fanned, chunked, opening_by, opening}
use Rattle.fit.specs.Facts.{Opened}
use Rattle.file.specs.declared.File.{File}
use Rattle.fit.proofs.Opens.{opens, opened as gives}
use Rattle.steps.specs.declared.Phase.{Phase}
use Rattle.types.specs.declared.refusal.Refusal.{Refusal}
use Rattle.steps.specs.declared.Parent.{Parent}
use Rattle.types.specs.declared.graph.Position.{Position}
use Rattle.parents.specs.declared.Step.{Step as Stepped}
use Rattle.walk.specs.Walks.{step_of}
use Rattle.walk.specs.declared.Walk.{Walk}
use Rattle.walk.proofs.Following.{keeps}
use Rattle.flat.specs.declared.Opened.{Opened as Handed}
use Rattle.flat.specs.declared.Step.{Step}
use Rattle.steps.specs.Said.{phase_of}
use Rattle.steps.proofs.Saying.{phase_again}
use Rattle.flat.specs.Images.{flat_step, flat_stepped, walk_of, flat_walked}
use Rattle.flat.specs.Records.{end_of, edge_of, file_of, present_in, record_of, flat_opened, Returns}

-- ── a record ──

-- where a chunk ends
module _ (start size : ℕ) where
  pub end_past : 2 ^ 64 - 1 - start < size → start < 2 ^ 64 → 2 ^ 64 - 1 ≡ end_of start size
  unfolding end_of
  end_past h g = omega arith

  pub end_fits : start + size < 2 ^ 64 → start + size ≡ end_of start size
  unfolding end_of
  end_fits h = omega arith

-- a chunk that does not end before it starts comes back
Level : Option Span → Type 0
Level c = (p : Span) → c ≡ Some p → (p.start ≤ p.end) × (p.end < 2 ^ 64)

end_back : (a b : ℕ) → a ≤ b → b < 2 ^ 64 → end_of a (b - a) ≡ b
unfolding end_of
end_back a b h g = omega arith

edge_back : (c : Option Span) → Level c → edge_of (present_in c) (start_of c) (size_of c) ≡ c
unfolding edge_of ◌if◌else◌ Level
edge_back None h = refl
edge_back (Some p) h = let k = h p refl in ap (λ (n : ℕ). Some (record { start = p.start; end = n })) (end_back p.start p.end k.0 k.1)

-- the chunks of a sound index do
level : {l : List ℕ} (x : ℕ) → Indexed l → length l ≤ 1073741824 → Level (chunk_of l x)
unfolding chunk_of ◌if◌else◌ chunk_at Level
level {l} x i m = go _ refl
  where
    go : (t : Bool) → leb (chunks l) (first (is_at l x) 0 (chunks l)) ≡ t
        → Level (None if t else chunk_at l (first (is_at l x) 0 (chunks l)))
    go true d p e = absurd (cc)
    go false d p e =
        let k : ℕ = first (is_at l x) 0 (chunks l) in
        let g : k < chunks l = leb-false (chunks l) k d in
        let a : off_at l k ≡ p.start = cc in
        let b : off_at l (k + 1) ≡ p.end = cc in
        let u = i.order k g in
        let v = i.within k g in
        (omega arith, omega arith)

-- what an opened file keeps of its EDGE chunk
edge_kept : (l : List ℕ) {f : File} → opening l ≡ Ok f → (index_rule l ≡ fine) × (chunk_of l 0x45444745 ≡ f.edge)
unfolding opening_by chunked fanned filed index_of
edge_kept l {f} o =
    let o1 = opens _ _ _ o in
    let o2 = opens _ _ _ o1.1 in
    let o3 = opens _ _ _ o2.1 in
    let o4 = opens _ _ _ o3.1 in
    let o5 = opens _ _ _ o4.1 in
    let o6 = opens _ _ _ o5.1 in
    (o2.0, edge_of_open o6.1)
  where
    edge_of_open : {a : File} → ◌≡◌ {A = Result File Refusal} (Ok a) (Ok f) → a.edge ≡ f.edge
    edge_of_open {a} e = let z : a ≡ f = cc in ap (λ (x : File). x.edge) z

file_back_lem : (l : List ℕ) {f : File} → Bytes l → opening l ≡ Ok f → file_of (record_of f) ≡ f
unfolding file_of record_of Level
file_back_lem l {f} b o =
    let k = edge_kept l o in
    let q : Opened l f = gives true l o in
    let n : f.bases < 256 = omega (arith, q.bases, b 7) in
    let h : Level f.edge = rw (← k.1) (level 0x45444745 (indexed l k.0) q.most) in
    ap₂ (λ (n : ℕ) (c : Option Span). record {
      commits = f.commits;
      bases = n;
      width = f.width;
      oidf = f.oidf;
      oidl = f.oidl;
      cdat = f.cdat;
      edge = c;
      base = f.base;
    }) (mod-eq_of_lt n) (edge_back f.edge h)

-- what opening ensures of its record
pub returned : (l : List ℕ) {r : Handed} → Bytes l → r ≡ flat_opened (opening l) → Returns l r
unfolding flat_opened
returned l b e f o = ap (λ (x : Handed). file_of x.«record») (e ∙ ap flat_opened o) ∙ file_back_lem l b o

-- ── a phase ──

-- what a step hands out, passed back, is the phase after it
pub step_back : (a : Result (Option Parent) Refusal) (s : Phase) → phase_of (flat_step a s).phase (flat_step a s).edge ≡ s
unfolding flat_step
step_back (Ok (Some p)) s = phase_again s
step_back (Err r) s = phase_again s
step_back (Ok None) s = phase_again s

-- and so on a chain, where the walk keeps its commit
pub walk_back : (z : ℕ) (c l : List ℕ) (w : Walk)
    → walk_of w.commit.0 (flat_walked (step_of z c l w)).phase (flat_walked (step_of z c l w)).edge ≡ (step_of z c l w).next
walk_back z c l w =
    ap₂ (λ (p : Position) (s : Phase). record { commit = p; phase = s })
    (sym (keeps z c l w).commit) (step_back (step_of z c l w).answer _)

-- what a step ensures, from its equation
pub stepped : (x : Stepped) {r : Step} → r ≡ flat_stepped x → phase_of r.phase r.edge ≡ x.next
stepped x e = ap (λ (y : Step). phase_of y.phase y.edge) e ∙ step_back x.answer x.next

pub walked : (z : ℕ) (c l : List ℕ) (w : Walk) {r : Step} → r ≡ flat_walked (step_of z c l w) → walk_of w.commit.0 r.phase r.edge ≡ (step_of z c l w).next
walked z c l w e = ap (λ (y : Step). walk_of w.commit.0 y.phase y.edge) e ∙ walk_back z c l w
