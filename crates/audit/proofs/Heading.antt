-- The bases of a file, and the ways through refusals 60 to 63.
use Rattle.std.proofs.Common.{ℕ, zero, suc, ◌+◌, ◌-◌, ◌*◌, ◌≤◌, ◌<◌, List, Bool, true, false, not, ◌≡◌, refl, sym, ap, ◌∙◌, arith, eqb, length, Bor}
use Rattle.std.proofs.Common.{lt-ltb, le-ltb, eqb-true, Ok, Err}
use Rattle.types.specs.Width.{known}
use Rattle.types.specs.Refusals.{refusal, refused_at, number_in}
use Rattle.types.specs.declared.refusal.Reason.{Reason}
use Rattle.types.specs.declared.refusal.Refusal.{Refusal}
use Rattle.words.specs.Big.{be, number}
use Rattle.words.specs.First.{◌if◌else◌, ◌or◌, fine, first}
use Rattle.words.specs.Part.{RecordsOf}
use Rattle.words.proofs.Adds.{before_next}
use Rattle.words.proofs.Numbers.{be_part}
use Rattle.words.proofs.Parts.{run_in, part_number, part_length, length_part}
use Rattle.words.proofs.Rows.{eq_not, ne_not}
use Rattle.list.specs.List.{records_of, length_at}
use Rattle.fit.specs.Fits.{base_part}
use Rattle.file.specs.declared.File.{File}
use Rattle.audit.proofs.Tabling.{is_open}
use Rattle.types.proofs.Widths.{width_bounds}
use Rattle.rules.specs.Rules.{sum_in, sum_rule, name_in, name_rule}
use Rattle.rules.proofs.Trailers.{sum_plain, name_plain}
use Rattle.graph.specs.Chain.{width_in, start_at, part_at, open_at}
use Rattle.graph.proofs.Passing.{part_long}
use Rattle.audit.specs.Files.{bases_in, base_in, trailer_at}
use Rattle.audit.specs.Rules.{alien, bad_base, base_rule, head_rule, head_place}
use Rattle.audit.specs.declared.tables.Row.{Row}
use Rattle.audit.specs.Scans.{start_in, alien_by, alien_rule, Reach, Tabled, JudgedAs}

-- two searches whose tests agree
first_same : (p q : ℕ → Bool) (i k : ℕ) → ((j : ℕ) → i ≤ j → j < i + k → p j ≡ q j) → first p i k ≡ first q i k
unfolding first ◌if◌else◌
first_same p q i zero h = refl
first_same p q i (suc k) h =
    rw (h i (omega arith) (omega arith), first_same p q (i + 1) k (λ j a b. h j (omega arith) (omega arith)))

-- base j, which was cut out as r, beside the bytes before where the next file starts
pub alien_by_lem : (s r : Bor (List ℕ)) (c : List ℕ) (t : List Row) (w j : ℕ) {x : Bool} → j * w + w ≤ length s.now → RecordsOf s (j * w) w 1 r
    → x ≡ eqb (number r.now) (be (length r.now) c (start_in t (j + 1) - w)) → not x ≡ alien_by c t w s.now j
unfolding alien_by
alien_by_lem s r c t w j {x} g y v =
    let u = run_in s r (j * w) w g y in
    let m : x ≡ eqb (be w s.now (j * w)) (be w c (start_in t (j + 1) - w)) =
    v ∙ rw (part_number u g, part_length u g) in
    ap not m

module _ (z : ℕ) (c l : List ℕ) where
  -- a file has a trailer
  pub long : (k : ℕ) {f : File} → open_at z c l k ≡ Ok f → f.width ≤ length (part_at z c l k)
  long k {f} e = omega (arith, width_bounds f.width (is_open z c l k e).known, (is_open z c l k e).least)

  -- the ids of all files are as wide: each has 20 bytes
  same_width : (i j : ℕ) {f g : File} → open_at z c l i ≡ Ok f → open_at z c l j ≡ Ok g → g.width ≡ f.width
  unfolding known
  same_width i j {f} {g} p q = eqb-true g.width 20 (is_open z c l j q).known ∙ sym (eqb-true f.width 20 (is_open z c l i p).known)

  module _ {t : List Row} (p : Tabled z c l t) where
    -- where the trailer of file j lies in the chain
    trailer_is : (j : ℕ) → j < records_of z l → {g : File} → open_at z c l j ≡ Ok g
        → (g.width ≤ start_in t (j + 1)) × (be g.width c (start_in t (j + 1) - g.width) ≡ trailer_at z c l j)
    unfolding trailer_at width_in part_at
    trailer_is j h {g} o =
        let w : ℕ = g.width in
        let m : length (part_at z c l j) ≡ length_at z l j = part_long z c l p.listed j h in
        let s : start_in t (j + 1) ≡ start_at z c l j + length_at z l j = p.start (j + 1) (omega arith) ∙ before_next (length_at z l) j in
        let n : g.width ≤ length_at z l j = omega (arith, long j o) in
        let a : start_in t (j + 1) - g.width ≡ start_at z c l j + (length_at z l j - g.width) = omega arith in (
          omega arith,
          rw (o, m, a)
              (sym (be_part g.width c (start_at z c l j) (length_at z l j) (length_at z l j - g.width) (omega arith))),
        )

    module _ {i : ℕ} (b : i < records_of z l) {f : File} (o : open_at z c l i ≡ Ok f) where
      pub bases_long : {ids : List ℕ} → ids ≡ base_part (part_at z c l i) f → length ids ≡ f.bases * f.width
      bases_long e = ap length e ∙ length_part f.base (f.bases * f.width) (part_at z c l i) (is_open z c l i o).fitted.base

      pub reaches : Reach t i f.width
      reaches j h = let q = p.opens j (omega arith) in rw (← same_width i j o q.1) (trailer_is j (omega arith) q.1).0

      alien_is : (j : ℕ) → j < i → alien_by c t f.width (base_part (part_at z c l i) f) j ≡ alien z c l i j
      unfolding alien alien_by base_in
      alien_is j h =
          let q = p.opens j (omega arith) in
          rw (o, ← (trailer_is j (omega arith) q.1).1, same_width i j o q.1)

      -- the first alien base
      base_told : {ids : List ℕ} → ids ≡ base_part (part_at z c l i) f → first (alien_by c t f.width ids) 0 i ≡ first (alien z c l i) 0 i
      base_told e = rw e (first_same _ _ 0 i (λ j a h. alien_is j (omega arith)))

-- refusal 61 of a file with i bases: base j is alien, and no base before it; or none is
module _ (p : ℕ → Bool) (i j : ℕ) (e : j ≡ first p 0 i) where
  pub alien_hit : j < i → Err (refusal Reason.BaseId j) ≡ alien_rule p i
  unfolding alien_rule ◌if◌else◌
  alien_hit h = rw (← e, lt-ltb j i h)

  pub alien_none : i ≤ j → Ok tt ≡ alien_rule p i
  unfolding alien_rule ◌if◌else◌
  alien_none h = rw (← e, le-ltb j i h)

-- each of 60 to 63 with its own place: only that of 61 is not 0
placed_rows : (many strange wrong kind claim : Bool) (j : ℕ)
    → (let head = (Err Reason.Bases if many else Err Reason.BaseId if strange else fine) or
    (Err Reason.Checksum if wrong else fine) or
    (Err Reason.Name if kind else Err Reason.Name if claim else fine) in
    refused_at (Err Reason.Bases if many else fine) 0 or
    refused_at (Err Reason.BaseId if strange else fine) j or
    refused_at (Err Reason.Checksum if wrong else fine) 0 or
    refused_at (Err Reason.Name if kind else Err Reason.Name if claim else fine) 0
    ≡ refused_at head (j if eqb (number_in head) 61 else 0))
unfolding ◌if◌else◌ ◌or◌
placed_rows true b c d e j = refl
placed_rows false true c d e j = refl
placed_rows false false true d e j = refl
placed_rows false false false true e j = refl
placed_rows false false false false true j = refl
placed_rows false false false false false j = refl

-- what 60 to 63 say of file i, with the record f
module _ (z : ℕ) (c l : List ℕ) (i : ℕ) {f : File} (o : open_at z c l i ≡ Ok f) where
  -- 60 alone
  pub head_bases : (f.bases ≡ i → ⊥) → JudgedAs z c l i (Err (refusal Reason.Bases 0))
  unfolding head_rule head_place base_rule bases_in ◌if◌else◌ ◌or◌
  head_bases h = rw (o, ne_not f.bases i h)

  -- its number of bases is right: the others in turn, of its base ids `ids` and of its bytes s
  module _ {t : List Row} (p : Tabled z c l t) (there : i < records_of z l) {s : List ℕ} (cut : s ≡ part_at z c l i)
      (e : f.bases ≡ i) {ids : List ℕ} (b : ids ≡ base_part (part_at z c l i) f) where
    head_is : JudgedAs z c l i
        (alien_rule (alien_by c t f.width ids) i or
        refused_at (sum_in f.width s) 0 or
        refused_at (name_in f.width z l i s) 0)
    unfolding head_rule head_place base_rule bases_in width_in sum_rule name_rule alien_rule bad_base ◌if◌else◌ ◌or◌
    head_is =
        let y = eq_not f.bases i e in
        let d = is_open z c l i o in
        let long = long z c l i o in
        rw (
          cut,
          sum_plain f.width (part_at z c l i) d.known long,
          name_plain f.width z l i (part_at z c l i) there d.known long,
          base_told z c l p there o b,
          o,
          y,
        )
        (placed_rows false _ _ _ _ _)

    -- the ways through them
    pub head_base : {e : Refusal} → Err e ≡ alien_rule (alien_by c t f.width ids) i → JudgedAs z c l i (Err e)
    unfolding ◌or◌
    head_base h = rw (← h) at head_is

    module _ (h : Ok tt ≡ alien_rule (alien_by c t f.width ids) i) where
      pub head_sum : {e : Reason} → Err e ≡ sum_in f.width s → JudgedAs z c l i (Err (refusal e 0))
      unfolding ◌or◌
      head_sum g = rw (← h, ← g) at head_is

      module _ (g : Ok tt ≡ sum_in f.width s) where
        pub head_name : {e : Reason} → Err e ≡ name_in f.width z l i s → JudgedAs z c l i (Err (refusal e 0))
        unfolding ◌or◌
        head_name y = rw (← h, ← g, ← y) at head_is

        pub head_fine : Ok tt ≡ name_in f.width z l i s → JudgedAs z c l i (Ok tt)
        unfolding ◌or◌
        head_fine y = rw (← h, ← g, ← y) at head_is
