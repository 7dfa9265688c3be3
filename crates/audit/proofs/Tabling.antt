-- The table of a chain's files: how a pass fills it, and the generation that is read by it.
use Rattle.std.proofs.Common.{ℕ, ◌+◌, ◌-◌, ◌*◌, ◌/◌, ◌≤◌, ◌<◌, List, true, ◌≡◌, sym, ap, subst, ◌∙◌, ⊎_elim, arith, eq-or-lt_of_le, length, get_or}
use Rattle.std.proofs.Common.{set, take, drop, length-set, get_or-set_same, get_or-set_other, drop-drop, Bor, below_more, Ok, Err}
use Rattle.types.specs.declared.refusal.Refusal.{Refusal}
use Rattle.words.specs.Big.{be}
use Rattle.words.specs.First.{fine}
use Rattle.words.specs.Part.{RecordsOf}
use Rattle.words.specs.Sums.{before}
use Rattle.words.proofs.Adds.{before_next, which_back, within_back}
use Rattle.words.proofs.Parts.{take_in, records_in}
use Rattle.list.specs.List.{records_of, length_at}
use Rattle.fit.specs.Fits.{rows_part}
use Rattle.fit.specs.Facts.{Opened}
use Rattle.file.specs.Table.{opening}
use Rattle.file.specs.declared.File.{File}
use Rattle.fit.proofs.Opens.{opened}
use Rattle.fit.proofs.Fitting.{run_within}
use Rattle.commit.specs.Commits.{commit_of}
use Rattle.graph.specs.Chain.{in_file, commits_of, open_from, width_in, start_at, part_at, open_at, count_at, first_at, file_of, pos_of, Listed}
use Rattle.graph.proofs.Passing.{Along, along_begins, along_next, along_refused, along_ends, along_room, part_long, file_room}
use Rattle.audit.specs.Files.{gen_in, gen_at}
use Rattle.audit.specs.Scans.{blank, start_in, first_in, rows_in, wide_in, part_by, rows_of, Tabled}
use Rattle.audit.specs.declared.tables.Row.{Row}

-- what holds below n, and of n, holds up to n
up_to : (P : ℕ → Type 0) (n : ℕ) → ((i : ℕ) → i < n → P i) → P n → (i : ℕ) → i ≤ n → P i
up_to P n f p i h = ⊎_elim (λ (e : i ≡ n). subst P (sym e) p) (λ (l : i < n). f i l) (eq-or-lt_of_le h)

module _ (z : ℕ) (c l : List ℕ) where
  -- the row of file i
  abbrev row_of : ℕ → Row
  row_of i =
      record {
        start = start_at z c l i;
        first = first_at z c l i;
        cdat = start_at z c l i + rows_of (open_at z c l i);
        width = width_in (open_at z c l i);
      }

  -- what stands when a pass is at file k: the table is filled up to it
  pub record Tabling (n k at sum : ℕ) (t : List Row) : Type 0 where
    pub along : Along z c l n k at sum
    pub long : length t ≡ 257
    pub rows : (i : ℕ) → i < k → get_or t i blank ≡ row_of i
    pub opens : (i : ℕ) → i < k → (f : File) × (open_at z c l i ≡ Ok f)

  -- what an open file gives
  pub is_open : (k : ℕ) {f : File} → open_at z c l k ≡ Ok f → Opened (part_at z c l k) f
  unfolding open_at
  is_open k {f} e = opened true (part_at z c l k) e

  pub count_of : (k : ℕ) {f : File} → open_at z c l k ≡ Ok f → count_at z c l k ≡ f.commits
  unfolding count_at commits_of
  count_of k e = rw e

  rows_open : (k : ℕ) {f : File} → open_at z c l k ≡ Ok f → (rows_of (open_at z c l k) ≡ f.cdat) × (width_in (open_at z c l k) ≡ f.width)
  unfolding rows_of width_in
  rows_open k e = (rw e, rw e)

  module _ {n : ℕ} (d : Listed z c l n) where
    pub tabling_begins : (t : List Row) → length t ≡ 257 → Tabling n 0 0 0 t
    tabling_begins t a =
        record { along = along_begins z c l d; long = a; rows = λ i h. absurd (omega arith); opens = λ i h. absurd (omega arith) }

    module _ {k at sum : ℕ} {t : List Row} (p : Tabling n k at sum t) where
      pub tabling_refused : n ≡ records_of z l → k < n → {s : List ℕ} {q : Refusal} → s ≡ part_at z c l k
          → Err q ≡ in_file k (opening s) → open_from z c l 0 (records_of z l) ≡ Err q
      tabling_refused e h y o = rw (← e) (along_refused z c l d at sum p.along h y o)

      pub tabling_ends : n ≡ records_of z l → n ≤ k
          → (open_from z c l 0 (records_of z l) ≡ fine) × Tabled z c l (set t n (record { start = at; first = sum; cdat = 0; width = 0 }))
      tabling_ends e h =
          let q : k ≡ n = omega (arith, p.along.few) in
          let last : Row = record { start = at; first = sum; cdat = 0; width = 0 } in
          let new : get_or (set t n last) n blank ≡ last = get_or-set_same t n last blank (omega (arith, d.few, p.long)) in
          let old : (i : ℕ) → i < n → get_or (set t n last) i blank ≡ row_of i =
          λ i b. get_or-set_other t n i last blank (λ y. omega arith) ∙ p.rows i (omega arith) in (
            rw (← e) (along_ends z c l d at sum p.along h),
            record {
              listed = rw (← e) d;
              opens = λ i b. p.opens i (omega arith);
              long = simp length-set p.long;
              start = λ i b. up_to (λ (i : ℕ). start_in (set t n last) i ≡ start_at z c l i) n (λ i b. ap (λ (r : Row). r.start) (old i b))
                  (ap (λ (r : Row). r.start) new ∙ p.along.place ∙ ap (start_at z c l) q) i (omega arith);
              first = λ i b. up_to (λ (i : ℕ). first_in (set t n last) i ≡ first_at z c l i) n (λ i b. ap (λ (r : Row). r.first) (old i b))
                  (ap (λ (r : Row). r.first) new ∙ p.along.total ∙ ap (first_at z c l) q) i (omega arith);
              rows = λ i b. ap (λ (r : Row). r.cdat) (old i (omega arith));
              wide = λ i b. ap (λ (r : Row). r.width) (old i (omega arith));
            },
          )

      module _ (h : k < n) {f : File} (e : open_at z c l k ≡ Ok f) where
        -- the sums fit
        pub tabling_room : (sum + f.commits ≤ 1073741824) × (at + length (part_at z c l k) ≤ 1073741824) × (at + f.cdat ≤ 1073741824)
        tabling_room =
            let a = along_room z c l d at sum p.along h f e in
            (a.0, a.1, omega (arith, a.1, (is_open k e).fitted.rows))

        pub tabling_next : {m : ℕ} → m ≡ length (part_at z c l k)
            → Tabling n (k + 1) (at + m) (sum + f.commits) (set t k (record { start = at; first = sum; cdat = at + f.cdat; width = f.width }))
        tabling_next {m} y =
            let row : Row = record { start = at; first = sum; cdat = at + f.cdat; width = f.width } in
            let q = rows_open k e in
            let here : row ≡ row_of k = rw (p.along.place, p.along.total, q.0, q.1) in
            record {
              along = along_next z c l d at sum p.along h f e m y;
              long = simp length-set p.long;
              rows = below_more (λ (i : ℕ). get_or (set t k row) i blank ≡ row_of i) k
                  (λ i b. get_or-set_other t k i row blank (λ z. omega arith) ∙ p.rows i b)
                  (get_or-set_same t k row blank (omega (arith, d.few, p.long)) ∙ here);
              opens = below_more (λ (i : ℕ). (f : File) × (open_at z c l i ≡ Ok f)) k p.opens (f, e);
            }

  -- what is read by a table that is right
  module _ {t : List Row} (p : Tabled z c l t) where
    pub from_none : (g : ℕ) → first_in t 0 ≤ g
    unfolding before
    from_none g = omega (arith, p.first 0 (omega arith))

    module _ (i : ℕ) (h : i < records_of z l) where
      pub row_room : i + 1 < length t
      row_room = omega (arith, p.long, p.listed.few)

      -- the bytes of file i, by the table
      pub part_by_lem : part_by c t i ≡ part_at z c l i
      unfolding part_at
      part_by_lem =
          let a : start_in t i ≡ start_at z c l i = p.start i (omega arith) in
          let b : start_in t (i + 1) - start_in t i ≡ length_at z l i =
          omega (arith, p.start (i + 1) (omega arith), before_next (length_at z l) i) in
          rw (b, a)

      pub next_limit : first_in t (i + 1) ≡ first_at z c l (i + 1)
      next_limit = p.first (i + 1) (omega arith)

      -- its record f, and a position g in it
      module _ {f : File} (o : open_at z c l i ≡ Ok f) (g : ℕ) (low : first_in t i ≤ g) (high : g < first_in t (i + 1)) where
        first_is : first_in t i ≡ first_at z c l i
        first_is = p.first i (omega arith)

        spot : first_at z c l i + (g - first_at z c l i) ≡ g
        spot = omega (arith, first_is)

        inside : g - first_at z c l i < count_at z c l i
        inside = omega (arith, first_is, p.first (i + 1) (omega arith), before_next (count_at z c l) i)

        file_here : file_of z c l g ≡ i
        file_here = rw spot at (which_back (count_at z c l) (records_of z l) i (g - first_at z c l i) h inside)

        pos_here : pos_of z c l g ≡ g - first_at z c l i
        pos_here = rw spot at (within_back (count_at z c l) (records_of z l) i (g - first_at z c l i) h inside)

        -- its rows, cut from the chain
        rows_room : start_at z c l i + f.cdat + f.commits * (f.width + 16) ≤ length c
        rows_room = omega (arith, (is_open i o).fitted.rows, part_long z c l p.listed i h, file_room z c l p.listed i h)

        rows_here : take (f.commits * (f.width + 16)) (drop (start_at z c l i + f.cdat) c) ≡ rows_part (part_at z c l i) f
        unfolding part_at
        rows_here =
            sym (take_in f.cdat (f.commits * (f.width + 16)) (length_at z l i) (drop (start_at z c l i) c)
            (omega (arith, (is_open i o).fitted.rows, part_long z c l p.listed i h))
            ∙ ap (take (f.commits * (f.width + 16))) (drop-drop f.cdat (start_at z c l i) c))

        gen_here : gen_at z c l g ≡ be 4 (rows_part (part_at z c l i) f) ((g - first_at z c l i) * (f.width + 16) + f.width + 8) / 4
        unfolding gen_at gen_in commit_of
        gen_here = rw (file_here, pos_here, o)

        wide_is : wide_in t i ≡ f.width
        wide_is = p.wide i h ∙ (rows_open i o).1

        -- the sums on the way to it fit
        gen_fits : (g - first_in t i) * (wide_in t i + 16) + (wide_in t i + 16) ≤ 1073741824
        gen_fits =
            rw (first_is, wide_is)
            (omega (
              arith,
              run_within (g - first_at z c l i) f.commits (f.width + 16) (omega (arith, inside, count_of i o)),
              rows_room,
              p.listed.most,
            ))

-- the generation at position g of file i, read from the part of the chain that the table says is the file's CDAT chunk
module _ {z : ℕ} (s : Bor (List ℕ)) {l : List ℕ} {t : List Row} (p : Tabled z s.now l t) (i g : ℕ) (h : i < records_of z l)
    (low : first_in t i ≤ g) (high : g < first_in t (i + 1)) where
  pub gen_room : (g - first_in t i) * (wide_in t i + 16) + (wide_in t i + 16) ≤ 1073741824
  gen_room = gen_fits z s.now l p i h (p.opens i h).1 g low high

  pub gen_read : (x : Bor (List ℕ)) → RecordsOf s (rows_in t i) (first_in t (i + 1) - first_in t i) (wide_in t i + 16) x
      → be 4 x.now ((g - first_in t i) * (wide_in t i + 16) + wide_in t i + 8) / 4 ≡ gen_at z s.now l g
  gen_read x q =
      let f : File = (p.opens i h).0 in
      let o : open_at z s.now l i ≡ Ok f = (p.opens i h).1 in
      let v : wide_in t i ≡ f.width = wide_is z s.now l p i h o g low high in
      let a : first_in t i ≡ first_at z s.now l i = first_is z s.now l p i h o g low high in
      let b : first_in t (i + 1) - first_in t i ≡ f.commits =
      omega (arith, next_limit z s.now l p i h, before_next (count_at z s.now l) i, count_of z s.now l i o) in
      let r : rows_in t i ≡ start_at z s.now l i + f.cdat = p.rows i h ∙ ap (λ (n : ℕ). start_at z s.now l i + n) (rows_open z s.now l i o).0 in
      let y : RecordsOf s (start_at z s.now l i + f.cdat) f.commits (f.width + 16) x = rw (b, r, v) at q in
      let u = records_in s x _ f.commits (f.width + 16) (rows_room z s.now l p i h o g low high) y in
      rw (a, v, u.bytes, rows_here z s.now l p i h o g low high) (sym (gen_here z s.now l p i h o g low high))
