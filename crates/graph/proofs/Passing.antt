-- A pass over a chain's files: where each lies, and how the pass goes on. What stands when it is at file k is `Along`: `at` is where the file starts,
-- `sum` how many commits come before it, and the files from k on are refused as all are. A turn passes one file. That the commits are few is a law of
-- sums, `few-commits`, which needs no pass.
use Rattle.std.proofs.Common.{ℕ, zero, suc, ◌+◌, ◌-◌, ◌*◌, ◌≤◌, ◌<◌, List, ◌≡◌, refl, sym, ap, subst, ◌∙◌, ⊎_elim, arith, eq-or-lt_of_le, length}
use Rattle.std.proofs.Common.{length-take, Bor, lt-ltb, le-ltb, le-leb, true, Result, Ok, Err}
use native.Mathlib.Nat.{sub-zero, min-le_left}
use borrow.Author.Tests.{lt-leb}
use Rattle.std.proofs.Math.Bool.{or-true}
use Rattle.std.specs.Prelude.{Option, Some, None}
use Rattle.words.specs.First.{◌if◌else◌, fine}
use Rattle.types.specs.declared.refusal.Refusal.{Refusal}
use Rattle.words.specs.Part.{RecordsOf}
use Rattle.words.specs.Sums.{before}
use Rattle.words.proofs.Adds.{before_next, before_le, before_lt}
use Rattle.words.proofs.Numbers.{le_or_lt}
use Rattle.words.proofs.Parts.{length_part, run_in}
use Rattle.types.proofs.Widths.{rows_least}
use Rattle.list.specs.List.{length_at}
use Rattle.file.specs.Table.{opening}
use Rattle.fit.specs.Facts.{Opened}
use Rattle.file.specs.declared.File.{File}
use Rattle.fit.proofs.Opens.{opened}
use Rattle.graph.specs.Chain.{placed, in_file, commits_of, start_at, part_at, open_at, count_at, first_at, open_or, open_from, Listed}
use Rattle.graph.specs.Passes.{kept_of, Holds, Kept, Passed}
use Rattle.graph.specs.declared.locate.Spot.{Spot}

-- the ways through what is kept
module _ (old : Option Spot) (g sum next k at n : ℕ) (f : File) where
  pub kept_before : g < sum → old ≡ kept_of old g sum next k at n f
  unfolding kept_of ◌if◌else◌
  kept_before h = rw (lt-ltb g sum h)

  pub kept_after : next ≤ g → old ≡ kept_of old g sum next k at n f
  unfolding kept_of ◌if◌else◌
  kept_after e = rw (le-leb next g e, or-true)

  pub kept_here : sum ≤ g → g < next
      → Some (record { file = k; start = at; size = n; pos = record { 0 = g - sum }; inner = f }) ≡ kept_of old g sum next k at n f
  unfolding kept_of ◌if◌else◌
  kept_here h e = rw (le-ltb g sum h, lt-leb next g e)

-- how a file is kept
pub ruleset keeping = (kept_before, kept_after, kept_here)

module _ (z : ℕ) (c l : List ℕ) where
  -- what an open file gives, and its commits
  pub file_opened : (k : ℕ) {f : File} → open_at z c l k ≡ Ok f → Opened (part_at z c l k) f
  unfolding open_at
  file_opened k e = opened true (part_at z c l k) e

  pub count_open : (k : ℕ) {f : File} → open_at z c l k ≡ Ok f → count_at z c l k ≡ f.commits
  unfolding count_at commits_of
  count_open k e = rw e

  part_most : (k : ℕ) → length (part_at z c l k) ≤ length_at z l k
  unfolding part_at
  part_most k = rw length-take (min-le_left _ _)

  -- a commit takes 36 bytes at least: those of file k, and those before it
  file_commits : (k : ℕ) → count_at z c l k * 36 ≤ length_at z l k
  unfolding count_at commits_of
  file_commits k = go (open_at z c l k) refl
    where
      go : (o : Result File Refusal) → open_at z c l k ≡ o → commits_of o * 36 ≤ length_at z l k
      go (Ok f) e =
          let o : Opened (part_at z c l k) f = file_opened k e in
          let r : f.commits * (f.width + 16) ≤ length_at z l k = omega (arith, o.fitted.rows, part_most k) in
          rows_least f.width o.known f.commits _ r
      go (Err q) e = omega arith

  pub few_commits : (k : ℕ) → first_at z c l k * 36 ≤ start_at z c l k
  unfolding before
  few_commits zero = omega arith
  few_commits (suc k) = omega (arith, few_commits k, file_commits k)

  -- one file more is open; a file is not
  from_open : (k left : ℕ) {f : File} → open_at z c l k ≡ Ok f → open_from z c l k (suc left) ≡ open_from z c l (k + 1) left
  unfolding open_from open_or
  from_open k left e = rw e

  from_refused : (k left : ℕ) {r : Refusal} → open_at z c l k ≡ Err r → open_from z c l k (suc left) ≡ Err (placed k r)
  unfolding open_from open_or
  from_refused k left e = rw e

  -- all files from k on open: so does file k, and so does each
  open_here : (k left : ℕ) → open_from z c l k (suc left) ≡ fine → (f : File) × (open_at z c l k ≡ Ok f)
  unfolding open_at
  open_here k left y = go (open_at z c l k) refl
    where
      go : (o : Result File Refusal) → open_at z c l k ≡ o → (f : File) × (open_at z c l k ≡ Ok f)
      go (Ok f) e = (f, e)
      go (Err q) e = absurd (cc (from_refused k left e))

  pub each_open : (left k : ℕ) → open_from z c l k left ≡ fine → (j : ℕ) → k ≤ j → j < k + left → (f : File) × (open_at z c l j ≡ Ok f)
  each_open zero k y j a b = absurd (omega arith)
  each_open (suc left) k y j a b =
      let (f, e) = open_here k left y in
      ⊎_elim (λ (q : k ≡ j). (f, ap (open_at z c l) (sym q) ∙ e))
      (λ (q : k < j). each_open left (k + 1) (rw (from_open k left e) at y) j (omega arith) (omega arith)) (eq-or-lt_of_le a)

  -- what stands when a pass is at file k, which starts at `at`, with sum commits before it
  pub record Along (n k at sum : ℕ) : Type 0 where
    pub few : k ≤ n
    pub place : at ≡ start_at z c l k
    pub total : sum ≡ before (count_at z c l) k
    pub rest : open_from z c l 0 n ≡ open_from z c l k (n - k)

  pub record Passing (n g k at sum : ℕ) (r : Option Spot) : Type 0 where
    pub along : Along n k at sum
    pub kept : Kept z c l g k r

  -- what was opened is file k
  pub open_is : (k : ℕ) {s : List ℕ} {o v : Result File Refusal} → s ≡ part_at z c l k → o ≡ opening s → o ≡ v → open_at z c l k ≡ v
  unfolding open_at
  open_is k p q e = ap opening (sym p) ∙ sym q ∙ e

  -- what opening file k answered: its file, or its refusal
  pub opens_as : (k : ℕ) {s : List ℕ} {f : File} → s ≡ part_at z c l k → Ok f ≡ in_file k (opening s) → open_at z c l k ≡ Ok f
  unfolding open_at in_file
  opens_as k {s} {f} p e = rw p at (go (opening s) e)
    where
      go : (o : Result File Refusal) → Ok f ≡ in_file k o → o ≡ Ok f
      go (Ok g) h = sym h
      go (Err r) h = absurd (cc)

  pub refused_as : (k : ℕ) {s : List ℕ} {q : Refusal} → s ≡ part_at z c l k → Err q ≡ in_file k (opening s)
      → (r : Refusal) × (open_at z c l k ≡ Err r) × (placed k r ≡ q)
  unfolding open_at in_file
  refused_as k {s} {q} p e = rw p at (go (opening s) e)
    where
      go : (o : Result File Refusal) → Err q ≡ in_file k o → (r : Refusal) × (o ≡ Err r) × (placed k r ≡ q)
      go (Ok g) h = absurd (cc)
      go (Err r) h = (r, refl, cc)

  module _ {n : ℕ} (d : Listed z c l n) where
    pub file_room : (k : ℕ) → k < n → start_at z c l k + length_at z l k ≤ length c
    file_room k h = omega (arith, before_lt (length_at z l) k n h, d.files)

    pub part_long : (k : ℕ) → k < n → length (part_at z c l k) ≡ length_at z l k
    unfolding part_at
    part_long k h = length_part (start_at z c l k) (length_at z l k) c (file_room k h)

    -- so in 1 GiB they are few
    pub few_positions : (k : ℕ) → k ≤ n → first_at z c l k * 36 ≤ 1073741824
    few_positions k h = omega (arith, few_commits k, before_le (length_at z l) k n h, d.files, d.most)

    pub along_begins : Along n 0 0 0
    unfolding before
    along_begins = record { few = omega arith; place = refl; total = refl; rest = rw sub-zero }

    pub pass_begins : (g : ℕ) → Passing n g 0 0 0 None
    unfolding before
    pass_begins g = record { along = along_begins; kept = record { holds = λ s y. absurd (cc); outside = λ y. omega arith } }

    -- a step from file k, where a file is refused, is open, or there is none
    module _ {k : ℕ} (at sum : ℕ) (p : Along n k at sum) where
      pub along_ends : n ≤ k → open_from z c l 0 n ≡ fine
      unfolding open_from
      along_ends h = let y : n - k ≡ 0 = omega arith in p.rest ∙ ap (open_from z c l k) y

      module _ (h : k < n) where
        ahead : n - k ≡ suc (n - (k + 1))
        ahead = omega arith

        pub along_refused : {s : List ℕ} {q : Refusal} → s ≡ part_at z c l k → Err q ≡ in_file k (opening s) → open_from z c l 0 n ≡ Err q
        along_refused {s} {q} y w =
            let (r, e, v) = refused_as k y w in
            p.rest ∙ ap (open_from z c l k) ahead ∙ from_refused k (n - (k + 1)) e ∙ ap Err v

        module _ (f : File) (e : open_at z c l k ≡ Ok f) where
          pub counted : before (count_at z c l) (k + 1) ≡ sum + f.commits
          counted = before_next (count_at z c l) k ∙ rw (count_open k e) (omega (arith, p.total))

          pub along_next : (m : ℕ) → m ≡ length (part_at z c l k) → Along n (k + 1) (at + m) (sum + f.commits)
          along_next m y =
              record {
                few = omega arith;
                place = omega (arith, before_next (length_at z l) k, part_long k h, p.place);
                total = sym counted;
                rest = p.rest ∙ ap (open_from z c l k) ahead ∙ from_open k (n - (k + 1)) e;
              }

          -- the sum fits, and so does the next place
          pub along_room : (sum + f.commits ≤ 1073741824) × (at + length (part_at z c l k) ≤ 1073741824)
          along_room =
              let y = file_room k h in
              (omega (arith, few_positions (k + 1) (omega arith), counted), omega (arith, part_long k h, p.place, d.most))

    more : {g k : ℕ} {r : Spot} → Holds z c l g k r → Holds z c l g (k + 1) r
    more h =
        record { below = omega (arith, h.below); start = h.start; size = h.size; sum = h.sum; high = h.high; inner = h.inner }

    kept_at : {g k : ℕ} {r : Spot} → Holds z c l g k r → Kept z c l g k (Some r)
    kept_at {g} {k} {r} h =
        record { holds = λ s w. (let e : r ≡ s = cc in subst (Holds z c l g k) e h); outside = λ w. absurd (cc) }

    -- what was said of the first k files holds with one file more
    module _ {g k at sum : ℕ} {r : Option Spot} (p : Passing n g k at sum r) (h : k < n) where
      module _ {f : File} (e : open_at z c l k ≡ Ok f) where
        keep_step : {m : ℕ} → m ≡ length (part_at z c l k) → Kept z c l g (k + 1) (kept_of r g sum (sum + f.commits) k at m f)
        keep_step {m} y =
            ⊎_elim (λ (a : sum ≤ g). ⊎_elim
            (λ (b : sum + f.commits ≤ g). subst (Kept z c l g (k + 1)) (kept_after r g sum (sum + f.commits) k at m f b)
            (record { holds = λ s w. more (p.kept.holds s w); outside = λ w. omega (arith, counted at sum p.along h f e) }))
            (λ (b : g < sum + f.commits). subst (Kept z c l g (k + 1)) (kept_here r g sum (sum + f.commits) k at m f a b)
            (kept_at (record {
              below = omega arith;
              start = p.along.place;
              size = y ∙ part_long k h;
              sum = omega (arith, p.along.total);
              high = rw (count_open k e) (omega arith);
              inner = e;
            }))) (le_or_lt (sum + f.commits) g))
            (λ (a : g < sum). subst (Kept z c l g (k + 1)) (kept_before r g sum (sum + f.commits) k at m f a)
            (record {
              holds = λ s w. more (p.kept.holds s w);
              outside = λ w. absurd (omega (arith, p.along.total, p.kept.outside w));
            })) (le_or_lt sum g)

        pub pass_next : {m : ℕ} → m ≡ length (part_at z c l k)
            → Passing n g (k + 1) (at + m) (sum + f.commits) (kept_of r g sum (sum + f.commits) k at m f)
        pass_next {m} y = record { along = along_next at sum p.along h f e m y; kept = keep_step y }

    pub pass_ends : {g k at sum : ℕ} {r : Option Spot} → Passing n g k at sum r → n ≤ k
        → Passed z c l n g (record { commits = sum; spot = r })
    pass_ends {k} {at} {sum} p h =
        let q : k ≡ n = omega (arith, p.along.few) in
        record {
          opens = along_ends at sum p.along h;
          commits = p.along.total ∙ ap (before (count_at z c l)) q;
          kept = rw q at p.kept;
        }

-- what is cut from the chain is file k
pub part_is : {z : ℕ} (s : Bor (List ℕ)) {l : List ℕ} {n : ℕ} (d : Listed z s.now l n) (k : ℕ) {at m : ℕ} → k < n
    → at ≡ start_at z s.now l k → m ≡ length_at z l k
    → (x : Bor (List ℕ)) → RecordsOf s at m 1 x → x.now ≡ part_at z s.now l k
unfolding part_at
part_is {z} s {l} {n} d k {at} {m} h e y x p = (run_in s x at m (omega (arith, file_room z s.now l d k h)) p).bytes ∙ rw (e, y)
