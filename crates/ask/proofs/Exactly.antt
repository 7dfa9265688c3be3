-- A lookup in a chain whose files are in order finds an id exactly if some file stores it, at its lowest position.
use Rattle.std.proofs.Common.{ℕ, zero, suc, ◌+◌, ◌-◌, ◌≤◌, ◌<◌, List, ◌≡◌, refl, sym, ap, ◌∙◌, ⊎_elim, arith, length, eqb-true, Result, Ok, Err}
use Rattle.types.specs.Width.{known}
use Rattle.types.specs.declared.refusal.Refusal.{Refusal}
use Rattle.words.specs.First.{◌if◌else◌, refuse}
use Rattle.types.specs.declared.graph.Position.{Position}
use Rattle.words.specs.Big.{Bytes}
use Rattle.words.specs.Sums.{before}
use Rattle.words.proofs.Adds.{before_next, before_le}
use Rattle.words.proofs.Numbers.{le_or_lt, bytes_part}
use Rattle.words.proofs.Rows.{eq_not}
use Rattle.list.specs.List.{records_of, length_at}
use Rattle.file.specs.declared.File.{File}
use Rattle.fit.proofs.Opens.{rising}
use Rattle.access.specs.Lookup.{stored, Finds, Right, lookup_of as lookupIn}
use Rattle.access.proofs.Halving.{found_same}
use Rattle.access.proofs.Stores.{stored_long, stored_bytes, answers, both}
use Rattle.graph.specs.Chain.{commits_of, start_at, part_at, open_at, count_at, first_at, commits_in, file_of, pos_of}
use Rattle.ask.specs.Lookups.{Found, absent, find_in, place, shift, find_at, look_from, lookup_of}
use Rattle.ask.specs.Theorems.{stored_in, id_of, Sorted, Exact, Right as Promised, Agrees}
use Rattle.graph.proofs.Passing.{file_opened, count_open}
use Rattle.graph.proofs.Standing.{stands}
use Rattle.graph.proofs.Views.{opened_list, opened_pass, list_listed}
use Rattle.ask.proofs.Looking.{find_refused, find_width, find_seen}

place_same : {r : Found} (m i : ℕ) → r ≡ place m → r ≡ place i → m ≡ i
place_same m i d e = let z : ◌≡◌ {A = Position} (record { 0 = m }) (record { 0 = i }) = cc in ap (λ (p : Position). p.0) z

place_some : {r : Found} (m : ℕ) → r ≡ place m → r ≡ absent → ⊥
place_some m d e = cc

-- r is the lowest position of x among those from `from` up to `to`
data Lowest (id : ℕ → List ℕ) (x : List ℕ) (from to : ℕ) (r : Found) : Type 0 where
  here : (h : ℕ) → r ≡ place h → from ≤ h → h < to → id h ≡ x → ((g : ℕ) → from ≤ g → g < h → id g ≡ x → ⊥) → Lowest id x from to r
  nowhere : r ≡ absent → ((g : ℕ) → from ≤ g → g < to → id g ≡ x → ⊥) → Lowest id x from to r

-- what comes first has no x: so the lowest of the rest is the lowest of all
later : {id : ℕ → List ℕ} {x : List ℕ} (from : ℕ) {mid to : ℕ} {r : Found} → from ≤ mid → ((g : ℕ) → from ≤ g → g < mid → id g ≡ x → ⊥)
    → Lowest id x mid to r → Lowest id x from to r
later {id} {x} from {mid} {to} {r} m none = go
  where
    past : (hi : ℕ) → ((g : ℕ) → mid ≤ g → g < hi → id g ≡ x → ⊥) → (g : ℕ) → from ≤ g → g < hi → id g ≡ x → ⊥
    past hi low g a b e = ⊎_elim (λ (d : mid ≤ g). low g d b e) (λ (d : g < mid). none g a d e) (le_or_lt mid g)

    go : Lowest id x mid to r → Lowest id x from to r
    go (here h e a b d low) = here h e (omega arith) b d (past h low)
    go (nowhere e low) = nowhere e (past to low)

module _ (z : ℕ) (c l : List ℕ) where
  exact_of : {x : List ℕ} {r : Found} → Lowest (id_of z c l) x 0 (commits_in z c l) r → Exact z c l x r
  exact_of (here h e a b d low) =
      record {
        inside = λ m q. omega (arith, place_same h m e q);
        sound = λ m q. rw (← place_same h m e q) d;
        lowest = λ m q g p. low g (omega arith) (omega (arith, place_same h m e q));
        whole = λ g p v. (h, e, ⊎_elim (λ (y : h ≤ g). y) (λ (y : g < h). absurd (low g (omega arith) y v)) (le_or_lt h g));
        absent = λ q g p v. place_some h e q;
        none = λ y. absurd (y h b d);
      }
  exact_of (nowhere e low) =
      record {
        inside = λ m q. absurd (place_some m q e);
        sound = λ m q. absurd (place_some m q e);
        lowest = λ m q g p v. place_some m q e;
        whole = λ g p v. absurd (low g (omega arith) p v);
        absent = λ q g p v. low g (omega arith) p v;
        none = λ y. e;
      }

  -- the id at place i of file k
  id_at_lem : (k i : ℕ) → k < records_of z l → i < count_at z c l k → {f : File} → open_at z c l k ≡ Ok f
      → id_of z c l (first_at z c l k + i) ≡ stored (part_at z c l k) f i
  unfolding id_of stored_in
  id_at_lem k i b h e = rw ((stands z c l).file_back k i b h, (stands z c l).pos_back k i b h, e)

  part_bytes : Bytes c → (k : ℕ) → Bytes (part_at z c l k)
  unfolding part_at
  part_bytes bc k = bytes_part c (start_at z c l k) (length_at z l k) bc

  -- 41 asks for ids of 20 bytes, and those of each file have as many
  wide : (k : ℕ) {f : File} → open_at z c l k ≡ Ok f → f.width ≡ 20
  unfolding known
  wide k {f} e = eqb-true f.width 20 (file_opened z c l k e).known

  module _ (s : Sorted z c l) (bc : Bytes c) where
    -- x has the width of the ids of each file
    module _ (x : List ℕ) (bx : Bytes x) (w : (k : ℕ) (f : File) → open_at z c l k ≡ Ok f → length x ≡ f.width) where
      -- file k is open: what it finds, else what the files after it say
      module _ (k : ℕ) (b : k < records_of z l) {f : File} (e : open_at z c l k ≡ Ok f) where
        finds : Finds (part_at z c l k) f x (lookupIn (part_at z c l k) f x)
        unfolding open_at Right
        finds = (both (part_at z c l k) f x (part_bytes bc k) bx refl).1 e (s.ordered k b f e) (w k f e)

        -- a position of the file by its place there
        placed : (g : ℕ) → first_at z c l k ≤ g → g < first_at z c l (k + 1)
            → (g - first_at z c l k < f.commits) × (id_of z c l g ≡ stored (part_at z c l k) f (g - first_at z c l k))
        placed g a d =
            let h : g - first_at z c l k < count_at z c l k = omega (arith, before_next (count_at z c l) k) in
            let q : first_at z c l k + (g - first_at z c l k) ≡ g = omega arith in
            (omega (arith, count_open z c l k e), ap (id_of z c l) (sym q) ∙ id_at_lem k (g - first_at z c l k) b h e)

        open_step : {to : ℕ} {rest : Found} → first_at z c l (k + 1) ≤ to → Lowest (id_of z c l) x (first_at z c l (k + 1)) to rest
            → Lowest (id_of z c l) x (first_at z c l k) to (shift (first_at z c l k) (lookupIn (part_at z c l k) f x) rest)
        unfolding shift open_at
        open_step {to} {rest} t r =
            ⊎_elim (λ a. let p = finds.sound a.0 a.1 in
            let h : a.0 < count_at z c l k = omega (arith, count_open z c l k e, p.0) in
            rw a.1 (here (first_at z c l k + a.0) refl (omega arith) (omega (arith, before_next (count_at z c l) k))
            (id_at_lem k a.0 b h e ∙ p.1)
            (λ g y v q. let j = placed g y (omega (arith, before_next (count_at z c l) k)) in
            omega (arith, found_same _ _ (sym a.1 ∙ finds.whole (g - first_at z c l k) j.0 (sym j.1 ∙ q))))))
            (λ a. rw a (later (first_at z c l k)
            (omega (arith, before_next (count_at z c l) k))
            (λ g y v q. (let j = placed g y v in finds.absent a (g - first_at z c l k) j.0 (sym j.1 ∙ q))) r))
            (answers (part_at z c l k) x e bx (w k f e))

      step : (k : ℕ) {to : ℕ} {rest : Found} → k < records_of z l → first_at z c l (k + 1) ≤ to
          → Lowest (id_of z c l) x (first_at z c l (k + 1)) to rest
          → Lowest (id_of z c l) x (first_at z c l k) to (shift (first_at z c l k) (find_at z c l x k) rest)
      unfolding shift find_in count_at commits_of
      step k {to} {rest} b t r = go (open_at z c l k) refl
        where
          go : (o : Result File Refusal) → open_at z c l k ≡ o
              → Lowest (id_of z c l) x (first_at z c l k) to (shift (first_at z c l k) (find_in (part_at z c l k) o x) rest)
          go (Ok f) e = open_step k b e t r
          go (Err q) e =
              let n : count_at z c l k ≡ 0 = rw e in
              later (first_at z c l k) (omega (arith, before_next (count_at z c l) k))
              (λ g y v q. omega (arith, before_next (count_at z c l) k)) r

      along : (left k : ℕ) → k + left ≡ records_of z l → Lowest (id_of z c l) x (first_at z c l k) (commits_in z c l) (look_from z c l x k left)
      unfolding look_from
      along zero k e = let q : k ≡ records_of z l = omega arith in nowhere refl (λ g y v p. omega (arith, ap (first_at z c l) q))
      along (suc left) k e =
          step k (omega arith) (before_le (count_at z c l) (k + 1) (records_of z l) (omega arith))
          (along left (k + 1) (omega arith))

    pub exact : (x : List ℕ) → Bytes x → length x ≡ 20 → Exact z c l x (lookup_of z c l x)
    unfolding lookup_of refuse ◌if◌else◌ before
    exact x bx w =
        rw (s.opens, eq_not (length x) 20 w)
        (exact_of (along x bx (λ k f e. w ∙ sym (wide k e)) (records_of z l) 0 (omega arith)))

    -- the id at a position is an id
    module _ (g : ℕ) (h : g < commits_in z c l) {f : File} (e : open_at z c l (file_of z c l g) ≡ Ok f) (b : pos_of z c l g < f.commits) where
      id_long : length (id_of z c l g) ≡ 20
      unfolding id_of stored_in open_at
      id_long =
          rw e (stored_long (file_opened z c l _ e) (rising _ e) (pos_of z c l g) b
          ∙ wide (file_of z c l g) e)

      id_bytes : Bytes (id_of z c l g)
      unfolding id_of stored_in
      id_bytes = rw e (stored_bytes _ f (pos_of z c l g) (part_bytes bc (file_of z c l g)))

    pub agrees : (g : ℕ) → g < commits_in z c l → Agrees z c l g
    agrees g h =
        let o = (stands z c l).opens g h in
        let t : Exact z c l (id_of z c l g) (lookup_of z c l (id_of z c l g)) =
        exact (id_of z c l g) (id_bytes g h o.1 o.2) (id_long g h o.1 o.2) in
        let r = t.whole g h refl in
        record { at = r.0; found = r.1; same = t.sound r.0 r.1; below = r.2; lowest = t.lowest r.0 r.1 }

  -- a lookup's answer, and what it promises beside
  pub promised : (x : List ℕ) → Bytes c → Bytes x → {r : Found} → r ≡ lookup_of z c l x → (r ≡ lookup_of z c l x) × Promised z c l x r
  unfolding Promised
  promised x bc bx e = (e, λ s w. rw e (exact s bc x bx w))

-- how a lookup goes
pub ruleset finding = (find_refused, find_width, find_seen, promised, opened_list, opened_pass, list_listed)
