-- The commits of a file in turn: how one goes, what a loop over them keeps, and what it comes to.
use Rattle.std.proofs.Common.{ℕ, zero, suc, ◌+◌, ◌≤◌, ◌<◌, min, max, List, ◌≡◌, refl, sym, ap, arith, get_or, set, replicate, Result, Ok, Err, is_err}
use Rattle.std.specs.Prelude.{⊤}
use Rattle.types.specs.Refusals.{refusal}
use Rattle.types.specs.declared.refusal.Reason.{Reason}
use Rattle.types.specs.declared.refusal.Refusal.{Refusal}
use Rattle.words.specs.First.{◌or◌, refuse}
use Rattle.ancestry.specs.Graph.{highest_below}
use Rattle.ancestry.specs.Counts.{key_of, lowest_below}
use Rattle.ancestry.proofs.Counts.{counts_none}
use Rattle.ancestry.proofs.Scans.{sofar_begins, highest_adds, lowest_begins, lowest_adds}
use Rattle.steps.specs.Walks.{end_of, counted}
use Rattle.steps.proofs.Walking.{count_is}
use Rattle.commit.specs.declared.Commit.{Commit}
use Rattle.traverse.specs.Traversal.{gen_in, walk_in, parents_in, commit_rule, bad, bad_commit, commit_rules, key_in, summary_of}
use Rattle.traverse.specs.Scans.{tried_by, tried_of, lower_of, scanned_of}
use Rattle.tries.specs.Tries.{Parts, Holds, row_in, told}
use Rattle.tries.specs.declared.Tried.{Tried}
use Rattle.tries.proofs.Trials.{row_bad, row_fine, Going, going_stops, going_tried, going_small, going_next, going_ends}

-- ── one commit: a is how its row was answered, r how it went ──

count_told : (m : Result ⊤ Reason) (n g : ℕ) → tried_by g (counted m n) ≡ told m n g
unfolding tried_by counted refuse
count_told (Ok u) n g = refl
count_told (Err e) n g = refl

module _ {q : Parts} {n : ℕ} (i : ℕ) (o : Holds q n) (l : i < n) {a : Result Commit Refusal}
    (e : a ≡ row_in q.width q.fan q.ids q.rows i) {r : Result Tried Reason} (d : r ≡ tried_of a q.edge) where
  pub tried_is : r ≡ told (commit_rule q i) (parents_in q i) (gen_in q i)
  unfolding tried_of commit_rule refuse ◌or◌
  tried_is = go a refl
    where
      go : (v : Result Commit Refusal) → a ≡ v → r ≡ told (commit_rule q i) (parents_in q i) (gen_in q i)
      go (Err x) p = rw (d, p, row_bad i o l e p)
      go (Ok x) p =
          let k = row_fine i o l e p in
          rw (d, p, k.0, k.1, count_is _ _ q.edge) (count_told (end_of (walk_in q i)) (parents_in q i) (gen_in q i))

-- ── all of them ──

bad_is : (q : Parts) (i : ℕ) → bad q i ≡ is_err (commit_rule q i)
unfolding bad
bad_is q i = refl

-- the loop stands at commit c of n: none before it is refused, and these are what they come to
pub record Scanning (q : Parts) (n c h w m : ℕ) (t : List ℕ) : Type 0 where
  pub going : Going (bad q) (gen_in q) (key_in q) n c c h t
  pub lowest : w ≡ lowest_below (gen_in q) c
  pub most : m ≡ highest_below (parents_in q) c

pub scan_begins : (q : Parts) (n : ℕ) → Scanning q n 0 0 0 0 (replicate 66 0)
unfolding highest_below lowest_below
scan_begins q n =
    record {
      going = record { sofar = sofar_begins (bad q) n; highest = refl; counts = sym (counts_none (key_in q)) };
      lowest = refl;
      most = refl;
    }

-- the ways to the lower of two
pub lower_first : (c old g : ℕ) → c ≡ 0 → g ≡ lower_of c old g
unfolding lower_of
lower_first c old g e = rw e

pub lower_min : (c old g : ℕ) → (c ≡ 0 → ⊥) → min old g ≡ lower_of c old g
unfolding lower_of
lower_min zero old g h = absurd (h refl)
lower_min (suc c) old g h = refl

lower_adds : (f : ℕ → ℕ) (n : ℕ) {x g r : ℕ} → g ≡ f n → x ≡ lowest_below f n → r ≡ lower_of n x g → r ≡ lowest_below f (n + 1)
unfolding lower_of
lower_adds f zero {x} {g} {r} e d q = lowest_begins f zero x r e refl q
lower_adds f (suc n) {x} {g} {r} e d q = lowest_adds f (suc n) x r e (omega arith) d q

module _ {q : Parts} {n c highest lowest most : ℕ} {counts : List ℕ} (s : Scanning q n c highest lowest most counts) where
  -- r is how commit c went
  module _ (l : c < n) {r : Result Tried Reason} (a : r ≡ told (commit_rule q c) (parents_in q c) (gen_in q c)) where
    pub scan_stops : (e : Reason) → r ≡ Err e → scanned_of q n ≡ Err (refusal e c)
    unfolding scanned_of bad_commit commit_rules refuse
    scan_stops e x = let y = going_stops s.going (commit_rule q) (bad_is q) l _ _ a x in rw (y.1, ← y.0)

    module _ {t : Tried} (went : r ≡ Ok t) {k : ℕ} (e : k ≡ key_of t.parents) (b : k < 66) where
      tried : t ≡ record { parents = parents_in q c; generation = gen_in q c }
      tried = going_tried s.going (commit_rule q) (bad_is q) l _ _ a went

      pub scan_small : get_or counts k 0 ≤ c
      unfolding key_in
      scan_small = going_small s.going (commit_rule q) (bad_is q) l _ _ a went e b refl

      pub scan_next : {high low top : ℕ} → high ≡ max highest t.generation → low ≡ lower_of c lowest t.generation
          → top ≡ max most t.parents → Scanning q n (c + 1) high low top (set counts k (get_or counts k 0 + 1))
      unfolding key_in
      scan_next {high} {low} {top} x y z =
          record {
            going = going_next s.going (commit_rule q) (bad_is q) l _ _ a went e b refl refl x;
            lowest = lower_adds (gen_in q) c (ap (λ (u : Tried). u.generation) tried) s.lowest y;
            most = highest_adds (parents_in q) c most top (ap (λ (u : Tried). u.parents) tried) s.most z;
          }

  pub scan_ends : n ≤ c → Ok (record { summary = record { commits = n; highest = highest; lowest = lowest; most = most }; counts = counts })
      ≡ scanned_of q n
  unfolding scanned_of summary_of bad_commit commit_rules refuse
  scan_ends l =
      let x = going_ends s.going (commit_rule q) (bad_is q) l in
      rw (x.1, ← x.2, s.going.highest, s.lowest, s.most, s.going.counts)
