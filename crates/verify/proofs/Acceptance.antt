-- A chain is accepted exactly if it is sound: each stage gives no refusal exactly if its facts hold.
use Rattle.std.proofs.Common.{ℕ, zero, suc, ◌+◌, ◌*◌, ◌≤◌, ◌<◌, List, Bool, true, false, ◌≡◌, refl, sym, ap, subst, ◌∙◌, ⊎_elim, arith}
use Rattle.std.proofs.Common.{eq-or-lt_of_le, le_refl, ltb, ltb-true, ltb-false, leb-false, eqb-true, Result, Ok, Err, is_err}
use mathlib.Core.List.Memᴰ
use mathlib.Core.List.{Memᴰ}
use borrow.Author.Tests.{lt-leb, not-false}
use Rattle.std.specs.Prelude.{⊤}
use Rattle.types.specs.declared.refusal.Reason.{Reason}
use Rattle.types.specs.declared.refusal.Refusal.{Refusal}
use Rattle.words.specs.First.{fine, first, refuse}
use Rattle.words.proofs.Rows.{miss, pass, eq_not, refuse_none}
use Rattle.words.proofs.Searches.{first_hit, first_none}
use Rattle.ancestry.proofs.Scans.{first_rule, rule_none, rule_all}
use Rattle.list.specs.List.{records_of}
use Rattle.file.specs.declared.File.{File}
use Rattle.steps.specs.Walks.{Walked, ends, parent, positions, end_of}
use Rattle.parents.specs.Walks.{walk_of}
use Rattle.rules.proofs.Entries.{or_miss, or_none, entry_sound, entry_whole}
use Rattle.rules.proofs.Trailers.{sum_sound, sum_whole, name_sound, name_whole}
use Rattle.graph.specs.Chain.{width_in, part_at, open_at, count_at, first_at, commits_in, opened}
use Rattle.graph.proofs.Passing.{count_open, each_open, few_positions}
use Rattle.graph.proofs.Views.{opened_halves, opened_listed}
use Rattle.walk.specs.Lists.{walk_in}
use Rattle.audit.specs.Files.{bases_in, base_in, gen_in, entry_at, gen_at}
use Rattle.audit.specs.Rules.{walk_rule, alien, bad_base, base_rule, head_rule, gen_rule, commit_rule, bad, bad_commit, commit_rules}
use Rattle.audit.specs.Rules.{accepted, refused_by, verify_from, verification, not_sound}
use Rattle.verify.specs.Facts.{SoundCommit, SoundFile, Sound}
use Rattle.audit.specs.declared.Summary.{Summary}
use Rattle.audit.specs.declared.Verification.{Verification}

-- ── a search finds none exactly if the test holds at none ──

module _ (p : ℕ → Bool) (n : ℕ) where
  pub none_all : ltb (first p 0 n) n ≡ false → (j : ℕ) → j < n → p j ≡ false
  none_all e j h = let g = ltb-false (first p 0 n) n e in first_none p 0 n (omega arith) j (omega arith) (omega arith)

  pub all_none : ((j : ℕ) → j < n → p j ≡ false) → ltb (first p 0 n) n ≡ false
  all_none f = go (ltb (first p 0 n) n) refl
    where
      go : (t : Bool) → ltb (first p 0 n) n ≡ t → t ≡ false
      go true e =
          let h : first p 0 n < n = ltb-true (first p 0 n) n e in
          sym (first_hit p 0 n (omega arith)) ∙ f (first p 0 n) h
      go false e = refl

-- there is no first refusal exactly if no rule refuses
module _ (rule : ℕ → Result ⊤ Reason) (n : ℕ) where
  abbrev bad_rule : ℕ → Bool
  bad_rule i = is_err (rule i)

  pub rules_all : first_rule rule bad_rule n ≡ fine → (j : ℕ) → j < n → rule j ≡ fine
  rules_all = rule_none rule bad_rule (λ i. refl) n

  pub all_rules : ((j : ℕ) → j < n → rule j ≡ fine) → first_rule rule bad_rule n ≡ fine
  all_rules = rule_all rule bad_rule (λ i. refl) n

-- ── a walk ──

pub walk_sound : (limit : ℕ) (w : Walked) → walk_rule limit w ≡ fine → (end_of w ≡ fine) × ((g : ℕ) → Memᴰ g (positions w) → g < limit)
unfolding walk_rule end_of positions
walk_sound limit (ends r) e = (e, λ g m. absurd (Memᴰ.not-nil m))
walk_sound limit (parent x w) e =
    let p = pass _ _ _ e in
    let r = walk_sound limit w p.1 in
    (r.0, λ g m. ⊎_elim (λ (q : g ≡ x). omega (arith, leb-false limit x p.0)) (r.1 g) (Memᴰ.cases_cons m))

pub walk_whole : (limit : ℕ) (w : Walked) → end_of w ≡ fine → ((g : ℕ) → Memᴰ g (positions w) → g < limit) → walk_rule limit w ≡ fine
unfolding walk_rule end_of positions
walk_whole limit (ends r) e f = e
walk_whole limit (parent x w) e f =
    sym (miss _ _ _ fine (lt-leb limit x (f x (Memᴰ.head refl))) (sym (walk_whole limit w e (λ g m. f g (Memᴰ.tail m)))))

-- ── a refusal, or what comes after ──

refuse_accepted : (m : Result ⊤ Reason) (i place : ℕ) (rest : Verification) {s : Summary} → (refuse m (not_sound i place) rest).verdict ≡ Ok s
    → (m ≡ fine) × (rest.verdict ≡ Ok s)
unfolding refuse
refuse_accepted (Ok u) i place rest e = (refl, e)
refuse_accepted (Err r) i place rest e = absurd (cc)

-- ── the opening: each file opens, and its commits are few ──

module _ (z : ℕ) (c l : List ℕ) where
  module _ (y : opened z c l ≡ fine) where
    pub all_open : (k : ℕ) → k < records_of z l → (f : File) × (open_at z c l k ≡ Ok f)
    all_open k h = each_open z c l (records_of z l) 0 (opened_halves z c l y).1 k (omega arith) (omega arith)

    pub commits_few : commits_in z c l * 36 ≤ 1073741824
    commits_few = few_positions z c l (opened_listed z c l y) (records_of z l) (le_refl _)

  -- ── file i, with the record f ──

  module _ (i : ℕ) {f : File} (e : open_at z c l i ≡ Ok f) where
    pub commit_sound : (k : ℕ) → commit_rule z c l i k ≡ fine → SoundCommit (gen_at z c l) (first_at z c l (i + 1)) (part_at z c l i) f k
    unfolding commit_rule gen_rule entry_at walk_in gen_in
    commit_sound k q =
        let p1 = or_none _ _ (rw e at q) in
        let p2 = or_none _ _ p1.1 in
        let w = walk_sound (first_at z c l (i + 1)) _ p2.0 in
        record {
          entry = entry_sound f.width _ _ _ k p1.0;
          ended = w.0;
          inside = w.1;
          right = eqb-true _ _ (not-false _ (pass _ _ _ p2.1).0);
        }

    pub commit_whole : {k : ℕ} → SoundCommit (gen_at z c l) (first_at z c l (i + 1)) (part_at z c l i) f k → commit_rule z c l i k ≡ fine
    unfolding commit_rule gen_rule entry_at walk_in gen_in
    commit_whole {k} s =
        rw e (
        or_miss _ (entry_whole f.width _ _ _ k s.entry)
        ∙ or_miss _ (walk_whole (first_at z c l (i + 1)) (walk_of (part_at z c l i) f k) s.ended s.inside)
        ∙ sym (miss _ _ fine fine (eq_not _ _ s.right) refl)
        )

    pub file_sound : head_rule z c l i ≡ fine → commit_rules z c l i ≡ fine → SoundFile z c l i (part_at z c l i) f
    unfolding head_rule base_rule bad_base alien commit_rules bad_commit bad bases_in base_in width_in
    file_sound h q =
        let p1 = or_none (base_rule z c l i) _ h in
        let p2 = or_none _ _ p1.1 in
        let b1 = pass _ _ _ p1.0 in
        let b2 = pass _ _ _ b1.1 in
        record {
          bases = eqb-true f.bases i (not-false _ (rw e at b1.0));
          base = λ j g. eqb-true _ _ (not-false _ (rw e at (none_all (alien z c l i) i b2.0 j g)));
          sum = sum_sound f.width (part_at z c l i) (rw e at p2.0);
          name = name_sound f.width z l i (part_at z c l i) (rw e at p2.1);
          commit = λ k g. commit_sound k
              (rules_all (commit_rule z c l i) (count_at z c l i) q k (omega (arith, count_open z c l i e)));
        }

    pub head_whole : SoundFile z c l i (part_at z c l i) f → head_rule z c l i ≡ fine
    unfolding head_rule base_rule bad_base alien bases_in base_in width_in
    head_whole s =
        or_miss _ (sym (
        miss _ _ _ fine (rw e (eq_not f.bases i s.bases))
        (miss _ _ fine fine (all_none (alien z c l i) i (λ j g. rw e (eq_not _ _ (s.base j g)))) refl)
        ))
        ∙ rw e (or_miss _ (sum_whole f.width (part_at z c l i) s.sum) ∙ name_whole f.width z l i (part_at z c l i) s.name)

    pub commits_whole : SoundFile z c l i (part_at z c l i) f → commit_rules z c l i ≡ fine
    unfolding commit_rules bad_commit bad
    commits_whole s =
        all_rules (commit_rule z c l i) (count_at z c l i)
        (λ k g. commit_whole (s.commit k (omega (arith, count_open z c l i e))))

  -- ── the chain ──

  -- no rule refuses file i
  abbrev Passed : ℕ → Type 0
  Passed i = (head_rule z c l i ≡ fine) × (commit_rules z c l i ≡ fine)

  files_passed : (left i : ℕ) {s : Summary} → (verify_from z c l left i).verdict ≡ Ok s → (j : ℕ) → i ≤ j → j < i + left → Passed j
  unfolding verify_from
  files_passed zero i e j a b = absurd (omega arith)
  files_passed (suc left) i {s} e j a b =
      let h = refuse_accepted _ _ _ _ e in
      let k = refuse_accepted _ _ _ _ h.1 in
      ⊎_elim (λ (q : i ≡ j). subst Passed q (h.0, k.0)) (λ (q : i < j). files_passed left (i + 1) k.1 j (omega arith) (omega arith))
      (eq-or-lt_of_le a)

  passed_files : (left i : ℕ) → ((j : ℕ) → i ≤ j → j < i + left → Passed j) → verify_from z c l left i ≡ accepted z c l
  unfolding verify_from
  passed_files zero i f = refl
  passed_files (suc left) i f =
      let p = f i (omega arith) (omega arith) in
      refuse_none _ _ p.0 ∙ refuse_none _ _ p.1 ∙ passed_files left (i + 1) (λ j a b. f j (omega arith) (omega arith))

  pub sound_of : {s : Summary} → (verification z c l).verdict ≡ Ok s → Sound z c l
  unfolding verification refuse
  sound_of {s} = go (opened z c l) refl
    where
      go : (o : Result ⊤ Refusal) → opened z c l ≡ o → (refuse o refused_by (verify_from z c l (records_of z l) 0)).verdict ≡ Ok s → Sound z c l
      go (Err r) q e = absurd (cc)
      go (Ok u) q e =
          record {
            opens = q;
            file = λ i h f o. (let p = files_passed (records_of z l) 0 e i (omega arith) (omega arith) in file_sound i o p.0 p.1);
          }

  pub accepted_of : Sound z c l → verification z c l ≡ accepted z c l
  unfolding verification
  accepted_of s =
      refuse_none _ _ s.opens
      ∙ passed_files (records_of z l) 0 (λ i a b.
      let h : i < records_of z l = omega arith in
      let (f, o) = all_open s.opens i h in
      let t = s.file i h f o in
      (head_whole i o t, commits_whole i o t))

  pub sound_same : verification z c l ≡ accepted z c l → Sound z c l
  unfolding accepted
  sound_same e = sound_of (ap (λ (v : Verification). v.verdict) e)

  -- a refused chain is not sound
  pub refused_not : {r : Refusal} → (verification z c l).verdict ≡ Err r → Sound z c l → ⊥
  unfolding accepted
  refused_not e s =
      let d = ap (λ (v : Verification). v.verdict) (accepted_of s) in
      cc
