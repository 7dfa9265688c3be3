-- One file from its list to its verdict: the ways through each stage.
use Rattle.std.proofs.Common.{ℕ, ◌≤◌, ◌<◌, List, Bool, true, false, ◌≡◌, refl, sym, ◌∙◌, arith, eqb, length, lt-ltb, le-ltb, eqb-true, Result, Ok}
use Rattle.std.proofs.Common.{Err}
use borrow.Author.Tests.{not-false}
use Rattle.std.specs.Prelude.{⊤}
use Rattle.types.specs.Refusals.{refusal, refused_at, number_in}
use Rattle.types.specs.declared.refusal.Reason.{Reason}
use Rattle.types.specs.declared.refusal.Refusal.{Refusal}
use Rattle.words.specs.First.{◌if◌else◌, fine, refuse}
use Rattle.words.proofs.Rows.{pass, eq_not, ne_not}
use Rattle.list.specs.List.{records_of, bad_record, list_rule, list_place}
use Rattle.fit.specs.Facts.{Opened}
use Rattle.file.specs.Table.{opening}
use Rattle.file.specs.declared.File.{File}
use Rattle.fit.proofs.Opens.{opened}
use Rattle.rules.specs.Rules.{sum_rule, name_rule, sum_in, name_in}
use Rattle.rules.proofs.Trailers.{sum_plain, name_plain}
use Rattle.tries.specs.Tries.{parts_of}
use Rattle.traverse.specs.Traversal.{bad_commit, commit_rules, totals_of, refused_by, not_passed, traverse_by, one_rule, one_place, traversal}
use Rattle.traverse.specs.Scans.{scanned_of, traversed}

-- ── the list ──

module _ (z n : ℕ) (l : List ℕ) where
  pub one_large : 1073741824 < n → refused_at (one_rule z n l) (one_place z n l) ≡ Err (refusal Reason.TooLarge 0)
  unfolding one_rule one_place ◌if◌else◌
  one_large h = rw (lt-ltb 1073741824 n h)

  module _ (h : n ≤ 1073741824) where
    pub one_size : (length l ≡ z → ⊥) → refused_at (one_rule z n l) (one_place z n l) ≡ Err (refusal Reason.ListSize 0)
    unfolding one_rule one_place ◌if◌else◌
    one_size g = rw (le-ltb 1073741824 n h, ne_not (length l) z g)

    pub one_list : length l ≡ z → refused_at (one_rule z n l) (one_place z n l) ≡ refused_at (list_rule z n l) (list_place z n l)
    unfolding one_rule one_place list_place ◌if◌else◌
    one_list g = rw (le-ltb 1073741824 n h, eq_not (length l) z g) (go (eqb (number_in (list_rule z n l)) 31))
      where
        go : (t : Bool) → refused_at (list_rule z n l) ((bad_record z l if t else 0) if t else 0)
            ≡ refused_at (list_rule z n l) (bad_record z l if t else 0)
        go true = refl
        go false = refl

  pub one_record : one_rule z n l ≡ fine → length l ≡ z
  unfolding one_rule
  one_record e = eqb-true (length l) z (not-false _ (pass _ _ _ (pass _ _ _ e).1).0)

-- ── the file: there is a record ──

module _ (z : ℕ) (c l : List ℕ) {f : File} (o : opening c ≡ Ok f) (some : 0 < records_of z l) where
  facts : Opened c f
  facts = opened true c o

  room : f.width ≤ length c
  room = omega (arith, facts.fitted.narrow, facts.least)

  sum_is : {r : Result ⊤ Reason} → sum_in f.width c ≡ r → sum_rule f.width c ≡ r
  sum_is h = sym (sum_plain f.width c facts.known room) ∙ h

  name_is : {r : Result ⊤ Reason} → name_in f.width z l 0 c ≡ r → name_rule f.width z l 0 c ≡ r
  name_is h = sym (name_plain f.width z l 0 c some facts.known room) ∙ h

  pub file_sum : {e : Reason} → sum_in f.width c ≡ Err e → traverse_by z c l (Ok f) ≡ refused_by (refusal e 0)
  unfolding traverse_by refuse
  file_sum h = rw (sum_is h)

  module _ (h : sum_in f.width c ≡ fine) where
    pub file_name : {e : Reason} → name_in f.width z l 0 c ≡ Err e → traverse_by z c l (Ok f) ≡ refused_by (refusal e 0)
    unfolding traverse_by refuse
    file_name g = rw (sum_is h, name_is g)

    pub file_commits : name_in f.width z l 0 c ≡ fine
        → traverse_by z c l (Ok f) ≡ traversed (scanned_of (parts_of c f) f.commits)
    unfolding traverse_by traversed scanned_of refuse
    file_commits g = rw (sum_is h, name_is g) (go (commit_rules (parts_of c f) f.commits))
      where
        go : (m : Result ⊤ Reason)
            → refuse m (not_passed (bad_commit (parts_of c f) f.commits)) (traversed (Ok (totals_of (parts_of c f) f.commits)))
            ≡ traversed (refuse (refused_at m (bad_commit (parts_of c f) f.commits)) Err (Ok (totals_of (parts_of c f) f.commits)))
        go (Ok u) = refl
        go (Err e) = refl

-- ── all of it ──

module _ (z : ℕ) (c l : List ℕ) where
  pub traversal_list : {r : Refusal} → refused_at (one_rule z (length c) l) (one_place z (length c) l) ≡ Err r → traversal z c l ≡ refused_by r
  unfolding traversal refuse
  traversal_list {r} = go (one_rule z (length c) l)
    where
      go : (m : Result ⊤ Reason) → refused_at m (one_place z (length c) l) ≡ Err r
          → refuse m (not_passed (one_place z (length c) l)) (traverse_by z c l (opening c)) ≡ refused_by r
      go (Ok u) h = cc
      go (Err e) h = cc

  module _ (h : refused_at (one_rule z (length c) l) (one_place z (length c) l) ≡ fine) where
    pub one_fine : one_rule z (length c) l ≡ fine
    one_fine = go (one_rule z (length c) l) h
      where
        go : (m : Result ⊤ Reason) → refused_at m (one_place z (length c) l) ≡ fine → m ≡ fine
        go (Ok u) e = refl
        go (Err e) d = cc

    pub traversal_shut : {r : Refusal} → opening c ≡ Err r → traversal z c l ≡ refused_by r
    unfolding traversal traverse_by refuse
    traversal_shut g = rw (one_fine, g)

    pub traversal_open : {f : File} → opening c ≡ Ok f → traversal z c l ≡ traverse_by z c l (Ok f)
    unfolding traversal refuse
    traversal_open g = rw (one_fine, g)
