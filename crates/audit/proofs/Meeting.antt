-- What is met on a walk: each way through it, and what meeting all of it comes to.
use Rattle.std.proofs.Common.{ℕ, ◌+◌, ◌≤◌, ◌<◌, max, Bool, true, false, ◌≡◌, refl, arith, leb, length, le-leb, Result, Ok, Err}
use borrow.Author.Tests.{lt-leb}
use Rattle.std.specs.Prelude.{⊤}
use Rattle.types.specs.declared.refusal.Reason.{Reason}
use Rattle.words.specs.First.{◌if◌else◌, fine, refuse}
use Rattle.ancestry.specs.Graph.{highest_in}
use Rattle.steps.specs.Walks.{Walked, ends, stops, parent, positions}
use Rattle.audit.specs.Rules.{walk_rule}
use Rattle.audit.specs.Scans.{met_of}
use Rattle.audit.specs.declared.meets.Met.{Met}

-- so many parents with that highest generation, unless the rule refuses
abbrev pub met_by : Result ⊤ Reason → ℕ → ℕ → Result Met Reason
met_by rule n h = refuse rule Err (Ok (record { parents = n; highest = h }))

module _ (limit : ℕ) (gen : ℕ → ℕ) where
  -- the ways through what is left of a walk
  module _ (w : Walked) (n h : ℕ) where
    pub met_stop : {r : Reason} → w ≡ stops r → Err r ≡ met_of limit gen w n h
    unfolding met_of refuse
    met_stop e = rw e

    pub met_end : w ≡ ends fine → Ok (record { parents = n; highest = h }) ≡ met_of limit gen w n h
    unfolding met_of refuse
    met_end e = rw e

    module _ (p : ℕ) (rest : Walked) (e : w ≡ parent p rest) where
      pub met_out : limit ≤ p → Err Reason.ParentOut ≡ met_of limit gen w n h
      unfolding met_of ◌if◌else◌
      met_out l = rw (e, le-leb limit p l)

      pub met_in : {top : ℕ} → p < limit → top ≡ max h (gen p) → met_of limit gen rest (n + 1) top ≡ met_of limit gen w n h
      unfolding met_of ◌if◌else◌
      met_in l q = rw (e, lt-leb limit p l, q)

  -- the walk's rule refuses it, or all parents are met and their highest generation is kept
  one_by : (b : Bool) {m : Result Met Reason} (r : Result ⊤ Reason) {n h k j : ℕ} → m ≡ met_by r n h → n ≡ k → h ≡ j
      → (Err Reason.ParentOut if b else m) ≡ met_by (Err Reason.ParentOut if b else r) k j
  unfolding ◌if◌else◌ refuse
  one_by true r e p q = refl
  one_by false r e p q = rw (e, p, q)

  pub met_all : (w : Walked) (n h : ℕ)
      → met_of limit gen w n h ≡ met_by (walk_rule limit w) (n + length (positions w)) (max h (highest_in gen (positions w)))
  unfolding met_of walk_rule positions highest_in
  met_all (ends r) n h =
      let m : n + 0 ≡ n = omega arith in
      let g : max h 0 ≡ h = omega arith in
      rw (m, g)
  met_all (parent p w) n h = one_by (leb limit p) _ (met_all w (n + 1) (max h (gen p))) (omega arith) (omega arith)
