-- A loop over commits that stops at the first refusal, and what it adds up on the way: one commit more.
use Rattle.std.proofs.Common.{ℕ, ◌+◌, ◌-◌, ◌≤◌, ◌<◌, min, max, List, Bool, true, false, ◌≡◌, refl, sym, ap, ◌∙◌, arith, add-one, ltb, get_or, set}
use Rattle.std.proofs.Common.{lt-ltb, le-ltb, ltb-true, ltb-false, Result, Ok, Err, is_err}
use Rattle.std.specs.Prelude.{⊤}
use Rattle.words.specs.First.{◌if◌else◌, fine, first}
use Rattle.words.proofs.Searches.{first_begins, first_stop, first_step, first_ends, first_hit, first_none}
use Rattle.ancestry.specs.Graph.{highest_below}
use Rattle.ancestry.specs.Counts.{counts_of, lowest_below}
use Rattle.ancestry.proofs.Counts.{highest_next, lowest_first, lowest_next, counts_next, counts_le}

-- ── refusals: commit i meets `rule i`, and `bad i` says whether that refuses it ──

-- the loop stands at i of n, and no commit before i is refused
pub record Sofar (bad : ℕ → Bool) (n i : ℕ) : Type 0 where
  pub most : i ≤ n
  pub rest : first bad 0 n ≡ first bad i (n - i)

-- the refusal that n commits meet: that of the first that is refused
abbrev pub first_rule : {E : Type 0} → (ℕ → Result ⊤ E) → (ℕ → Bool) → ℕ → Result ⊤ E
first_rule rule bad n = rule (first bad 0 n) if ltb (first bad 0 n) n else fine

pub sofar_begins : (bad : ℕ → Bool) (n : ℕ) → Sofar bad n 0
sofar_begins bad n = record { most = omega arith; rest = first_begins bad n }

module _ {E : Type 0} (rule : ℕ → Result ⊤ E) {bad : ℕ → Bool} (is : (i : ℕ) → bad i ≡ is_err (rule i)) {n i : ℕ} (s : Sofar bad n i) where
  pub sofar_next : i < n → rule i ≡ fine → Sofar bad n (i + 1)
  sofar_next l e = record { most = omega arith; rest = first_step bad n i s.rest l (is i ∙ ap is_err e) }

  pub sofar_stops : {r : E} → i < n → rule i ≡ Err r → (i ≡ first bad 0 n) × (first_rule rule bad n ≡ Err r)
  unfolding ◌if◌else◌
  sofar_stops l e =
      let b : i ≡ first bad 0 n = first_stop bad n i s.rest l (is i ∙ ap is_err e) in
      (b, rw (← b, lt-ltb i n l) e)

  pub sofar_ends : n ≤ i → (i ≡ first bad 0 n) × (first_rule rule bad n ≡ fine)
  unfolding ◌if◌else◌
  sofar_ends l =
      let b : i ≡ first bad 0 n = first_ends bad n i s.rest l in
      (b, rw (← b, le-ltb i n l))

-- n commits meet no refusal exactly where none of them does
fine_of : {E : Type 0} (m : Result ⊤ E) → is_err m ≡ false → m ≡ fine
fine_of (Ok u) e = refl
fine_of (Err r) e = absurd (cc)

module _ {E : Type 0} (rule : ℕ → Result ⊤ E) (bad : ℕ → Bool) (is : (i : ℕ) → bad i ≡ is_err (rule i)) (n : ℕ) where
  pub rule_none : first_rule rule bad n ≡ fine → (i : ℕ) → i < n → rule i ≡ fine
  unfolding ◌if◌else◌
  rule_none = go (ltb (first bad 0 n) n) refl
    where
      go : (t : Bool) → ltb (first bad 0 n) n ≡ t → (rule (first bad 0 n) if t else fine) ≡ fine → (i : ℕ) → i < n → rule i ≡ fine
      go true e z i l =
          let h : first bad 0 n < n = ltb-true _ _ e in
          let b : is_err (rule (first bad 0 n)) ≡ true = sym (is _) ∙ first_hit bad 0 n (omega arith) in
          absurd (cc)
      go false e z i l =
          let h : n ≤ first bad 0 n = ltb-false _ _ e in
          fine_of (rule i) (sym (is i) ∙ first_none bad 0 n (omega arith) i (omega arith) (omega arith))

  pub rule_all : ((i : ℕ) → i < n → rule i ≡ fine) → first_rule rule bad n ≡ fine
  unfolding ◌if◌else◌
  rule_all h = go (ltb (first bad 0 n) n) refl
    where
      go : (t : Bool) → ltb (first bad 0 n) n ≡ t → (rule (first bad 0 n) if t else fine) ≡ fine
      go true e = h (first bad 0 n) (ltb-true _ _ e)
      go false e = refl

-- ── sums: x is what the commits below n came to, g what commit n has ──

module _ (f : ℕ → ℕ) (n x : ℕ) {g : ℕ} (r : ℕ) (e : g ≡ f n) where
  pub highest_adds : x ≡ highest_below f n → r ≡ max x g → r ≡ highest_below f (n + 1)
  highest_adds d q = rw add-one (omega (arith, highest_next f n))

  pub lowest_begins : n ≡ 0 → r ≡ g → r ≡ lowest_below f (n + 1)
  lowest_begins z q = let k : f n ≡ f 0 = ap f z in rw z (omega (arith, lowest_first f))

  pub lowest_adds : 0 < n → x ≡ lowest_below f n → r ≡ min x g → r ≡ lowest_below f (n + 1)
  lowest_adds h d q = rw add-one (omega (arith, lowest_next f n h))

module _ (key : ℕ → ℕ) (n : ℕ) {k : ℕ} {l : List ℕ} (e : k ≡ key n) (h : k < 66) (d : l ≡ counts_of key n) where
  pub counts_adds : set l k (get_or l k 0 + 1) ≡ counts_of key (n + 1)
  counts_adds =
      let b : key n < 66 = omega arith in
      rw (d, e, add-one n) (sym (counts_next key n b))

  pub counts_small : get_or l k 0 ≤ n
  counts_small = rw d (counts_le key n k h)
