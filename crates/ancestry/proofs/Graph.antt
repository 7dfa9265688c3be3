-- Demand 3: right generations give a length that agrees with the graph, and no other answer does.
use Rattle.std.proofs.Common.{ℕ, zero, suc, ◌+◌, ◌-◌, ◌≤◌, ◌<◌, ◌≡◌, refl, ap, sym, ◌∙◌, subst, ◌⊎◌, inl, inr, ⊎_elim, List, [], ◌∷◌, arith}
use Rattle.std.proofs.Common.{eq-zero-or-pos, eq-eqb, ne_eqb}
use mathlib.Core.List.{Memᴰ}
use mathlib.Core.Option.{Option, none, some, none-ne-some, some-ne-none, some-injective}
use Rattle.words.proofs.Numbers.{le_or_lt}
use Rattle.ancestry.specs.Graph.{Run, stay, step, Ancestor, Acyclic, Cyclic, HasRun, NoLonger, highest_in, highest_below, cap, length_of, Numbered, Agrees}
use Rattle.ancestry.proofs.Counts.{highest_above, highest_at, highest_top}
use Rattle.ancestry.proofs.Pigeon.{twice}

-- ── the highest of the parents' ──

pub parents_above : (gen : ℕ → ℕ) {p : ℕ} {ps : List ℕ} → Memᴰ p ps → gen p ≤ highest_in gen ps
unfolding highest_in
parents_above gen (Memᴰ.head e) = omega (arith, ap gen e)
parents_above gen (Memᴰ.tail m) = omega (arith, parents_above gen m)

pub parents_at_lem : (gen : ℕ → ℕ) (ps : List ℕ) → 0 < highest_in gen ps → (p : ℕ) × Memᴰ p ps × (gen p ≡ highest_in gen ps)
unfolding highest_in
parents_at_lem gen [] h = absurd (omega arith)
parents_at_lem gen (p ∷ ps) h =
    ⊎_elim
    (λ (l : highest_in gen ps ≤ gen p). (p, Memᴰ.head refl, omega arith))
    (λ (l : gen p < highest_in gen ps). let (q, m, e) = parents_at_lem gen ps (omega arith) in (q, Memᴰ.tail m, omega arith))
    (le_or_lt (highest_in gen ps) (gen p))

-- ── runs ──

module _ {parents : ℕ → List ℕ} where
  -- the commit after i steps of a run
  unfoldable at : {c d k : ℕ} → Run parents c d k → ℕ → ℕ
  at (stay {c = c}) i = c
  at (step {c = c} s r) zero = c
  at (step s r) (suc i) = at r i

  upto : {c d k : ℕ} (r : Run parents c d k) (i : ℕ) → i ≤ k → Run parents c (at r i) i
  unfolding at
  upto stay zero h = stay
  upto stay (suc i) h = absurd (omega arith)
  upto (step s r) zero h = stay
  upto (step s r) (suc i) h = step s (upto r i (omega arith))

  -- of two commits that a run passes, the later is an ancestor of the earlier
  later : {c d k : ℕ} (r : Run parents c d k) (i j : ℕ) → i < j → j ≤ k → Ancestor parents (at r j) (at r i)
  unfolding at
  later stay i j h l = absurd (omega arith)
  later (step s r) i zero h l = absurd (omega arith)
  later (step s r) zero (suc j) h l = (j, step s (upto r j (omega arith)))
  later (step s r) (suc i) (suc j) h l = later r i j (omega arith) (omega arith)

module _ {n : ℕ} {parents : ℕ → List ℕ} {gen : ℕ → ℕ} (g : Numbered n parents gen) where
  end_inside : {c d k : ℕ} → c < n → Run parents c d k → d < n
  end_inside h stay = h
  end_inside h (step {c = c} {p = p} s r) = end_inside (g.inside c p h s) r

  -- a commit of generation above k starts a run of k steps
  run_from : (k c : ℕ) → c < n → k < gen c → (d : ℕ) × Run parents c d k
  run_from zero c h l = (c, stay)
  run_from (suc k) c h l =
      let (p, m, e) = parents_at_lem gen (parents c) (omega (arith, g.right c h)) in
      let (d, r) = run_from k p (g.inside c p h m) (omega (arith, g.right c h)) in
      (d, step {d = d} m r)

  -- a generation above n: a run of n steps passes n + 1 commits, one of them twice
  deep : (c : ℕ) → c < n → n < gen c → Cyclic parents n
  deep c h l =
      let (d, r) = run_from n c h l in
      let (i, j, a, b, e) = twice (at r) n (suc n) (λ k q. end_inside h (upto r k (omega arith))) (omega arith) in
      (at r i, end_inside h (upto r i (omega arith)), subst (λ (x : ℕ). Ancestor parents x (at r i)) e (later r i j a (omega arith)))

  -- where the cap is not reached, generations fall along a run, and so none leads back
  module _ (low : highest_below gen n < cap) where
    falls : {c d k : ℕ} → c < n → Run parents c d k → gen d + k ≤ gen c
    falls h stay = omega arith
    falls h (step {c = c} {p = p} s r) =
        omega (arith, falls (g.inside c p h s) r, parents_above gen s, g.right c h, highest_above gen n c h)

    no_loop : Acyclic parents n
    no_loop c h (k, r) = omega (arith, falls h r)

  -- the highest generation is at most the number of commits, or the cap
  pub highest_few : (highest_below gen n ≤ n) ⊎ (highest_below gen n ≡ cap)
  highest_few =
      ⊎_elim (λ (l : highest_below gen n ≤ n). inl l) (λ (l : n < highest_below gen n). inr (at_cap l)) (le_or_lt (highest_below gen n) n)
    where
      at_cap : n < highest_below gen n → highest_below gen n ≡ cap
      at_cap l =
          let (c, h, e) = highest_top gen n (omega arith) in
          ⊎_elim
          (λ (q : cap ≤ highest_below gen n). omega (arith, g.right c h))
          (λ (q : highest_below gen n < cap). let (x, b, a) = deep c h (omega arith) in absurd (no_loop q x b a))
          (le_or_lt cap (highest_below gen n))

  -- ── the answer ──

  agrees_some : highest_below gen n ≤ n → Agrees n parents (some (highest_below gen n - 1))
  agrees_some few = record {
    given = λ a. (highest_below gen n - 1, refl);
    acyclic = λ l q. no_loop low;
    cyclic = λ q. absurd (some-ne-none _ q);
    reached = λ l q h. subst (HasRun parents n) (some-injective _ _ q) (reach h);
    longest = λ l q. subst (NoLonger parents n) (some-injective _ _ q) (λ c d k h r.
        omega (arith, falls low h r, g.right d (end_inside h r), highest_above gen n c h));
    empty = λ e. ap some (omega arith);
  }
    where
      low : highest_below gen n < cap
      low = omega (arith, g.few)

      reach : 0 < n → HasRun parents n (highest_below gen n - 1)
      reach h =
          let (c, b, e) = highest_at gen n h in
          let (d, r) = run_from (highest_below gen n - 1) c b (omega (arith, g.right c b)) in
          (c, b, d, r)

agrees_none : {n : ℕ} {parents : ℕ → List ℕ} → Cyclic parents n → Agrees n parents none
agrees_none (c, h, a) = record {
  given = λ free. absurd (free c h a);
  acyclic = λ l q. absurd (none-ne-some l q);
  cyclic = λ q. (c, h, a);
  reached = λ l q. absurd (none-ne-some l q);
  longest = λ l q. absurd (none-ne-some l q);
  empty = λ e. absurd (omega arith);
}

-- demand 3
pub agrees : (n : ℕ) (parents : ℕ → List ℕ) (gen : ℕ → ℕ) → Numbered n parents gen → Agrees n parents (length_of (highest_below gen n))
unfolding length_of
agrees n parents gen g =
    ⊎_elim
    (λ (l : highest_below gen n ≤ n). rw (ne_eqb (highest_below gen n) cap (λ e. omega (arith, g.few))) (agrees_some g l))
    (λ (e : highest_below gen n ≡ cap).
    let (c, h, q) = highest_top gen n (omega arith) in
    rw (eq-eqb (highest_below gen n) cap e) (agrees_none (deep g c h (omega (arith, g.few)))))
    (highest_few g)

-- the graph alone decides the answer
pub unique : {n : ℕ} {parents : ℕ → List ℕ} (a b : Option ℕ) → Agrees n parents a → Agrees n parents b → a ≡ b
unique none none p q = refl
unique none (some l) p q = let (c, h, o) = p.cyclic refl in absurd (q.acyclic l refl c h o)
unique (some l) none p q = let (c, h, o) = q.cyclic refl in absurd (p.acyclic l refl c h o)
unique {n} (some l) (some m) p q =
    ⊎_elim
    (λ (z : n ≡ 0). p.empty z ∙ sym (q.empty z))
    (λ (z : 0 < n).
    let (c, h, d, r) = p.reached l refl z in
    let (x, b, y, t) = q.reached m refl z in
    ap some (omega (arith, q.longest m refl c d l h r, p.longest l refl x y m b t)))
    (eq-zero-or-pos n)
