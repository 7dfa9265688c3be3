-- The blocks of a message put together of two parts, and the words after them, over the step that one block makes.
use Rattle.std.proofs.Common.{◌≡◌, ℕ, zero, suc, ◌+◌, ◌*◌, ◌/◌, ◌<◌, ◌≤◌, List, ◌++◌, length, take, drop, [], ◌∷◌, None, fold, sym, refl, ap, ◌∙◌}
use Rattle.std.proofs.Common.{ap₂, add-zero, add-suc, arith, length-append, length-drop, take_all}
use Rattle.std.proofs.lemmas.List.{take-append-le, drop-append-le}
use Rattle.std.proofs.Math.Seq.{drop-append-add}
use Rattle.std.specs.Iterator.{Yields}
use Rattle.std.specs.Slice.Iter.{chunks_exact_steps}
use Rattle.std.specs.declared.slice.ChunksExact.{ChunksExact}
use Rattle.std.specs.Borrow.{Bor}
use Rattle.block.specs.Message.{block, after, after_all}

-- block i lies in the first part, or in the second
block_low : (p r : List ℕ) (i : ℕ) → 64 * i + 64 ≤ length p → block (p ++ r) i ≡ block p i
unfolding block
block_low p r i h =
    ap (take 64) (drop-append-le (64 * i) p r (omega arith)) ∙ take-append-le 64 (drop (64 * i) p) r (simp length-drop (omega arith))

block_high : (p r : List ℕ) (q j : ℕ) → length p ≡ 64 * q → block (p ++ r) (q + j) ≡ block r j
unfolding block
block_high p r q j e =
    let a : 64 * (q + j) ≡ length p + 64 * j = omega arith in
    rw (a, drop-append-add)

module _ (step : List ℕ → List ℕ → List ℕ) where
  after_low : (w p r : List ℕ) (n : ℕ) → 64 * n ≤ length p → after step w (p ++ r) n ≡ after step w p n
  unfolding after
  after_low w p r zero h = refl
  after_low w p r (suc n) h = ap₂ step (after_low w p r n (omega arith)) (block_low p r n (omega arith))

  after_high : (w p r : List ℕ) (q : ℕ) → length p ≡ 64 * q → (j : ℕ) → after step w (p ++ r) (q + j) ≡ after step (after step w p q) r j
  unfolding after
  after_high w p r q e zero = rw add-zero (after_low w p r q (omega arith))
  after_high w p r q e (suc j) =
      rw add-suc (ap₂ step (after_high w p r q e j) (block_high p r q j e))

  -- q whole blocks, then r
  pub joins : (w p r : List ℕ) (q : ℕ) → length p ≡ 64 * q → after_all step w (p ++ r) ≡ after_all step (after step w p q) r
  unfolding after_all
  joins w p r q e =
      let a : length (p ++ r) / 64 ≡ q + length r / 64 = simp length-append (omega arith) in
      rw a (after_high w p r q e (length r / 64))

  -- less than a block
  pub small : (w r : List ℕ) → length r < 64 → after_all step w r ≡ w
  unfolding after_all after
  small w r h = let a : length r / 64 ≡ 0 = omega arith in rw a

  -- a block off the front
  pub front : (w b r : List ℕ) → length b ≡ 64 → after_all step w (b ++ r) ≡ after_all step (step w b) r
  unfolding after block
  front w b r e = joins w b r 1 e ∙ ap (λ (x : List ℕ). after_all step (step w x) r) (take_all 64 b (omega arith))

  -- the chunks of 64 bytes of a slice, one after the other
  pub folded : (s t u : ChunksExact ℕ) (xs : List (Bor (List ℕ))) → s.size ≡ 64 → Yields (chunks_exact_steps {A = ℕ}) s xs t
      → chunks_exact_steps t None u → (w : List ℕ) → fold (λ (a : List ℕ) (x : Bor (List ℕ)). step a x.now) w xs ≡ after_all step w s.rest.now
  folded s t u [] e y n w =
      let l : length t.rest.now < t.size = n.1.0 in
      let h : length s.rest.now < s.size = rw (sym y) at l in
      sym (small w s.rest.now (omega arith))
  folded s t u (x ∷ xs) e y n w =
      let p = y.1 in
      folded y.0 t u xs (p.0 ∙ e) y.2 n (step w x.now) ∙ sym (front w x.now _ (p.1.1 ∙ e)) ∙ ap (after_all step w) (sym p.1.0)
