-- Messages put together, over the step that one block makes: the words after the whole blocks of a list, and what is left behind them.
use Rattle.std.proofs.Common.{◌≡◌, ℕ, ◌+◌, ◌-◌, ◌*◌, ◌/◌, ◌%◌, ◌<◌, ◌≤◌, List, ◌++◌, length, take, drop, sym, ap, ◌∙◌, append_assoc, append-nil}
use Rattle.std.proofs.Common.{arith, length-append, length-drop, take-append-drop, length-take-le}
use Rattle.std.proofs.Math.Seq.{drop-append-add}
use Rattle.block.specs.Message.{after, after_all}
use Rattle.block.proofs.Joined.{joins, small}
use Rattle.hasher.specs.Feed.{rest, padded}

pub rest_joins : (p r : List ℕ) (q : ℕ) → length p ≡ 64 * q → rest (p ++ r) ≡ rest r
unfolding rest
rest_joins p r q e =
    let a : 64 * (length (p ++ r) / 64) ≡ length p + 64 * (length r / 64) = simp length-append (omega arith) in
    rw a (drop-append-add p r _)

pub small_rest : (r : List ℕ) → length r < 64 → rest r ≡ r
unfolding rest
small_rest r h = let a : 64 * (length r / 64) ≡ 0 = omega arith in rw a

pub length_rest : (d : List ℕ) → length (rest d) ≡ length d % 64
unfolding rest
length_rest d = simp length-drop (omega arith)

-- what `remainder` of a slice's blocks gives
pub rest_cut : (d : List ℕ) → drop (length d - length d % 64) d ≡ rest d
unfolding rest
rest_cut d = ap (λ (k : ℕ). drop k d) (omega arith)

pub padded_full : (d : List ℕ) → length d ≡ 64 → padded d ≡ d
unfolding padded
padded_full d e = let a : 64 - length d ≡ 0 = omega arith in rw a (append-nil d)

-- d is its whole blocks and the rest
module _ (d : List ℕ) where
  whole : List ℕ
  whole = take (64 * (length d / 64)) d

  length_whole : length whole ≡ 64 * (length d / 64)
  unfolding whole
  length_whole = length-take-le (64 * (length d / 64)) d (omega arith)

  split : d ≡ whole ++ rest d
  unfolding whole rest
  split = sym (take-append-drop (64 * (length d / 64)) d)

  split_more : (b : List ℕ) → d ++ b ≡ whole ++ (rest d ++ b)
  split_more b = ap (λ (l : List ℕ). l ++ b) split ∙ append_assoc whole (rest d) b

  pub rest_goes_on : (b : List ℕ) → rest (rest d ++ b) ≡ rest (d ++ b)
  rest_goes_on b = sym (ap rest (split_more b) ∙ rest_joins whole (rest d ++ b) _ length_whole)

-- an open block o is filled by the first r bytes of s
module _ (o s : List ℕ) (r : ℕ) (e : length o + r ≡ 64) (h : r ≤ length s) where
  full : length (o ++ take r s) ≡ 64
  full = simp (length-append, length-take-le) (omega arith)

  cut : o ++ s ≡ (o ++ take r s) ++ drop r s
  cut = ap (λ (l : List ℕ). o ++ l) (sym (take-append-drop r s)) ∙ sym (append_assoc o (take r s) (drop r s))

  pub rest_fills : rest (drop r s) ≡ rest (o ++ s)
  rest_fills = sym (ap rest cut ∙ rest_joins (o ++ take r s) (drop r s) 1 full)

module _ (step : List ℕ → List ℕ → List ℕ) where
  -- exactly one block
  one : (w p : List ℕ) → length p ≡ 64 → after_all step w p ≡ after step w p 1
  unfolding after_all
  one w p e = let a : length p / 64 ≡ 1 = omega arith in rw a

  -- d and then b: b goes on from the words after d and the rest of d
  after_whole : (w d : List ℕ) → after_all step w d ≡ after step w (whole d) (length d / 64)
  after_whole w d =
      ap (after_all step w) (split d) ∙ joins step w (whole d) (rest d) _ (length_whole d) ∙ small step _ (rest d) (omega (arith, length_rest d))

  pub goes_on : (w d b : List ℕ) → after_all step (after_all step w d) (rest d ++ b) ≡ after_all step w (d ++ b)
  goes_on w d b =
      rw (after_whole w d, split_more d b) (sym (joins step w (whole d) (rest d ++ b) _ (length_whole d)))

  pub fills_up : (o s : List ℕ) (r : ℕ) → length o + r ≡ 64 → r ≤ length s → (w : List ℕ)
      → after_all step (after_all step w (padded (o ++ take r s))) (drop r s) ≡ after_all step w (o ++ s)
  fills_up o s r e h w =
      let f = full o s r e h in
      rw (padded_full _ f, one w (o ++ take r s) f, cut o s r e h) (sym (joins step w (o ++ take r s) (drop r s) 1 f))
