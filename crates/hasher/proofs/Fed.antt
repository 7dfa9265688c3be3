-- A message fed in pieces, over the step that one block makes: two pieces are one, and what is put behind a message goes by the count kept.
use Rattle.std.proofs.Common.{◌≡◌, ℕ, ◌+◌, ◌-◌, ◌*◌, ◌%◌, ◌^◌, ◌<◌, List, ◌∷◌, ◌++◌, length, take, replicate, sym, ap, ap₂, ◌∙◌, append_assoc}
use Rattle.std.proofs.Common.{one-add, arith, length-append, eq-eqb, ne_eqb}
use Rattle.std.proofs.lemmas.List.{length-take-le, take_at, take-replicate}
use Rattle.words.specs.First.{first}
use Rattle.words.proofs.Numbers.{bytes_same}
use Rattle.words.proofs.Searches.{first_is}
use Rattle.hasher.specs.Message.{fills, padding}
use Rattle.hasher.specs.Feed.{rest, padded, opened, next_block, next_words, next_count}
use Rattle.hasher.proofs.Blocks.{goes_on, rest_goes_on, length_rest}

-- the open bytes after a piece
take_in_opened : (p q : List ℕ) (k : ℕ) → length p ≡ k % 64 → opened (p ++ q) k ≡ p
unfolding opened
take_in_opened p q k h = take_at p q (k % 64) h

module _ (b : List ℕ) (n : ℕ) (e : length b ≡ 64) where
  pub length_opened : length (opened b n) ≡ n % 64
  unfolding opened
  length_opened = length-take-le (n % 64) b (omega arith)

  opened_next : (a : List ℕ) → opened (next_block b n a) (next_count n a) ≡ rest (opened b n ++ a)
  unfolding next_block next_count padded
  opened_next a =
      let d : List ℕ = opened b n ++ a in
      let l : length d ≡ n % 64 + length a = length-append (opened b n) a ∙ ap (λ (k : ℕ). k + length a) length_opened in
      let m : length (rest d) ≡ (n + length a) % 2 ^ 64 % 64 = omega (arith, length_rest d) in
      take_in_opened (rest d) _ _ m

  -- two pieces are one
  module _ (a c : List ℕ) where
    pub block_twice : next_block (next_block b n a) (next_count n a) c ≡ next_block b n (a ++ c)
    unfolding next_block
    block_twice = rw (opened_next a, rest_goes_on, append_assoc)

    pub words_twice : (step : List ℕ → List ℕ → List ℕ) (w : List ℕ)
        → next_words step (next_words step w b n a) (next_block b n a) (next_count n a) c ≡ next_words step w b n (a ++ c)
    unfolding next_words
    words_twice step w = rw (opened_next a, goes_on, append_assoc)

    pub count_twice : next_count (next_count n a) c ≡ next_count n (a ++ c)
    unfolding next_count
    count_twice = simp length-append (omega arith)

-- how many zeros stand behind the mark
pub zeros : (n : ℕ) → first (fills n) 0 64 ≡ (119 - n % 64) % 64
unfolding fills
zeros n =
    first_is (fills n) 64 ((119 - n % 64) % 64) (omega arith)
    (eq-eqb ((n + 1 + (119 - n % 64) % 64) % 64) 56 (omega arith))
    (λ j h. ne_eqb ((n + 1 + j) % 64) 56 (λ e. omega arith))

-- what is put behind a message goes by the count that is kept
pub padding_mod : (n : ℕ) → padding (n % 2 ^ 64) ≡ padding n
unfolding padding
padding_mod n =
    let z : (119 - n % 2 ^ 64 % 64) % 64 ≡ (119 - n % 64) % 64 = omega arith in
    ap₂ (λ (k : ℕ) (l : List ℕ). (0x80 ∷ replicate k 0) ++ l)
    (zeros (n % 2 ^ 64) ∙ z ∙ sym (zeros n))
    (bytes_same 8 (8 * (n % 2 ^ 64)) (8 * n) (omega arith))

-- the mark and z zeros
pub mark : (z : ℕ) → z < 64 → take {A = ℕ} (1 + z) (0x80 ∷ replicate 63 0) ≡ 0x80 ∷ replicate z 0
mark z h = rw one-add (ap (λ (l : List ℕ). 0x80 ∷ l) (take-replicate z 63 0 (omega arith)))
