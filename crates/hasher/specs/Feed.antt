-- A message fed in pieces, over the step that one block makes: what is kept between two pieces is the open block, the words and the count.
use Rattle.std.specs.Prelude.{ℕ, ◌+◌, ◌-◌, ◌*◌, ◌/◌, ◌%◌, ◌^◌, List, ◌++◌, length, take, drop, replicate}
use Rattle.block.specs.Message.{after_all}

-- what is left of d behind its whole blocks
unfoldable pub rest : List ℕ → List ℕ
rest d = drop (64 * (length d / 64)) d

-- d, with zeros up to a whole block
unfoldable pub padded : List ℕ → List ℕ
padded d = d ++ replicate (64 - length d) 0

-- the bytes of the block b that are open after n bytes in all
unfoldable pub opened : List ℕ → ℕ → List ℕ
opened b n = take (n % 64) b

-- the three after the piece s
unfoldable pub next_block : List ℕ → ℕ → List ℕ → List ℕ
next_block b n s = padded (rest (opened b n ++ s))

unfoldable pub next_words : (List ℕ → List ℕ → List ℕ) → List ℕ → List ℕ → ℕ → List ℕ → List ℕ
next_words step w b n s = after_all step w (opened b n ++ s)

unfoldable pub next_count : ℕ → List ℕ → ℕ
next_count n s = (n + length s) % 2 ^ 64
