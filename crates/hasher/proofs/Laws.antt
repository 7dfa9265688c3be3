-- The laws of a hasher: what it has had in pieces is what it has had. That it then gives the digest of it is in the crate `digest`.
use Rattle.std.proofs.Common.{◌≡◌, ℕ, List, [], ◌++◌, length, refl}
use Rattle.block.specs.Message.{after, after_all}
use Rattle.block.specs.Fips.{compress}
use Rattle.hasher.specs.Feed.{rest, padded, opened, next_block, next_words, next_count}
use Rattle.hasher.specs.State.{started, updated, hasher_of}
use Rattle.hasher.specs.declared.Hasher.{Hasher}
use Rattle.hasher.proofs.Fed.{block_twice, words_twice, count_twice}

pub same : {b b' w w' : List ℕ} {c c' : ℕ} → b ≡ b' → w ≡ w' → c ≡ c'
    → ◌≡◌ {A = Hasher} (record { block = b; words = w; count = c }) (record { block = b'; words = w'; count = c' })
same p q r = λ i. record { block = p i; words = q i; count = r i }

-- two pieces are one
pub together : (h : Hasher) (a b : List ℕ) → length h.block ≡ 64 → updated (updated h a) b ≡ updated h (a ++ b)
unfolding updated
together h a b e =
    same
    (block_twice h.block h.count e a b)
    (words_twice h.block h.count e a b compress h.words)
    (count_twice h.block h.count e a b)

-- a new hasher's block is whole
full : length started.block ≡ 64
unfolding started
full = refl

-- ---- what a caller cites
pub of_none : started ≡ hasher_of []
unfolding hasher_of updated started next_block next_words next_count opened padded rest after_all after
of_none = refl

pub of_more : (l s : List ℕ) → updated (hasher_of l) s ≡ hasher_of (l ++ s)
unfolding hasher_of
of_more l s = together started l s full
