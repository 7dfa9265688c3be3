-- A hasher that has had a message gives the digest of it.
use Rattle.std.proofs.Common.{◌≡◌, ℕ, ◌+◌, ◌%◌, ◌^◌, List, length, refl, ap, ◌∙◌, arith}
use Rattle.block.specs.Message.{after_all}
use Rattle.block.specs.Fips.{compress}
use Rattle.hasher.specs.Message.{padding}
use Rattle.hasher.specs.Feed.{opened, next_words, next_count}
use Rattle.hasher.specs.Fips.{initial}
use Rattle.hasher.specs.State.{started, updated, finished, hasher_of}
use Rattle.hasher.proofs.Fed.{padding_mod}
use Rattle.hasher.proofs.Laws.{of_more}
use Rattle.digest.specs.Fips.{digest_of, sha1_of}

-- after a message it has the words and the count of that
words_of : (m : List ℕ) → (hasher_of m).words ≡ after_all compress initial m
unfolding hasher_of updated started next_words opened
words_of m = refl

padding_of : (l : List ℕ) → padding (hasher_of l).count ≡ padding (length l)
unfolding hasher_of updated started next_count
padding_of l =
    let n : (0 + length l) % 2 ^ 64 ≡ length l % 2 ^ 64 = omega arith in
    ap padding n ∙ padding_mod (length l)

pub of_finished : (l : List ℕ) → finished (hasher_of l) ≡ sha1_of l
unfolding finished sha1_of digest_of
of_finished l = rw (padding_of, of_more, words_of)
