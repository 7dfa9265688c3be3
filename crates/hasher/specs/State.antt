-- What a hasher does, as functions on its value. The laws that tie it to a whole message are in proofs/Laws.antt, here and in the crate `digest`.
use Rattle.std.specs.Prelude.{ℕ, List, replicate}
use Rattle.block.specs.Fips.{compress}
use Rattle.hasher.specs.Message.{padding, bytes}
use Rattle.hasher.specs.Feed.{next_block, next_words, next_count}
use Rattle.hasher.specs.Fips.{initial}
use Rattle.hasher.specs.declared.Hasher.{Hasher}

unfoldable pub started : Hasher
started = record { block = replicate 64 0; words = initial; count = 0 }

unfoldable pub updated : Hasher → List ℕ → Hasher
updated h s = record {
  block = next_block h.block h.count s;
  words = next_words compress h.words h.block h.count s;
  count = next_count h.count s;
}

unfoldable pub finished : Hasher → List ℕ
finished h = bytes (updated h (padding h.count)).words

-- a hasher that has had the bytes l and nothing else
unfoldable pub hasher_of : List ℕ → Hasher
hasher_of l = updated started l
