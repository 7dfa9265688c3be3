-- SHA-1 as FIPS 180-4 defines it: the digest, over the step that one block makes (crate `block`, specs/Fips.antt). The first five words and what stands
-- behind a message are in the crate `hasher`, specs/Fips.antt and specs/Message.antt.
use Rattle.std.specs.Prelude.{ℕ, List, ◌++◌, length}
use Rattle.block.specs.Fips.{compress}
use Rattle.block.specs.Message.{after_all}
use Rattle.hasher.specs.Message.{padding, bytes}
use Rattle.hasher.specs.Fips.{initial}

-- 6.1.2, at the end: the digest
unfoldable pub digest_of : (List ℕ → List ℕ → List ℕ) → List ℕ → List ℕ → List ℕ
digest_of step h m = bytes (after_all step h (m ++ padding (length m)))

-- the digest of a message
unfoldable pub sha1_of : List ℕ → List ℕ
sha1_of m = digest_of compress initial m
