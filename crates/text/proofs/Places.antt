-- Laws of a text in a buffer: where it fits, and where it does not.
use Rattle.std.proofs.Common.{ℕ, ◌+◌, ◌≤◌, ◌<◌, List, ◌++◌, ◌≡◌, ◌∙◌, ⊎_elim, arith, le_refl, le-leb, length, take, drop}
use borrow.Author.Tests.{lt-leb}
use lib.Seq.{take-length, paste, length-paste, take-paste, drop-paste}
use Rattle.std.proofs.lemmas.Bool.{cases_lt}
use Rattle.words.specs.First.{◌if◌else◌}
use Rattle.text.specs.Text.{written, after}

module _ (out : List ℕ) (at : ℕ) (s : List ℕ) where
  -- what does not fit changes nothing
  module _ (h : length out < at + length s) where
    pub after_full : after (length out) at s ≡ at
    unfolding after ◌if◌else◌
    after_full = rw (lt-leb (at + length s) (length out) h)

    pub written_full : written out at s ≡ out
    unfolding written ◌if◌else◌
    written_full = rw (lt-leb (at + length s) (length out) h)

  module _ (h : at + length s ≤ length out) where
    pub after_put : after (length out) at s ≡ at + length s
    unfolding after ◌if◌else◌
    after_put = rw (le-leb (at + length s) (length out) h)

    pub written_put : written out at s ≡ paste out at s (length s)
    unfolding written ◌if◌else◌
    written_put = rw (le-leb (at + length s) (length out) h, take-length s)

    -- what stands in front of the new place, and behind it
    pub front_put : take (after (length out) at s) (written out at s) ≡ take at out ++ s
    front_put = rw (after_put, written_put) (take-paste out at s (length s) (omega arith) (le_refl _) ∙ rw take-length)

    pub behind_put : drop (after (length out) at s) (written out at s) ≡ drop (at + length s) out
    behind_put = rw (after_put, written_put) (drop-paste out at s (length s) (omega arith) (le_refl _))

  -- the buffer keeps its length, and the place stays within it
  pub length_written : length (written out at s) ≡ length out
  length_written =
      ⊎_elim
      (λ (h : length out < at + length s). rw (written_full h))
      (λ (h : at + length s ≤ length out). rw (written_put h) (length-paste out at s (length s) h (le_refl _)))
      (cases_lt (length out) (at + length s))

  pub after_within : at ≤ length out → after (length out) at s ≤ length out
  after_within g =
      ⊎_elim
      (λ (h : length out < at + length s). rw (after_full h) g)
      (λ (h : at + length s ≤ length out). rw (after_put h) h)
      (cases_lt (length out) (at + length s))
