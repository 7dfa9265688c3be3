-- What the stages of opening that refuse nothing leave.
use Rattle.std.proofs.Common.{ℕ, ◌+◌, ◌≤◌, List, true, ◌≡◌, refl, ◌∙◌, arith, mul-one, length, Bor}
use Rattle.std.proofs.lemmas.Grind.{common_steps}
use Rattle.std.specs.Prelude.{Option}
use Rattle.types.specs.Width.{known}
use Rattle.words.specs.First.{◌if◌else◌, fine}
use Rattle.words.specs.Part.{RecordsOf}
use Rattle.words.proofs.Parts.{records_in}
use Rattle.chunk.specs.Index.{start_of, size_of}
use Rattle.chunk.specs.declared.Span.{Span}
use Rattle.file.specs.Table.{width, header, part_of, peak, peak_by}

-- what 1 to 5 leave of the size
pub record Headed (l : List ℕ) : Type 0 where
  pub most : length l ≤ 1073741824
  pub least : 1100 ≤ length l

pub headed : (l : List ℕ) → header l ≡ fine → Headed l
unfolding header ◌if◌else◌
headed l e = record { most = grind (arith, common_steps); least = grind (arith, common_steps) }

pub width_known : (l : List ℕ) → known (width l) ≡ true
unfolding width known
width_known l = refl

-- the part that was cut out of a file for a chunk that lies in it is the chunk's own bytes
pub cut_part : (s r : Bor (List ℕ)) (c : Option Span) {a n : ℕ} → a ≡ start_of c → n ≡ size_of c → start_of c + size_of c ≤ length s.now
    → RecordsOf s a n 1 r → r.now ≡ part_of s.now c
cut_part s r c {a} {n} d e h p = (records_in s r a n 1 (omega arith) p).bytes ∙ rw (mul-one, d, e)

-- with 20 tried, the entry that falls is the first
pub peak_tried : (p : List ℕ) → peak_by true p ≡ peak p
unfolding peak_by ◌if◌else◌
peak_tried p = refl
