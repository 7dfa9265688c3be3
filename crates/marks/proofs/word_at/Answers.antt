-- `marks::word_at` meets its contract: what `word` answers reads what it says (`word_read`); the slice's bytes are bytes.
use Rattle.types.proofs.Saying.{answers}
use Rattle.marks.proofs.Ways.{word_read}
use Rattle.marks.proofs.word_at.Goals as goal

pub returns : goal.returns
returns c =
    record {
      is = answers c.word.ensures;
      read = word_read _ _ _ _ (λ i. (c.type_inv.s i).fits) c.word.ensures;
    }
