-- Any two results that a public function's promise allows on the same arguments are equal. Made by tests/results.py.
use Rattle.words.proofs.Determined.{same, Determined}
use Rattle.marks.proofs.word_at.Reads as word_at
use Rattle.marks.proofs.date_at.Reads as date-at
use Rattle.marks.proofs.entry_at.Reads as entry_at
use Rattle.marks.proofs.trailer.Reads as trailer

pub word_at_determined : Determined word_at.Learnt
word_at_determined κs a y z d e p q = same p.0.is q.0.is

pub date_at_determined : Determined date-at.Learnt
date_at_determined κs a y z d e p q = same p.is q.is

pub entry_at_determined : Determined entry_at.Learnt
entry_at_determined κs a y z d e p q = same p.is q.is

pub trailer_determined : Determined trailer.Learnt
trailer_determined κs a y z d e p q = same p.is q.is
