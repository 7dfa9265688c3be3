-- What each answer says tells its cases and their values apart: a way back for each image.
use Rattle.std.proofs.Common.{ℕ, zero, suc, List, [], ◌∷◌, ◌≡◌, refl, ap, get_or, Result, Ok, Err}
use Rattle.std.specs.Prelude.{Some, None}
use Rattle.types.specs.Said.{Said}
use Rattle.types.specs.declared.refusal.Refusal.{Refusal}
use Rattle.types.proofs.Saying.{Back, refusal_of, refusal_back}
use Rattle.marks.specs.Marks.{Mark}
use Rattle.marks.specs.Said.{mark_said, checked_said}
use Rattle.marks.specs.declared.Checked.{Checked}
use Rattle.marks.specs.declared.Checked.TheVariants.{Right, Wrong}
use Rattle.chunk.specs.declared.Span.{Span}

abbrev span_from : List ℕ → Span
span_from vs = record { start = get_or vs 0 0; end = get_or vs 1 0 }

abbrev mark_from : Refusal → List ℕ → Mark
mark_from r [] = Err r
mark_from r (zero ∷ vs) = Ok None
mark_from r (suc n ∷ vs) = Ok (Some (span_from vs))

abbrev mark_of : Said → Mark
mark_of s = mark_from (refusal_of s) s.values

mark_again : (a : Mark) → mark_of (mark_said a) ≡ a
unfolding mark_said
mark_again (Ok (Some p)) = refl
mark_again (Ok None) = refl
mark_again (Err r) = ap Err (refusal_back r)

pub mark_back : Back mark_said
mark_back = record { of = mark_of; back = mark_again }

abbrev checked_from : Refusal → List ℕ → Result Checked Refusal
checked_from r [] = Err r
checked_from r (zero ∷ vs) = Ok (Wrong (span_from vs))
checked_from r (suc n ∷ vs) = Ok (Right (span_from vs))

abbrev checked_of : Said → Result Checked Refusal
checked_of s = checked_from (refusal_of s) s.values

checked_again : (a : Result Checked Refusal) → checked_of (checked_said a) ≡ a
unfolding checked_said
checked_again (Ok (Right p)) = refl
checked_again (Ok (Wrong p)) = refl
checked_again (Err r) = ap Err (refusal_back r)

pub checked_back : Back checked_said
checked_back = record { of = checked_of; back = checked_again }
