-- What a mark and each case of `Checked` say: the bytes named, from where to where, and 1 where a trailer is right.
use Rattle.std.specs.Prelude.{[], ◌∷◌, Some, None, Result, Ok, Err}
use Rattle.types.specs.Said.{Said, says, refuses}
use Rattle.types.specs.declared.refusal.Refusal.{Refusal}
use Rattle.marks.specs.Marks.{Mark}
use Rattle.marks.specs.declared.Checked.{Checked}
use Rattle.marks.specs.declared.Checked.TheVariants.{Right, Wrong}

unfoldable pub mark_said : Mark → Said
mark_said (Ok (Some p)) = says 1 (p.start ∷ p.end ∷ [])
mark_said (Ok None) = says 0 []
mark_said (Err r) = refuses r

unfoldable pub checked_said : Result Checked Refusal → Said
checked_said (Ok (Right p)) = says 1 (p.start ∷ p.end ∷ [])
checked_said (Ok (Wrong p)) = says 0 (p.start ∷ p.end ∷ [])
checked_said (Err r) = refuses r
